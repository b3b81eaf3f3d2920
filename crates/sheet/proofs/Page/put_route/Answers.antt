-- A nought, the cost, the four figures and the count after their blanks, the links, and the newline.
use Rattle.sheet.proofs.LineLaws.{route_put}
use Rattle.sheet.proofs.Page.put_route.Goals as goal

pub returns : goal.returns
returns c = rw (← c.from.ensures) (route_put _ _ _ c.put_decimal.ensures c.put_field.ensures c.put_split.ensures c.put_field-2.ensures c.put_links.ensures c.put_byte.ensures)
