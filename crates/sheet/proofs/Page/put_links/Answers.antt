-- The fields of the links passed are put.
use Rattle.std.proofs.Common.{refl}
use Rattle.sheet.proofs.LineLaws.{none_put, one_put}
use Rattle.sheet.proofs.Page.put_links.Goals as goal

pub loop-link-init : goal.loop-link-init
loop-link-init c = none_put _

pub loop-link-preserved : goal.loop-link-preserved
loop-link-preserved c = one_put _ _ _ _ refl c.loop-link-test.true c.from.ensures c.loop-link.invariant c.put_field.ensures
