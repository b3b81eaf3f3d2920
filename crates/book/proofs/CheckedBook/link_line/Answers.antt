-- The line exists, by the rules of a good book.
use Rattle.book.proofs.GoodBook.{good_book}
use Rattle.book.proofs.CheckedBook.link_line.Goals as goal

pub returns-clause-exists : goal.returns-clause-exists
returns-clause-exists c = rw (c.field.ensures, c.links.ensures.bytes, c.from.ensures) ((good_book _ _ c.args.self.good).link _ c.requires).line
