-- The second link exists, by the rules of a good book.
use Rattle.book.proofs.GoodBook.{good_book}
use Rattle.book.proofs.CheckedBook.turn_second.Goals as goal

pub returns-clause-exists : goal.returns-clause-exists
returns-clause-exists c = rw (c.field.ensures, c.turns.ensures.bytes, c.from.ensures) ((good_book _ _ c.args.self.good).turn _ c.requires).second
