-- The turns of a good book ascend.
use Rattle.book.proofs.GoodBook.{good_book}
use Rattle.book.proofs.CheckedBook.turns_from.Goals as goal

pub run_from-requires : goal.run_from-requires
run_from-requires c = rw (c.turns.ensures.bytes, c.turns.ensures.count) (λ k l. ((good_book _ _ c.args.self.good).turn k l).order)
