-- The pairs of a good book ascend.
use Rattle.book.proofs.GoodBook.{good_book}
use Rattle.book.proofs.CheckedBook.pairs_from.Goals as goal

pub run_from-requires : goal.run_from-requires
run_from-requires c = rw (c.pairs.ensures.bytes, c.pairs.ensures.count) (λ k l. ((good_book _ _ c.args.self.good).pair k l).order)
