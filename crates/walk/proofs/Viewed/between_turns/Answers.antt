-- The table lists two turns where the first one's run does.
use Rattle.book.proofs.GoodBook.{good_book}
use Rattle.walk.proofs.PairRuns.{listed_from}
use Rattle.walk.proofs.Viewed.between_turns.Goals as goal

pub returns : goal.returns
returns c =
    let run = c.pairs_of-run.ensures in
    rw (← listed_from _ _ (good_book _ _ c.args.self.book.good).pairs _ _, ← run.start, ← run.end, ← c.pair_from-at.ensures) c.between_at.ensures
