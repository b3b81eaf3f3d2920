-- A book that passes its check is as long as its counts give, and they are within their limits.
use Rattle.book.proofs.GoodBook.{good_book}
use Rattle.book.proofs.CheckedBook.carry.Goals as goal

pub invariant_of-result : goal.invariant_of-result
invariant_of-result c =
    let good = good_book _ _ c.requires in
    record {
      good = c.requires;
      whole = good.size;
      links_limited = good.limited.links;
      turns_limited = good.limited.turns;
      pairs_limited = good.limited.pairs;
      carry_over_limited = good.limited.carry_over;
    }
