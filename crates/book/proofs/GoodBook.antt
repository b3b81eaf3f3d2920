-- What a checked book gives the layers above: its limits, its rules entry by entry, and the order of its turns and pairs.
use Prim.Native.Nat.{ℕ, ◌≤◌, ◌<◌}
use mathlib.Core.Path.{◌≡◌}
use mathlib.Core.List.{List}
use lib.ListN.{length}
use Rattle.book.specs.declared.Counts.{Counts}
use Rattle.std.specs.Prelude.{Ok}
use Rattle.book.specs.Header.{counts_of}
use Rattle.book.specs.Tables.{book_end, line_table, link_table, turn_table, pair_table}
use Rattle.book.specs.Entries.{line_headway, most_headway, link_from, link_to, turn_first, turn_second}
use Rattle.book.specs.Check.{check_of}
use Rattle.book.proofs.Limits.{Limits, limits}
use Rattle.book.proofs.Passes.{passes}
use Rattle.book.proofs.Rules.{LinkRules, JoinRules, Ascending, headway_limit, link_rules, join_rules, ascending}

pub record GoodBook (book : List ℕ) (counts : Counts) : Type 0 where
  pub counted : counts_of book ≡ counts
  pub limited : Limits counts
  pub size : length book ≡ book_end counts
  pub headway : (k : ℕ) → k < counts.lines → line_headway (line_table book counts) k ≤ most_headway
  pub link : (k : ℕ) → k < counts.links → LinkRules counts.nodes counts.lines (link_table book counts) k
  pub turn : (k : ℕ) → k < counts.turns → JoinRules counts.links (link_to (link_table book counts)) (link_from (link_table book counts)) (turn_table book counts) k
  pub turns : Ascending (turn_table book counts) counts.turns
  pub pair : (k : ℕ) → k < counts.pairs → JoinRules counts.turns (turn_second (turn_table book counts)) (turn_first (turn_table book counts)) (pair_table book counts) k
  pub pairs : Ascending (pair_table book counts) counts.pairs

module _ (book : List ℕ) (counts : Counts) (h : check_of book ≡ Ok counts) where
  turn_good : (k : ℕ) → k < counts.turns → JoinRules counts.links (link_to (link_table book counts)) (link_from (link_table book counts)) (turn_table book counts) k
  turn_good k l = join_rules _ _ _ _ k ((passes book counts h).tables.turn k l)

  pair_good : (k : ℕ) → k < counts.pairs → JoinRules counts.turns (turn_second (turn_table book counts)) (turn_first (turn_table book counts)) (pair_table book counts) k
  pair_good k l = join_rules _ _ _ _ k ((passes book counts h).tables.pair k l)

  pub good_book : GoodBook book counts
  good_book =
      let p = passes book counts h in
      record {
        counted = p.counted;
        limited = limits counts p.limited;
        size = p.size;
        headway = λ k l. headway_limit _ k (p.tables.line k l);
        link = λ k l. link_rules _ _ _ k (p.tables.link k l);
        turn = turn_good;
        turns = ascending _ _ (λ k l. (turn_good k l).order);
        pair = pair_good;
        pairs = ascending _ _ (λ k l. (pair_good k l).order);
      }
