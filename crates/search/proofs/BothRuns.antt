-- A turn's followers and its pairs both ascend: the pairs passed are of followers passed, so the next follower's pair is found from there on.
use Prim.Native.Nat.{ℕ, ◌+◌, ◌-◌, ◌≤◌, ◌<◌}
use mathlib.Core.Path.{◌≡◌, sym, ◌∙◌}
use mathlib.Core.List.{List}
use mathlib.Core.Bool.{Bool}
use native.Mathlib.Omega.{arith}
use native.Mathlib.Decide.{dec_lt}
use lib.Dec.{ltb}
use borrow.Author.Tests.{ltb-true, ltb-false}
use Rattle.book.specs.declared.Counts.{Counts}
use Rattle.std.specs.Prelude.{Ok}
use Rattle.book.specs.Tables.{turn_table, pair_table}
use Rattle.book.specs.Entries.{turn_first, turn_second, pair_second}
use Rattle.book.specs.Check.{check_of}
use Rattle.book.specs.Runs.{run_from}
use Rattle.book.proofs.FirstBad.{First, first_from}
use Rattle.book.proofs.GoodBook.{good_book}
use Rattle.walk.specs.View.{listed_in}
use Rattle.walk.specs.steps.Pairs.{pair_from, listed_at}
use Rattle.walk.proofs.Runs.{in_run, run_of, ends_within, ends_after}
use Rattle.walk.proofs.PairRuns.{listed_run}

-- turn p's followers are the turns from `start` up to `end`, and its pairs those from `first` up to `to`
pub record RunsOf (book : List ℕ) (counts : Counts) (p start end first to : ℕ) : Type 0 where
  pub checked : check_of book ≡ Ok counts
  pub link : ℕ
  pub leads : link ≡ turn_second (turn_table book counts) p
  pub starts : start ≡ run_from (turn_table book counts) counts.turns link
  pub ends : end ≡ run_from (turn_table book counts) counts.turns (link + 1)
  pub pairs_start : first ≡ run_from (pair_table book counts) counts.pairs p
  pub pairs_end : to ≡ run_from (pair_table book counts) counts.pairs (p + 1)

-- the followers before t are passed, and the pairs before `at` are of these
pub record SideBySide (book : List ℕ) (counts : Counts) (p start end first to at t : ℕ) : Type 0 where
  pub runs : RunsOf book counts p start end first to
  pub from : start ≤ t
  pub within : t ≤ end
  pub pairs_from : first ≤ at
  pub pairs_within : at ≤ to
  pub earlier : (k : ℕ) → first ≤ k → k < at → pair_second (pair_table book counts) k < t

module _ {book : List ℕ} {counts : Counts} {p start end first to : ℕ} (runs : RunsOf book counts p start end first to) where
  pub followers_listed : end ≤ counts.turns
  followers_listed = ends_within _ _ _ runs.ends

  pub pairs_listed : to ≤ counts.pairs
  pairs_listed = ends_within _ _ _ runs.pairs_end

  -- a turn that begins with turn p's second link is a follower
  pub follows : (t : ℕ) → t < counts.turns → turn_second (turn_table book counts) p ≡ turn_first (turn_table book counts) t → (start ≤ t) × (t < end)
  follows t h meets =
      let (begun, inside) = run_of (turn_table book counts) counts.turns (good_book book counts runs.checked).turns t h runs.link (sym meets ∙ sym runs.leads) in
      (omega (arith, runs.starts), omega (arith, runs.ends))

  -- and a follower begins with it
  pub follower : (t : ℕ) → start ≤ t → t < end → turn_second (turn_table book counts) p ≡ turn_first (turn_table book counts) t
  follower t a b =
      let listed : t < counts.turns = omega (arith, followers_listed) in
      let begins : turn_first (turn_table book counts) t ≡ runs.link = in_run (turn_table book counts) counts.turns (good_book book counts runs.checked).turns t listed runs.link (omega (arith, runs.starts)) (omega (arith, runs.ends)) in
      sym (begins ∙ runs.leads)

  -- no turn before the followers begins with it
  pub none_before : (k : ℕ) → k < start → turn_second (turn_table book counts) p ≡ turn_first (turn_table book counts) k → ⊥
  none_before k h meets =
      let listed : k < counts.turns = omega (arith, ends_within _ _ _ runs.starts) in
      omega (arith, follows k listed meets)

  pub both_first : SideBySide book counts p start end first to first start
  both_first =
      record {
        runs = runs;
        from = omega arith;
        within = ends_after _ _ _ runs.starts runs.ends;
        pairs_from = omega arith;
        pairs_within = ends_after _ _ _ runs.pairs_start runs.pairs_end;
        earlier = λ k a b. absurd (omega arith);
      }

module _ {book : List ℕ} {counts : Counts} {p start end first to at t : ℕ} (both : SideBySide book counts p start end first to at t) where
  -- no turn from the end of the followers on begins with it
  pub none_after : end ≤ t → (k : ℕ) → k < counts.turns → t ≤ k → turn_second (turn_table book counts) p ≡ turn_first (turn_table book counts) k → ⊥
  none_after done k h past meets = omega (arith, follows both.runs k h meets)

  -- the first pair from `at` on whose second turn is not before t
  module _ {next : ℕ} (found : next ≡ pair_from (pair_table book counts) at to t) where
    abbrev before_turn : ℕ → Bool
    before_turn k = ltb (pair_second (pair_table book counts) k) t

    sought : First before_turn at to next
    unfolding pair_from
    sought =
        let whole : at + (to - at) ≡ to = omega (arith, both.pairs_within) in
        rw found (rw whole at (first_from before_turn at (to - at)))

    before : (k : ℕ) → first ≤ k → k < next → pair_second (pair_table book counts) k < t
    before k a b = by (dec_lt k at)
      where
        by : Dec (k < at) → pair_second (pair_table book counts) k < t
        by (yes l) = both.earlier k a l
        by (no n) = ltb-true _ _ (sought.before k (omega arith) b)

    -- what it lists is what the table lists
    pub listed_there : listed_at (pair_table book counts) next to t ≡ listed_in (pair_table book counts) counts.pairs p t
    listed_there =
        let starts = both.runs.pairs_start in
        let ends = both.runs.pairs_end in
        rw ends
        (listed_run (pair_table book counts) counts.pairs (good_book book counts both.runs.checked).pairs p t next
        (omega (arith, sought.from, both.pairs_from))
        (omega (arith, sought.within))
        (λ k a b. before k (omega arith) b)
        (λ h. ltb-false _ _ (sought.at (omega arith))))

    pub both_next : t < end → SideBySide book counts p start end first to next (t + 1)
    both_next inside =
        record {
          runs = both.runs;
          from = omega (arith, both.from);
          within = omega arith;
          pairs_from = omega (arith, both.pairs_from, sought.from);
          pairs_within = sought.within;
          earlier = λ k a b. omega (arith, before k a b);
        }
