-- The turn from one link to another stands among the first link's followers, so a search of these alone finds it.
use Prim.Native.Nat.{ℕ, ◌+◌, ◌≤◌, ◌<◌}
use mathlib.Core.Path.{◌≡◌, refl, sym}
use mathlib.Core.List.{List}
use native.Mathlib.Omega.{arith}
use native.Mathlib.Decide.{dec_lt}
use borrow.Author.Tests.{lt-ltb, le-ltb}
use Rattle.book.specs.declared.Counts.{Counts}
use Rattle.std.specs.Prelude.{Option, Some, None, Ok, MatchOption, option_map}
use Rattle.book.specs.Tables.{turn_table}
use Rattle.book.specs.Entries.{turn_first, turn_second}
use Rattle.book.specs.Check.{check_of}
use Rattle.book.specs.Runs.{run_from}
use Rattle.book.proofs.GoodBook.{good_book}
use Rattle.walk.specs.View.{View, view_with}
use Rattle.walk.specs.Walks.{turn_of}
use Rattle.walk.specs.steps.Onward.{numbered, turn_found}
use Rattle.walk.proofs.GoodView.{good_view, turn_links, turn_of_lem, turn_within}
use Rattle.walk.proofs.Runs.{run_within, in_run, run_of}

-- the walks have no part in it
pub same_turn_of : (book : List ℕ) (counts : Counts) (walks others : List ℕ) (a b : ℕ) → turn_of (view_with book counts walks) a b ≡ turn_of (view_with book counts others) a b
unfolding turn_of
same_turn_of book counts walks others a b = refl

module _ (book : List ℕ) (counts : Counts) (walks : List ℕ) (checked : check_of book ≡ Ok counts) (a b : ℕ) where
  abbrev U : View
  U = view_with book counts walks

  abbrev table : List ℕ
  table = turn_table book counts

  -- the followers of link a
  module _ (from to : ℕ) (starts : from ≡ run_from table counts.turns a) (ends : to ≡ run_from table counts.turns (a + 1)) where
    follower : (t : ℕ) → t < to → t < counts.turns
    follower t h = omega (arith, run_within table counts.turns (a + 1))

    by_links : (t : ℕ) → from ≤ t → t < to → turn_second table t ≡ b → t ≡ turn_of U a b
    by_links t h l e =
        let first : turn_first table t ≡ a = in_run table counts.turns (good_book book counts checked).turns t (follower t l) a (omega arith) (omega arith) in
        sym (rw (first, e) at (turn_of_lem U (good_view book counts walks checked) t (follower t l)))

    one_found : (t : ℕ) → from ≤ t → t < to → turn_second table t ≡ b → Some (numbered t) ≡ turn_found U a b
    one_found t h l e =
        let same = by_links t h l e in
        let listed : turn_of U a b < counts.turns = rw same at (follower t l) in
        rw (lt-ltb _ _ listed, ← same)

    -- where all of them lead elsewhere, there is no such turn
    past : ((t : ℕ) → from ≤ t → t < to → turn_second table t ≡ b → ⊥) → counts.turns ≡ turn_of U a b
    past h = by (dec_lt (turn_of U a b) counts.turns)
      where
        by : Dec (turn_of U a b < counts.turns) → counts.turns ≡ turn_of U a b
        by (yes l) =
            let (first, second) = turn_links U a b l in
            let (begun, within) = run_of table counts.turns (good_book book counts checked).turns (turn_of U a b) l a first in
            absurd (h (turn_of U a b) (omega arith) (omega arith) second)
        by (no n) = omega (arith, turn_within U a b)

    -- so what is found among them is the turn
    pub found_among : (found : Option ℕ) → MatchOption found ((t : ℕ) → from ≤ t → t < to → turn_second table t ≡ b → ⊥) (λ t. (from ≤ t) × (t < to) × (turn_second table t ≡ b) × ((k : ℕ) → from ≤ k → k < t → turn_second table k ≡ b → ⊥)) → option_map numbered found ≡ turn_found U a b
    found_among None h = rw (le-ltb (turn_of U a b) counts.turns (omega (arith, past h)))
    found_among (Some t) h = one_found t h.0 h.1 h.2
