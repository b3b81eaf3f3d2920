-- Document 02, request 5: where wrong splits would put the minutes of a given walk, each beside the right one.
use Rattle.std.specs.Prelude.{ℕ, ◌≡◌, List, [], ◌∷◌}
use Rattle.book.specs.Number.{with_number}
use Rattle.book.specs.BookA.{book_a}
use Rattle.walk.specs.declared.Split.{Split}
use Rattle.walk.specs.Given.{permitted_at, cost_of_walk}
use Rattle.walk.specs.Cases.{long_headway_a}
use Rattle.walk.specs.Labelled.{RightAlone}
use Rattle.walk.specs.RefusedSheets.{listed_at_zero}

abbrev pub split : ℕ → ℕ → ℕ → ℕ → Split
split ride wait walk extra = record { ride = ride; wait = wait; walk = walk; extra = extra }

-- a book, links from node 0, how they split, and how a wrong version would split them
pub record Parted : Type 0 where
  pub book : List ℕ
  pub links : List ℕ
  pub right : Split
  pub claimed : Split

abbrev pub parted : List ℕ → List ℕ → Split → Split → Parted
parted book links right claimed = record { book = book; links = links; right = right; claimed = claimed }

-- book A with its pair listed at 30 seconds and a walk of 10 in turn 0
abbrev pub listed_at_thirty : List ℕ
listed_at_thirty = with_number listed_at_zero 95 30

abbrev pub loop_a : List ℕ
loop_a = 0 ∷ 1 ∷ 3 ∷ 1 ∷ 2 ∷ []

abbrev pub wrong_splits : List Parted
wrong_splits =
    -- wait and walk exchanged
    parted book_a loop_a (split 230 3 9 100) (split 230 9 3 100)
    -- the carry-over counted as walk; left out
    ∷ parted book_a loop_a (split 230 3 9 100) (split 230 3 109 0)
    ∷ parted book_a loop_a (split 230 3 9 100) (split 230 3 9 0)
    -- a listed extra counted as walk; left out; the carry-over beside it, and beside a listed 0
    ∷ parted listed_at_thirty (0 ∷ 1 ∷ 2 ∷ []) (split 120 0 15 30) (split 120 0 45 0)
    ∷ parted listed_at_thirty (0 ∷ 1 ∷ 2 ∷ []) (split 120 0 15 30) (split 120 0 15 0)
    ∷ parted listed_at_thirty (0 ∷ 1 ∷ 2 ∷ []) (split 120 0 15 30) (split 120 0 15 130)
    ∷ parted listed_at_zero (0 ∷ 1 ∷ 2 ∷ []) (split 120 0 15 0) (split 120 0 15 100)
    -- the first link's wait left out; counted as ride; a wait in a seat that is kept
    ∷ parted long_headway_a loop_a (split 230 123 9 100) (split 230 83 9 100)
    ∷ parted long_headway_a loop_a (split 230 123 9 100) (split 270 83 9 100)
    ∷ parted long_headway_a (0 ∷ 1 ∷ []) (split 90 40 0 0) (split 90 80 0 0)
    ∷ []

-- the cost of these links, asked as those of a given walk from node 0, splits so, whatever it is
abbrev pub SplitsInto : List ℕ → List ℕ → Split → Type 0
SplitsInto book links figures = (cost : ℕ) × (cost_of_walk book 0 links ≡ permitted_at cost figures)

-- the right split alone
abbrev pub SplitRefused : Parted → Type 0
SplitRefused row = RightAlone (SplitsInto row.book row.links) row.right row.claimed
