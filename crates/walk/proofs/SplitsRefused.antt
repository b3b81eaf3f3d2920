-- A split is refused where the one that is computed from the book's bytes is another.
use Prim.Native.Nat.{ℕ}
use mathlib.Core.Path.{◌≡◌, refl, sym, ap, ◌∙◌}
use mathlib.Core.List.{List, []}
use mathlib.Core.Bool.{Bool, true, false, ◌&&◌}
use lib.Dec.{eqb}
use borrow.Author.Tests.{eqb-true}
use Rattle.book.specs.Number.{number_at, with_number}
use Rattle.book.specs.Header.{mark_good, version_good, counts_of, counts_good}
use Rattle.book.specs.Entries.{line_good, link_good, seconds_good, ascends, join_good}
use Rattle.book.specs.FirstBad.{first_bad_from}
use Rattle.book.specs.Check.{tables_of, check_of}
use Rattle.book.specs.BookA.{book_a}
use Rattle.book.proofs.Limits.{both}
use Rattle.walk.specs.declared.Split.{Split}
use Rattle.std.specs.Prelude.{Ok, Err}
use Rattle.walk.specs.View.{listed_in, up_to}
use Rattle.walk.specs.Walks.{turn_of, look_up, permitted, cost_of, figures_of}
use Rattle.walk.specs.Given.{Answer, permitted_at, cost_answer, cost_of_walk}
use Rattle.walk.specs.Cases.{All}
use Rattle.walk.specs.RefusedSplits.{split, Parted, loop_a, wrong_splits, SplitsInto, SplitRefused}
use Rattle.walk.proofs.theory.Laws.{clash}
use Rattle.walk.proofs.Growth.{same_split}
use Rattle.walk.proofs.EveryRow.{every_row}
use Rattle.walk.proofs.CaseTests.{differ}
use Rattle.walk.proofs.LabelledTrue.{right_alone}

abbrev splits_as : Answer → Split → Bool
splits_as (Err none) right = false
splits_as (Ok found) right = eqb found.split.ride right.ride && (eqb found.split.wait right.wait && (eqb found.split.walk right.walk && eqb found.split.extra right.extra))

splits_as_lem : (answer : Answer) (right : Split) → splits_as answer right ≡ true → (cost : ℕ) × (answer ≡ permitted_at cost right)
splits_as_lem (Err none) right h = clash (cc)
splits_as_lem (Ok found) right h =
    let (rides, rest) = both _ _ h in
    let (waits, rest) = both _ _ rest in
    let (walks, extras) = both _ _ rest in
    (found.cost, ap (permitted_at found.cost) (same_split (eqb-true _ _ rides) (eqb-true _ _ waits) (eqb-true _ _ walks) (eqb-true _ _ extras)))

abbrev figures_in : Answer → List ℕ
figures_in (Err none) = []
figures_in (Ok found) = figures_of found.split

-- one walk has one split
split_one : (book links : List ℕ) (one other : Split) → SplitsInto book links one → SplitsInto book links other → figures_of one ≡ figures_of other
split_one book links one other (_, a) (_, b) = ap figures_in (sym a ∙ b)

abbrev row_refuted : Parted → Bool
row_refuted row = splits_as (cost_of_walk row.book 0 row.links) row.right && differ (figures_of row.claimed) (figures_of row.right)

row_refused : (row : Parted) → row_refuted row ≡ true → SplitRefused row
row_refused row h =
    let (right, apart) = both _ _ h in
    right_alone (SplitsInto row.book row.links) figures_of (split_one row.book row.links) row.right row.claimed (splits_as_lem _ row.right right) apart

pub splits_refused : All SplitRefused wrong_splits
unfolding check_of tables_of first_bad_from number_at with_number mark_good version_good counts_of counts_good line_good link_good join_good ascends seconds_good listed_in up_to turn_of look_up permitted cost_of cost_answer
splits_refused = every_row SplitRefused row_refuted row_refused wrong_splits refl

-- the split of book A's route from 0 to 3
pub loop_splits : cost_of_walk book_a 0 loop_a ≡ permitted_at 342 (split 230 3 9 100)
unfolding check_of tables_of first_bad_from number_at mark_good version_good counts_of counts_good line_good link_good join_good ascends seconds_good listed_in up_to turn_of look_up permitted cost_of cost_answer
loop_splits = refl
