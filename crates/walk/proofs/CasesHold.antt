-- P1 to P11: the test of each case is computed over its book's bytes, and what passes its test holds over walks.
use mathlib.Core.Path.{◌≡◌, refl}
use mathlib.Core.List.{List, [], ◌∷◌}
use Prim.Native.Nat.{ℕ}
use mathlib.Core.Bool.{Bool, true, ◌&&◌}
use lib.Dec.{ltb}
use borrow.Author.Tests.{ltb-true}
use Rattle.book.specs.declared.Counts.{Counts}
use Rattle.std.specs.Prelude.{Ok}
use Rattle.book.specs.Number.{number_at, with_number}
use Rattle.book.specs.Header.{mark_good, version_good, counts_of, counts_good}
use Rattle.book.specs.Entries.{line_good, link_good, seconds_good, ascends, join_good}
use Rattle.book.specs.FirstBad.{first_bad_from}
use Rattle.book.specs.Check.{tables_of, check_of}
use Rattle.book.specs.Changes.{Change, with_walk, with_changes}
use Rattle.book.proofs.Limits.{both}
use Rattle.book.proofs.WalkWritten.{walk_written}
use Rattle.walk.specs.View.{View, view_of, walks_of, listed_in, up_to}
use Rattle.walk.specs.Walks.{look_up}
use Rattle.walk.specs.Counting.{same_entry, differing}
use Rattle.walk.specs.Cases.{Case, cases, changed_in, All, Holds}
use Rattle.walk.specs.steps.Costs.{turn_cost}
use Rattle.walk.specs.steps.Rows.{rounds_of}
use Rattle.walk.proofs.GoodView.{good_view}
use Rattle.walk.proofs.EveryRow.{every_row}
use Rattle.walk.proofs.CaseTests.{good_with, good_with_lem, settled, turn_at, link_at, route_at, route_links, passes, all_pass, claims_hold}

module _ (counts : Counts) where
  abbrev changes_good : List Change → Bool
  changes_good [] = true
  changes_good (e ∷ rest) = (ltb e.turn counts.turns && seconds_good e.walk) && changes_good rest

  -- a good book with allowed walks is a good book with its counts
  pub changed_good : (book : List ℕ) (changes : List Change) → check_of book ≡ Ok counts → changes_good changes ≡ true → check_of (with_changes book counts changes) ≡ Ok counts
  changed_good book [] good h = good
  changed_good book (e ∷ rest) good h =
      let (here, later) = both (ltb e.turn counts.turns && seconds_good e.walk) (changes_good rest) h in
      let (turn, walk) = both (ltb e.turn counts.turns) (seconds_good e.walk) here in
      changed_good (with_walk book counts e.turn e.walk) rest ((walk_written book counts e.turn e.walk good (ltb-true _ _ turn)).good walk) later

abbrev before : Case → View
before c = view_of c.book c.counts

abbrev changed : Case → View
changed c = view_of (changed_in c) c.counts

abbrev case_good : Case → Bool
case_good c = good_with (check_of c.book) c.counts && (changes_good c.counts c.changes && (settled (before c) && (settled (changed c) && all_pass (before c) (changed c) c.claims)))

case_holds : (c : Case) → case_good c ≡ true → Holds c
case_holds c h =
    let (checks, rest) = both (good_with (check_of c.book) c.counts) (changes_good c.counts c.changes && (settled (before c) && (settled (changed c) && all_pass (before c) (changed c) c.claims))) h in
    let (changes, rest) = both (changes_good c.counts c.changes) (settled (before c) && (settled (changed c) && all_pass (before c) (changed c) c.claims)) rest in
    let (steady, rest) = both (settled (before c)) (settled (changed c) && all_pass (before c) (changed c) c.claims) rest in
    let (steady-after, pass) = both (settled (changed c)) (all_pass (before c) (changed c) c.claims) rest in
    let good = good_with_lem (check_of c.book) c.counts checks in
    let good-after = changed_good c.counts c.book c.changes good changes in
    let view = good_view c.book c.counts (walks_of c.book c.counts) good in
    let view-after = good_view (changed_in c) c.counts (walks_of (changed_in c) c.counts) good-after in
    (good-after, claims_hold (before c) (changed c) view view-after steady steady-after c.claims pass)

pub cases_hold : All Holds cases
unfolding check_of tables_of first_bad_from number_at with_number mark_good version_good counts_of counts_good line_good link_good join_good ascends seconds_good listed_in up_to look_up turn_cost rounds_of turn_at link_at route_at route_links passes same_entry differing
cases_hold = every_row Holds case_good case_holds cases refl
