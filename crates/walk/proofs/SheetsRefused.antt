-- A sheet is refused where the labels that are computed from its book differ from it, since true labels are one.
use Prim.Native.Nat.{ℕ, ◌<◌}
use mathlib.Core.Path.{◌≡◌, refl}
use mathlib.Core.List.{List}
use mathlib.Core.Bool.{Bool, true, not, ◌&&◌}
use lib.Dec.{ltb}
use borrow.Author.Tests.{ltb-true, eq-eqb}
use Rattle.book.specs.Number.{number_at, with_number}
use Rattle.book.specs.Header.{mark_good, version_good, counts_of, counts_good}
use Rattle.book.specs.Entries.{line_good, link_good, seconds_good, ascends, join_good}
use Rattle.book.specs.FirstBad.{first_bad_from}
use Rattle.book.specs.Check.{tables_of, check_of}
use Rattle.book.proofs.Limits.{both}
use Rattle.walk.specs.View.{View, view_of, walks_of, listed_in, up_to}
use Rattle.walk.specs.Walks.{turn_of, look_up}
use Rattle.walk.specs.steps.Costs.{turn_cost}
use Rattle.walk.specs.Labels.{Key, Route, start_back}
use Rattle.walk.specs.Counting.{same_entry}
use Rattle.walk.specs.Cases.{All}
use Rattle.walk.specs.RefusedSheets.{Sheet, turn_entry, link_entry, route_to, Row, sheets, Denied, Refused}
use Rattle.walk.specs.steps.Net.{Entry as Reached, unreached, reached, TrueRoute}
use Rattle.walk.specs.steps.ViewNet.{net, figures}
use Rattle.walk.specs.steps.Rows.{rounds_of}
use Rattle.walk.proofs.GoodView.{GoodView, good_view}
use Rattle.walk.proofs.LabelLaws.{turn_one, link_one, route_one}
use Rattle.walk.proofs.EveryRow.{every_row}
use Rattle.walk.proofs.CaseTests.{good_with, good_with_lem, settled, turn_at, link_at, route_at, route_links, told_apart, differ, not_equal, entry_same, true_turn, true_link, route_inside, route_is_lem, no_route_lem}

abbrev route_refuted : View → Reached Key → List ℕ → Bool
route_refuted U unreached links = true
route_refuted U (reached k b) links = differ (route_links U (reached k b)) links

unfoldable refuted : View → Sheet → Bool
refuted U (turn_entry t e) = ltb t U.turns && not (same_entry (figures (turn_at U t)) e)
refuted U (link_entry l e) = ltb l U.links && not (same_entry (figures (link_at U l)) e)
refuted U (route_to s links) = route_refuted U (route_at U s) links

module _ (U : View) (good : GoodView U) (few : U.turns < start_back) (h : settled U ≡ true) where
  route_denied : (s : ℕ) (e : Reached Key) (links : List ℕ) → TrueRoute Key (net U 0) 0 s e → route_refuted U e links ≡ true → Route U 0 s links → ⊥
  route_denied s unreached links inside p r = no_route_lem U good h s unreached inside refl links r.walk
  route_denied s (reached k b) links inside p r =
      let found = route_is_lem U good h s k.cost (reached k b) inside (eq-eqb k.cost k.cost refl) in
      not_equal (route_links U (reached k b)) links p (route_one U good 0 s (route_links U (reached k b)) links found.route r)

  denied : (sheet : Sheet) → refuted U sheet ≡ true → Denied U sheet
  unfolding refuted
  denied (turn_entry t e) p = λ true-entry.
      let (within, other) = both (ltb t U.turns) (not (same_entry (figures (turn_at U t)) e)) p in
      told_apart same_entry entry_same (figures (turn_at U t)) e other (turn_one U good few 0 t (figures (turn_at U t)) e (true_turn U good h t (ltb-true _ _ within)) true-entry)
  denied (link_entry l e) p = λ true-entry.
      let (within, other) = both (ltb l U.links) (not (same_entry (figures (link_at U l)) e)) p in
      told_apart same_entry entry_same (figures (link_at U l)) e other (link_one U good few 0 l (figures (link_at U l)) e (true_link U good h l (ltb-true _ _ within)) true-entry)
  denied (route_to s links) p = route_denied s (route_at U s) links (route_inside U good h s) p

abbrev view_in : Row → View
view_in row = view_of row.book row.counts

abbrev row_refuted : Row → Bool
row_refuted row = good_with (check_of row.book) row.counts && (ltb row.counts.turns start_back && (settled (view_in row) && refuted (view_in row) row.sheet))

row_refused : (row : Row) → row_refuted row ≡ true → Refused row
row_refused row h =
    let (checks, rest) = both (good_with (check_of row.book) row.counts) (ltb row.counts.turns start_back && (settled (view_in row) && refuted (view_in row) row.sheet)) h in
    let (few, rest) = both (ltb row.counts.turns start_back) (settled (view_in row) && refuted (view_in row) row.sheet) rest in
    let (steady, wrong) = both (settled (view_in row)) (refuted (view_in row) row.sheet) rest in
    let good = good_with_lem (check_of row.book) row.counts checks in
    (good, denied (view_in row) (good_view row.book row.counts (walks_of row.book row.counts) good) (ltb-true _ _ few) steady row.sheet wrong)

pub sheets_refused : All Refused sheets
unfolding check_of tables_of first_bad_from number_at with_number mark_good version_good counts_of counts_good line_good link_good join_good ascends seconds_good listed_in up_to turn_of look_up turn_cost rounds_of turn_at link_at route_at route_links refuted same_entry
sheets_refused = every_row Refused row_refuted row_refused sheets refl
