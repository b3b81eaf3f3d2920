-- The right outcome is the chosen walk of book A, or 14 where there is none, or 13 over untrue labels, and another outcome is none, since the contract allows one only.
use Prim.Native.Nat.{ℕ}
use mathlib.Core.Path.{◌≡◌, refl, sym, ap}
use mathlib.Core.List.{List, [], ◌∷◌, ◌++◌}
use mathlib.Core.Bool.{true}
use native.Mathlib.Omega.{arith}
use Rattle.book.specs.Number.{number_at, with_number}
use Rattle.book.specs.BookA.{book_a, counts_a}
use Rattle.book.proofs.BookA.{book_a_good}
use Rattle.walk.specs.View.{walks_of, listed_in, up_to}
use Rattle.walk.specs.Walks.{look_up}
use Rattle.walk.specs.Labels.{Entry, Table, TrueLabels}
use Rattle.walk.specs.Cases.{All, RouteIs, route_is, view_a}
use Rattle.walk.specs.Labelled.{as_table, given, by_the_last}
use Rattle.walk.specs.steps.Costs.{turn_cost}
use Rattle.walk.specs.steps.Rows.{rounds_of}
use Rattle.walk.proofs.GoodView.{good_view}
use Rattle.walk.proofs.CaseTests.{route_at, route_links, passes, claims_hold, differ, not_equal}
use Rattle.walk.proofs.CasesHold.{cases_hold}
use Rattle.walk.proofs.LabelledTrue.{view_in, given_true, cut_off_good, cut_off_true, by_the_last_good, by_the_last_true, right_alone}
use Rattle.search.specs.Tests.{node_test, fits, length_test}
use Rattle.search.specs.Route.{route_given_back, no_walk, done, untrue, onward, routed, RouteAnswer}
use Rattle.search.specs.RefusedRoutes.{Outcome, Row, with_turn_three, no_walk_outcome, loop, to_three, to_one, to_nowhere, to_two, over_untrue, wrong_routes, Allows, Refused}
use Rattle.search.proofs.Determined.{labels_one, route_determined}
use Rattle.search.proofs.NoRouteA.{nowhere}

-- P3
pub route_to_three : RouteIs (view_a []) 3 342 (0 ∷ 1 ∷ 3 ∷ 1 ∷ 2 ∷ [])
route_to_three = cases_hold.1.1.0.1.0

route_to_one : RouteIs (view_a []) 1 40 (0 ∷ [])
unfolding number_at listed_in up_to look_up turn_cost rounds_of route_at route_links passes
route_to_one =
    let good = good_view book_a counts_a (walks_of book_a counts_a) book_a_good in
    (claims_hold (view_a []) (view_a []) good good refl refl (route_is 1 40 (0 ∷ []) ∷ []) refl).0

route_to_two : RouteIs (view_in by_the_last) 2 403 (4 ∷ [])
unfolding number_at with_number listed_in up_to look_up turn_cost rounds_of route_at route_links passes
route_to_two =
    let good = good_view by_the_last.book counts_a (walks_of by_the_last.book counts_a) by_the_last_good in
    (claims_hold (view_in by_the_last) (view_in by_the_last) good good refl refl (route_is 2 403 (4 ∷ []) ∷ []) refl).0

to_three_right : (claimed : Outcome) → Allows (to_three claimed) loop
unfolding node_test fits length_test
to_three_right claimed = onward counts_a (rw (book_a_good) refl) given_true (done _ route_to_three.route (omega arith) (ap (λ (cost : ℕ). routed cost 5) (sym route_to_three.costs)) refl)

to_one_right : (claimed : Outcome) → Allows (to_one claimed) (to_one claimed).right
unfolding node_test fits length_test
to_one_right claimed = onward counts_a (rw (book_a_good) refl) given_true (done _ route_to_one.route (omega arith) (ap (λ (cost : ℕ). routed cost 1) (sym route_to_one.costs)) refl)

to_nowhere_right : (claimed : Outcome) → Allows (to_nowhere claimed) no_walk_outcome
unfolding node_test fits length_test
to_nowhere_right claimed = onward counts_a (rw (cut_off_good) refl) cut_off_true (no_walk nowhere refl refl)

to_two_right : (claimed : Outcome) → Allows (to_two claimed) (to_two claimed).right
unfolding node_test fits length_test
to_two_right claimed = onward counts_a (rw (by_the_last_good) refl) by_the_last_true (done _ route_to_two.route (omega arith) (ap (λ (cost : ℕ). routed cost 1) (sym route_to_two.costs)) refl)

abbrev turn_numbers : Table → List ℕ
turn_numbers turns = turns.cost ++ (turns.links ++ turns.back)

-- true labels of book A are one
untrue_labels : (third : Entry) → differ (turn_numbers (as_table (with_turn_three third).turns)) (turn_numbers (as_table given.turns)) ≡ true
    → TrueLabels (view_a []) 0 (as_table (with_turn_three third).turns) (as_table (with_turn_three third).links) → ⊥
untrue_labels third h labels = not_equal _ _ h (ap turn_numbers (labels_one book_a counts_a book_a_good 0 _ _ _ _ labels given_true).0)

-- the numbers that a route answers and leaves
abbrev numbers_of : RouteAnswer → List ℕ → List ℕ
numbers_of answer buffer = (route_given_back answer).number ∷ (route_given_back answer).place ∷ (route_given_back answer).cost ∷ (route_given_back answer).links ∷ buffer

abbrev numbers_in : Outcome → List ℕ
numbers_in outcome = numbers_of outcome.answer outcome.buffer

one_outcome : (row : Row) (one other : Outcome) → Allows row one → Allows row other → numbers_in one ≡ numbers_in other
one_outcome row one other a b =
    let (answer, buffer) = route_determined _ _ _ _ _ _ _ _ _ _ a b in
    λ i. numbers_of (answer i) (buffer i)

row_refused : (row : Row) → Allows row row.right → differ (numbers_in row.claimed) (numbers_in row.right) ≡ true → Refused row
row_refused row = right_alone (Allows row) numbers_in (one_outcome row) row.right row.claimed

three_refused : (claimed : Outcome) → differ (numbers_in claimed) (numbers_in loop) ≡ true → Refused (to_three claimed)
three_refused claimed = row_refused (to_three claimed) (to_three_right claimed)

one_refused : (claimed : Outcome) → differ (numbers_in claimed) (numbers_in (to_one claimed).right) ≡ true → Refused (to_one claimed)
one_refused claimed = row_refused (to_one claimed) (to_one_right claimed)

two_refused : (claimed : Outcome) → differ (numbers_in claimed) (numbers_in (to_two claimed).right) ≡ true → Refused (to_two claimed)
two_refused claimed = row_refused (to_two claimed) (to_two_right claimed)

nowhere_refused : (claimed : Outcome) → differ (numbers_in claimed) (numbers_in no_walk_outcome) ≡ true → Refused (to_nowhere claimed)
nowhere_refused claimed = row_refused (to_nowhere claimed) (to_nowhere_right claimed)

untrue_refused : (third : Entry) (claimed : Outcome) → differ (turn_numbers (as_table (with_turn_three third).turns)) (turn_numbers (as_table given.turns)) ≡ true
    → differ (numbers_in claimed) (numbers_in (over_untrue (with_turn_three third) claimed).right) ≡ true → Refused (over_untrue (with_turn_three third) claimed)
unfolding node_test fits length_test
untrue_refused third claimed h =
    row_refused (over_untrue (with_turn_three third) claimed) (untrue counts_a (rw (book_a_good) refl) (untrue_labels third h) refl refl)

-- none of the wrong outcomes is allowed, and the right one is
pub routes_refused : (any-cost : ℕ) (any-buffer : List ℕ) → All Refused (wrong_routes any-cost any-buffer)
routes_refused any-cost any-buffer =
    let refused-always = three_refused _ refl in
    let refused-too = one_refused _ refl in
    let last-link-missed = two_refused _ refl in
    let always-the-same = one_refused _ refl in
    let same-to-nowhere = nowhere_refused _ refl in
    let over-a-closed-change = nowhere_refused _ refl in
    let back-unjudged = untrue_refused _ _ refl refl in
    let number-unjudged = untrue_refused _ _ refl refl in
    let another-walk = three_refused _ refl in
    let a-place-late = three_refused _ refl in
    let backwards = three_refused _ refl in
    let behind-it = three_refused _ refl in
    (refused-always, (refused-too, (last-link-missed, (always-the-same, (same-to-nowhere, (over-a-closed-change, (back-unjudged, (number-unjudged, (another-walk, (a-place-late, (backwards, (behind-it, tt))))))))))))
