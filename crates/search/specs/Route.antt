-- Document 01, "What can be asked" and "Numbers given back", Route: tests 1 to 10 and 12 to 15 in order, then the links of the chosen walk in travel order.
use Rattle.std.specs.Prelude.{ℕ, ◌≤◌, ◌<◌, ◌≡◌, List, ◌++◌, length, drop, Result, Ok, Err}
use Rattle.book.specs.declared.Counts.{Counts}
use Rattle.book.specs.declared.Refusal.{Refusal}
use Rattle.book.specs.Check.{Checked, number_of, place_of}
use Rattle.walk.specs.View.{View, view_of}
use Rattle.walk.specs.Walks.{cost_of}
use Rattle.walk.specs.Labels.{Table, TrueLabels, NodeWalk, Route}
use Rattle.search.specs.declared.Routed.{Routed}
use Rattle.search.specs.declared.RouteFigures.{RouteFigures}
use Rattle.search.specs.Tests.{both_nodes, length_test}
use Rattle.book.specs.declared.Refusal.TheVariants.{NoRoom, NoWalk, UntrueLabel}

abbrev pub route_tests : List ℕ → ℕ → ℕ → Table → Table → Checked
route_tests book r s turns links = length_test (both_nodes book r s) turns links

-- cost and number of links of the chosen walk, or why there is no route
abbrev pub RouteAnswer : Type 0
RouteAnswer = Result Routed Refusal

abbrev pub routed : ℕ → ℕ → RouteAnswer
routed cost links = Ok (record { cost = cost; links = links })

-- number, place, cost and number of links of each case of the answer: what is not given is 0
abbrev pub route_given_back : RouteAnswer → RouteFigures
route_given_back (Ok done) = record { number = 0; place = 0; cost = done.cost; links = done.links }
route_given_back (Err found) = record { number = number_of found; place = place_of found; cost = 0; links = 0 }

-- what a route over true labels answers, by the permitted walks alone, and leaves in the buffer that it was lent
pub data RouteOnward (U : View) (r s : ℕ) (buffer : List ℕ) (answer : RouteAnswer) (after : List ℕ) : Type 0 where
  no_walk : ((walk : List ℕ) → NodeWalk U r s walk → ⊥)
      → answer ≡ Err NoWalk → after ≡ buffer → RouteOnward U r s buffer answer after
  no_room : (walk : List ℕ) → Route U r s walk → length buffer < length walk
      → answer ≡ Err NoRoom → after ≡ buffer → RouteOnward U r s buffer answer after
  done : (walk : List ℕ) → Route U r s walk → length walk ≤ length buffer
      → answer ≡ routed (cost_of U walk) (length walk) → after ≡ walk ++ drop (length walk) buffer → RouteOnward U r s buffer answer after

-- what a route from r to s answers: 1 to 10 and 12 by the tests, 13 where some entry is not the true one, and then by the walks
pub data Routing (book : List ℕ) (r s : ℕ) (turns links : Table) (buffer : List ℕ) (answer : RouteAnswer) (after : List ℕ) : Type 0 where
  refused : (found : Refusal) → route_tests book r s turns links ≡ Err found
      → answer ≡ Err found → after ≡ buffer → Routing book r s turns links buffer answer after
  untrue : (counts : Counts) → route_tests book r s turns links ≡ Ok counts → (TrueLabels (view_of book counts) r turns links → ⊥)
      → answer ≡ Err UntrueLabel → after ≡ buffer → Routing book r s turns links buffer answer after
  onward : (counts : Counts) → route_tests book r s turns links ≡ Ok counts → TrueLabels (view_of book counts) r turns links
      → RouteOnward (view_of book counts) r s buffer answer after → Routing book r s turns links buffer answer after
