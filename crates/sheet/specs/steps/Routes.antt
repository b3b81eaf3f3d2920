-- The route of a plan, and the fields of a route just found, whose four figures are asked of the cost of a given walk.
use Rattle.std.specs.Prelude.{ℕ, ◌≡◌, List, [], ◌∷◌, Result, Ok, Err}
use Rattle.book.specs.declared.Counts.{Counts}
use Rattle.book.specs.declared.Refusal.{Refusal}
use Rattle.book.specs.Check.{number_of, place_of}
use Rattle.walk.specs.View.{view_of}
use Rattle.walk.specs.Walks.{cost_of}
use Rattle.walk.specs.Labels.{Route}
use Rattle.walk.specs.Given.{cost_of_walk}
use Rattle.walk.specs.steps.Splits.{split_in}
use Rattle.search.specs.Tests.{both_nodes}
use Rattle.sheet.specs.declared.routes.RouteFound.{RouteFound}
use Rattle.sheet.specs.Sheet.{fields_of, Planned}

abbrev pub asked_fields : List ℕ → ℕ → ℕ → List ℕ → List ℕ
asked_fields book r cost links = fields_of cost (split_in (cost_of_walk book r links)) links

-- what a plan of the way from r to s is: a refusal, or a route of these links and this cost
pub data RoutePlanned (book : List ℕ) (r s : ℕ) (answer : Result RouteFound Refusal) : Type 0 where
  refused : (found : Refusal) → answer ≡ Err found → Planned book r s (number_of found ∷ place_of found ∷ []) → RoutePlanned book r s answer
  done : (route : RouteFound) → answer ≡ Ok route → (counts : Counts) → both_nodes book r s ≡ Ok counts → route.origin.0 ≡ r
      → Route (view_of book counts) r s route.links.now → route.cost ≡ cost_of (view_of book counts) route.links.now → RoutePlanned book r s answer
