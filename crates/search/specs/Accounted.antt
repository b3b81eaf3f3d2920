-- Document 02, request 5, for a route that is done: where its minutes go, and what they add up to.
use Rattle.std.specs.Prelude.{ℕ, ◌≡◌, List, [], ◌∷◌, ◌++◌}
use Rattle.walk.specs.declared.Split.{Split}
use Rattle.walk.specs.Walks.{total}
use Rattle.walk.specs.Labels.{Table, entry_at}
use Rattle.walk.specs.Given.{cost_of_walk, permitted_at}

-- of the walk from r that a route has written, over the labels of the links that it was lent
pub record Accounted (book : List ℕ) (r : ℕ) (links : Table) (cost : ℕ) (walk : List ℕ) : Type 0 where
  pub split : Split
  -- the cost of a given walk answers the route's own cost, and the four figures
  pub asked : cost_of_walk book r walk ≡ permitted_at cost split
  pub adds_up : total split ≡ cost
  -- which is the label of the last link, where there is one
  pub label : (before : List ℕ) (last : ℕ) → walk ≡ before ++ (last ∷ []) → (entry_at links last).cost ≡ total split
