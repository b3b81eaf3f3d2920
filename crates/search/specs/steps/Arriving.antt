-- The best of the links that enter a destination, link after link: each reached one offers its own figures.
use Rattle.std.specs.Prelude.{ℕ, zero, suc, List, Bool, true, false, not, ◌&&◌, eqb, get_or, Option, Some, None}
use Rattle.walk.specs.Labels.{Entry, no_entry}
use Rattle.search.specs.steps.Tables.{own_label}
use Rattle.search.specs.steps.Passing.{offered_if}
use Rattle.search.specs.declared.Arrival.{Arrival}

-- whether a link is reached and enters the destination; of the links these are the nodes that they enter and the costs
abbrev pub is_entering : (ℕ → ℕ) → List ℕ → ℕ → ℕ → Bool
is_entering to cost s l = not (eqb (get_or cost l 0) no_entry.cost) && eqb (to l) s

-- what is held after one link more
abbrev pub better_of : (ℕ → ℕ) → List ℕ → List ℕ → ℕ → ℕ → Entry → Entry
better_of to cost links s l held = offered_if (is_entering to cost s l) (own_label cost links l) held

-- after the first n links
unfoldable pub best_into : (ℕ → ℕ) → List ℕ → List ℕ → ℕ → ℕ → Entry
best_into to cost links s zero = no_entry
best_into to cost links s (suc l) = better_of to cost links s l (best_into to cost links s l)

-- none where the label is no walk's, else the link that its back says, and its figures
abbrev pub arrived : ℕ → ℕ → ℕ → Option Arrival
arrived link cost links = Some (record { link = record { 0 = link }; cost = cost; links = links })

abbrev pub arrival_if : Bool → Entry → Option Arrival
arrival_if true e = None
arrival_if false e = arrived e.back e.cost e.links

unfoldable pub arrival_of : Entry → Option Arrival
arrival_of e = arrival_if (eqb e.cost no_entry.cost) e
