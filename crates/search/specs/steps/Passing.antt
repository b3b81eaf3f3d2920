-- A settled turn's label passed on to every turn that may follow it.
use Rattle.std.specs.Prelude.{ℕ, suc, ◌+◌, ◌≤◌, ◌<◌, Bool, true, false, None, Some, Option}
use Rattle.walk.specs.View.{View}
use Rattle.walk.specs.Walks.{between, seconds}
use Rattle.walk.specs.steps.Costs.{turn_cost}
use Rattle.walk.specs.Labels.{Entry, Table}
use Rattle.walk.specs.steps.ViewNet.{may_follow}
use Rattle.search.specs.steps.Tables.{one_turn_on, goes_ahead, offered}

-- from this cost and these links one more step fits the buffers
abbrev pub StepFits : ℕ → ℕ → Type 0
StepFits cost links = (cost ≤ 4000000000) × (links < 65535)

-- one turn, by the step to it: p's cost and links, and the step
abbrev pub passed_by : Option ℕ → Table → ℕ → ℕ → ℕ → ℕ → Table
passed_by None table p cost links t = table
passed_by (Some more) table p cost links t = offered table t (one_turn_on cost links more p)

abbrev pub better : Bool → Entry → Entry → Entry
better true new old = new
better false new old = old

abbrev pub offered_if : Bool → Entry → Entry → Entry
offered_if true new old = better (goes_ahead new old) new old
offered_if false new old = old

-- what turn p, of this cost and these links, offers turn t
abbrev pub onward_to : View → ℕ → ℕ → ℕ → ℕ → Entry
onward_to U p cost links t = record { cost = cost + (seconds (between U p t) + turn_cost U t); links = suc links; back = p }

-- what turn t's entry becomes when turn p is settled
unfoldable pub passed_to : View → ℕ → ℕ → ℕ → Entry → ℕ → Entry
passed_to U p cost links e t = offered_if (may_follow U p t) (onward_to U p cost links t) e
