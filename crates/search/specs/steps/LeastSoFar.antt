-- The least candidate of the turns passed, with one turn more: what the loop of picking holds.
use Rattle.std.specs.Prelude.{ℕ, ◌<◌, ◌≡◌, List, Bool, cond, Some, None, Option}
use Rattle.book.specs.declared.TurnNumber.{TurnNumber}
use Rattle.walk.specs.steps.Rows.{key_less}
use Rattle.search.specs.steps.Picking.{is_candidate, key_at}

-- the first of two turns where it is less, else the other
abbrev pub lesser : List ℕ → List ℕ → TurnNumber → TurnNumber → TurnNumber
lesser cost links one other = cond (key_less (key_at cost links one.0) (key_at cost links other.0)) one other

abbrev pub with_candidate : List ℕ → List ℕ → TurnNumber → Option TurnNumber → Option TurnNumber
with_candidate cost links turn None = Some turn
with_candidate cost links turn (Some least) = Some (lesser cost links turn least)

abbrev pub with_turn : List ℕ → List ℕ → List Bool → TurnNumber → Option TurnNumber → Option TurnNumber
with_turn cost links settled turn held = cond (is_candidate cost settled turn.0) (with_candidate cost links turn held) held

-- a turn that is held is one of so many
abbrev pub HeldBelow : ℕ → Option TurnNumber → Type 0
HeldBelow bound held = (turn : TurnNumber) → held ≡ Some turn → turn.0 < bound
