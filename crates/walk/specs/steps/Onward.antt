-- A given walk followed link by link: one more link after the turn before it, if there is one.
use Rattle.std.specs.Prelude.{ℕ, List, [], ◌∷◌, Bool, true, false, Option, Some, None, Err, ltb}
use Rattle.book.specs.declared.TurnNumber.{TurnNumber}
use Rattle.walk.specs.declared.Between.{Between}
use Rattle.walk.specs.declared.Between.TheVariants.{Nothing}
use Rattle.walk.specs.declared.Split.{Split}
use Rattle.walk.specs.declared.NoCost.TheVariants.{NotPermitted}
use Rattle.walk.specs.declared.Added.{Added}
use Rattle.walk.specs.View.{View}
use Rattle.walk.specs.Walks.{turn_of, between, permitted, cost_of, split_of}
use Rattle.walk.specs.Given.{Answer, permitted_at, or_else}
use Rattle.walk.specs.steps.Backwards.{step_permitted, step_split}

abbrev pub numbered : ℕ → TurnNumber
numbered turn = record { 0 = turn }

abbrev pub some_if : Bool → ℕ → Option TurnNumber
some_if true turn = Some (numbered turn)
some_if false turn = None

-- the turn from link a to link b, if there is one
abbrev pub turn_found : View → ℕ → ℕ → Option TurnNumber
turn_found U a b = some_if (ltb (turn_of U a b) U.turns) (turn_of U a b)

-- the turn before as a list
abbrev pub turns_so_far : Option TurnNumber → List ℕ
turns_so_far None = []
turns_so_far (Some p) = p.0 ∷ []

-- what stands between the turns so far, last first, and turn t
abbrev pub stands_after : View → ℕ → List ℕ → Between
stands_after U t [] = Nothing
stands_after U t (p ∷ rest) = between U p t

abbrev pub advanced : Bool → ℕ → Split → Option Added
advanced true turn more = Some (record { turn = numbered turn; split = more })
advanced false turn more = None

-- link b after link a and the turn before it
unfoldable pub one_more : View → Option TurnNumber → ℕ → ℕ → Option Added
one_more U before a b = advanced (step_permitted U b a (turns_so_far before)) (turn_of U a b) (step_split U b a (turns_so_far before))

-- whether a walk from r is permitted, its cost and where its minutes go
unfoldable pub walk_answer : View → ℕ → List ℕ → Answer
walk_answer U r links = or_else (permitted U r links) (permitted_at (cost_of U links) (split_of U links)) (Err NotPermitted)
