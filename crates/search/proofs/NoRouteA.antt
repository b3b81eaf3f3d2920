-- P6's number: with turns 3 and 4 of book A closed no permitted walk leads to 3, so the contract of a route allows 14 alone.
use Rattle.std.specs.Prelude.{Err}
use mathlib.Core.Path.{◌≡◌}
use mathlib.Core.List.{List, [], ◌∷◌}
use Prim.Native.Nat.{ℕ}
use Rattle.walk.specs.Labels.{NodeWalk}
use Rattle.walk.specs.Cases.{closed, view_a}
use Rattle.walk.proofs.CasesHold.{cases_hold}
use Rattle.search.specs.Route.{RouteOnward, no_walk, no_room, done, RouteAnswer}
use Rattle.book.specs.declared.Refusal.TheVariants.{NoWalk}

pub nowhere : (walk : List ℕ) → NodeWalk (view_a (closed 3 ∷ closed 4 ∷ [])) 0 3 walk → ⊥
nowhere = cases_hold.1.1.1.1.1.0.1.0

pub fourteen : (buffer : List ℕ) (answer : RouteAnswer) (after : List ℕ) → RouteOnward (view_a (closed 3 ∷ closed 4 ∷ [])) 0 3 buffer answer after → (answer ≡ Err NoWalk) × (after ≡ buffer)
fourteen buffer answer after (no_walk n e f) = (e, f)
fourteen buffer answer after (no_room walk route short e f) = absurd (nowhere walk route.walk)
fourteen buffer answer after (done walk route fits e f) = absurd (nowhere walk route.walk)
