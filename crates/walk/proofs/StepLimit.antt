-- One more link costs at most 46,800 seconds: an extra, and what its turn adds.
use Rattle.std.proofs.Common.{◌≡◌, ℕ, ◌≤◌, ◌<◌, true, arith}
use borrow.Author.Tests.{ltb-true}
use Rattle.std.specs.Prelude.{Option, Some, None, IfSome}
use Rattle.book.specs.declared.TurnNumber.{TurnNumber}
use Rattle.walk.specs.View.{View}
use Rattle.walk.specs.Walks.{turn_of}
use Rattle.walk.specs.steps.Backwards.{may_come, extra_after, step_permitted, step_cost}
use Rattle.walk.specs.steps.Onward.{turns_so_far}
use Rattle.walk.proofs.Growth.{step_tests, step_cost_lem}
use Rattle.walk.proofs.ChosenLaws.{Limited}

module _ (U : View) (limited : Limited U) where
  extra_limit : (before : Option TurnNumber) → IfSome before (λ p. p.0 < U.turns) → (t : ℕ) → t < U.turns → may_come U t (turns_so_far before) ≡ true → extra_after U t (turns_so_far before) ≤ 3600
  extra_limit None listed t h m = omega arith
  extra_limit (Some p) listed t h m = limited.extra p.0 t listed h m

  pub step_limit : (before : Option TurnNumber) → IfSome before (λ p. p.0 < U.turns) → (b a : ℕ) → step_permitted U b a (turns_so_far before) ≡ true → step_cost U b a (turns_so_far before) ≤ 46800
  step_limit before listed b a h =
      let s = step_tests U 0 b a (turns_so_far before) h in
      let within : turn_of U a b < U.turns = ltb-true _ _ s.listed in
      omega (arith, step_cost_lem U 0 b a (turns_so_far before), limited.turn (turn_of U a b) within s.opened, extra_limit before listed (turn_of U a b) within s.follow)
