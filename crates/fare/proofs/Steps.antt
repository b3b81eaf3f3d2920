-- Rounding up divides: the least number of steps that reaches some metres is their quotient with the step, rounded up.
use Prim.Native.Nat.{ℕ, ◌+◌, ◌*◌, ◌≤◌, ◌<◌}
use mathlib.Core.Path.{◌≡◌}
use native.Mathlib.Omega.{arith}
use native.Mathlib.Nat.{mul-le-mul_right, le-mul_of_pos_right}
use native.Mathlib.Decide.{dec_lt}
use lib.Dec.{ltb}
use borrow.Author.Tests.{ltb-true, ltb-false}
use Rattle.std.specs.Int.{div_ceil}
use Rattle.std.proofs.lemmas.Grind.{div_ceil_times}
use Rattle.book.proofs.FirstBad.{First, first_bad_lem}
use Rattle.fare.specs.declared.Metres.{Metres}
use Rattle.fare.specs.Amounts.{started_steps}

module _ (metres step : Metres) (long : 0 < step.0) where
  found : First (λ n. ltb (n * step.0) metres.0) 0 metres.0 (started_steps metres step)
  unfolding started_steps
  found = first_bad_lem (λ n. ltb (n * step.0) metres.0) metres.0

  -- so many steps reach the metres
  pub reaches : metres.0 ≤ started_steps metres step * step.0
  reaches = by (dec_lt (started_steps metres step) metres.0)
    where
      by : Dec (started_steps metres step < metres.0) → metres.0 ≤ started_steps metres step * step.0
      by (yes h) = ltb-false _ _ (found.at h)
      by (no h) = omega (arith, le-mul_of_pos_right (started_steps metres step) long, found.within)

  -- and no fewer do
  pub least : (fewer : ℕ) → metres.0 ≤ fewer * step.0 → started_steps metres step ≤ fewer
  least fewer h = by (dec_lt fewer (started_steps metres step))
    where
      by : Dec (fewer < started_steps metres step) → started_steps metres step ≤ fewer
      by (yes l) = absurd (omega (arith, ltb-true (fewer * step.0) metres.0 (found.before fewer (omega arith) l)))
      by (no l) = omega arith

  quotient_least : (fewer : ℕ) → metres.0 ≤ fewer * step.0 → div_ceil metres.0 step.0 ≤ fewer
  quotient_least fewer h = by (dec_lt fewer (div_ceil metres.0 step.0))
    where
      by : Dec (fewer < div_ceil metres.0 step.0) → div_ceil metres.0 step.0 ≤ fewer
      by (yes l) =
          let more : (fewer + 1) * step.0 ≤ div_ceil metres.0 step.0 * step.0 = mul-le-mul_right step.0 (omega arith) in
          absurd (omega (arith, (div_ceil_times metres.0 step.0 long).1))
      by (no l) = omega arith

  pub divided : div_ceil metres.0 step.0 ≡ started_steps metres step
  divided =
      let low = least (div_ceil metres.0 step.0) (div_ceil_times metres.0 step.0 long).0 in
      let high = quotient_least (started_steps metres step) reaches in
      omega arith

-- never more steps than metres
pub steps_most : (metres step : Metres) → started_steps metres step ≤ metres.0
unfolding started_steps
steps_most metres step = (first_bad_lem (λ n. ltb (n * step.0) metres.0) metres.0).within

-- more metres start no fewer steps
pub steps_rise : (metres more step : Metres) → 0 < step.0 → metres.0 ≤ more.0 → started_steps metres step ≤ started_steps more step
steps_rise metres more step long h = least metres step long (started_steps more step) (omega (arith, reaches more step long))
