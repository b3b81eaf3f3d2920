-- A test that holds of every number below a bound holds of each, and fails where one fails; so a loop tests them one after the other.
use Prim.Native.Nat.{ℕ, zero, suc, ◌≤◌, ◌<◌}
use mathlib.Core.Path.{◌≡◌, refl, sym, ◌∙◌}
use mathlib.Core.Bool.{Bool, true, false}
use native.Mathlib.Omega.{arith}
use Rattle.book.proofs.Limits.{both}
use Rattle.walk.proofs.theory.Laws.{one_more}
use Rattle.search.specs.steps.Judging.{every_below}

module _ (test : ℕ → Bool) where
  pub every_at : (n : ℕ) → every_below test n ≡ true → (k : ℕ) → k < n → test k ≡ true
  unfolding every_below
  every_at zero h k l = absurd (omega arith)
  every_at (suc n) h k l =
      let (before, last) = both (every_below test n) (test n) h in
      one_more n (λ k. test k ≡ true) (every_at n before) last k (omega arith)

  pub every_holds : (n : ℕ) → ((k : ℕ) → k < n → test k ≡ true) → every_below test n ≡ true
  unfolding every_below
  every_holds zero h = refl
  every_holds (suc n) h = rw (every_holds n (λ k l. h k (omega arith)), h n (omega arith))

  pub every_fails : (n k : ℕ) → k < n → test k ≡ false → every_below test n ≡ false
  every_fails n k l h = by (every_below test n) refl
    where
      by : (every : Bool) → every_below test n ≡ every → every ≡ false
      by false e = refl
      by true e = sym (every_at n e k l) ∙ h

  -- the test has held of the numbers below k
  abbrev pub Passed : ℕ → ℕ → Type 0
  Passed n k = (k ≤ n) × (every_below test k ≡ true)

  -- t is what the code's test of k gave
  pub one_failed : (n k : ℕ) → k < n → {t : Bool} → t ≡ test k → t ≡ false → false ≡ every_below test n
  one_failed n k h tested failed = sym (every_fails n k h (sym tested ∙ failed))
