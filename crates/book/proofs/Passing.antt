-- A scan that has passed good entries finds what a scan of the rest would: every loop over entries cites this.
use Prim.Native.Nat.{ℕ, zero, suc, ◌+◌, ◌-◌, ◌≤◌, ◌<◌}
use mathlib.Core.Path.{◌≡◌, ◌∙◌}
use mathlib.Core.Bool.{Bool, true, false}
use native.Mathlib.Numerals.{add-one}
use native.Mathlib.Omega.{arith}
use Rattle.book.specs.FirstBad.{first_bad_from}

-- what a scan from `start` up to `end` knows at entry k: the entries before it were good, so those from it on decide
abbrev pub Passing : (ℕ → Bool) → ℕ → ℕ → ℕ → Type 0
Passing good start end k = (start ≤ k) × (k ≤ end) × (first_bad_from good start (end - start) ≡ first_bad_from good k (end - k))

module _ (good : ℕ → Bool) (start end k : ℕ) (passing : Passing good start end k) where
  pub pass : k < end → good k ≡ true → Passing good start end (k + 1)
  unfolding first_bad_from
  pass h g =
      let e : end - k ≡ suc (end - (k + 1)) = omega arith in
      (omega arith, omega arith, passing.2 ∙ rw (e, g, add-one))

  pub stop : k < end → good k ≡ false → first_bad_from good start (end - start) ≡ k
  unfolding first_bad_from
  stop h g =
      let e : end - k ≡ suc (end - (k + 1)) = omega arith in
      passing.2 ∙ rw (e, g)

  pub done : end ≤ k → first_bad_from good start (end - start) ≡ k
  unfolding first_bad_from
  done h =
      let e : end - k ≡ zero = omega arith in
      passing.2 ∙ rw e
