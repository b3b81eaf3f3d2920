-- A table's scan answers by the first bad entry: clean where it has passed them all, else the refusal and the entry's number.
use Prim.Native.Nat.{ℕ, ◌+◌, ◌-◌, ◌≤◌, ◌<◌}
use mathlib.Core.Path.{◌≡◌, refl, ap, ◌∙◌, sym}
use mathlib.Core.Bool.{Bool, true, false}
use native.Mathlib.Omega.{arith}
use borrow.Author.Tests.{le-leb, lt-leb}
use Rattle.std.specs.Prelude.{Ok, Err}
use Rattle.book.specs.declared.Refusal.{Refusal}
use Rattle.book.specs.FirstBad.{first_bad, first_bad_from}
use Rattle.book.specs.steps.Scan.{scan}
use Rattle.book.proofs.Passing.{Passing, pass, stop, done}

abbrev pub Passed : (ℕ → Bool) → ℕ → ℕ → Type 0
Passed good count k = Passing good 0 count k

pub none_passed : (good : ℕ → Bool) (count : ℕ) → Passed good count 0
none_passed good count = (omega arith, omega arith, refl)

module _ (good : ℕ → Bool) (count k : ℕ) (passed : Passed good count k) where
  whole : first_bad good count ≡ first_bad_from good 0 (count - 0)
  whole =
      let e : count ≡ count - 0 = omega arith in
      ap (first_bad_from good 0) e

  pub clean : (bad : ℕ → Refusal) → count ≤ k → Ok tt ≡ scan bad good count
  unfolding scan
  clean bad h =
      let f : first_bad good count ≡ k = whole ∙ done good 0 count k passed h in
      rw (f, le-leb _ _ h)

  -- t is what the code's test of entry k gave
  module _ (h : k < count) {t : Bool} (tested : t ≡ good k) where
    pub one_more : t ≡ true → Passed good count (k + 1)
    one_more e = pass good 0 count k passed h (sym tested ∙ e)

    pub found : (bad : ℕ → Refusal) → t ≡ false → Err (bad k) ≡ scan bad good count
    unfolding scan
    found bad e =
        let f : first_bad good count ≡ k = whole ∙ stop good 0 count k passed h (sym tested ∙ e) in
        rw (f, lt-leb _ _ h)
