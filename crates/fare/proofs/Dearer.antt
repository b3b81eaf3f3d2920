-- The dearer of two amounts is their maximum, so a pass over links from the front finds the dearest of all.
use Prim.Native.Nat.{ℕ, ◌≤◌, ◌<◌}
use mathlib.Core.Path.{◌≡◌, refl, sym, ap, ◌∙◌}
use mathlib.Core.Bool.{Bool}
use native.Mathlib.Omega.{arith}
use native.Mathlib.Decide.{dec_lt}
use borrow.Author.Tests.{lt-ltb, le-ltb}
use Rattle.fare.specs.declared.Won.{Won}
use Rattle.fare.specs.Amounts.{or_else, dearer, in_won}

pub other_dearer : (one other : Won) → one.0 < other.0 → dearer one other ≡ other
other_dearer one other h = ap (λ (test : Bool). or_else test other one) (lt-ltb one.0 other.0 h)

pub one_dearer : (one other : Won) → other.0 ≤ one.0 → dearer one other ≡ one
one_dearer one other h = ap (λ (test : Bool). or_else test other one) (le-ltb one.0 other.0 h)

pub dearer_none : (one : Won) → dearer one (in_won 0) ≡ one
dearer_none one = one_dearer one (in_won 0) (omega arith)

pub none_dearer : (one : Won) → dearer (in_won 0) one ≡ one
none_dearer one = by (dec_lt 0 one.0)
  where
    by : Dec (0 < one.0) → dearer (in_won 0) one ≡ one
    by (yes h) = other_dearer (in_won 0) one h
    by (no h) =
        let none : one.0 ≡ 0 = omega arith in
        one_dearer (in_won 0) one (omega arith) ∙ rw none refl

pub dearer_assoc : (one two three : Won) → dearer one (dearer two three) ≡ dearer (dearer one two) three
dearer_assoc one two three = by (dec_lt one.0 two.0) (dec_lt two.0 three.0)
  where
    by : Dec (one.0 < two.0) → Dec (two.0 < three.0) → dearer one (dearer two three) ≡ dearer (dearer one two) three
    by (yes h) (yes k) = rw (other_dearer two three k, other_dearer one two h, other_dearer two three k) (other_dearer one three (omega arith))
    by (yes h) (no k) = rw (one_dearer two three (omega arith), other_dearer one two h) (sym (one_dearer two three (omega arith)))
    by (no h) (yes k) = rw (other_dearer two three k, one_dearer one two (omega arith))
    by (no h) (no k) = rw (one_dearer two three (omega arith), one_dearer one two (omega arith)) (sym (one_dearer one three (omega arith)))

-- it is one of the two, so a limit on both is one on it, and neither is dearer
pub dearer_most : (most : ℕ) (one other : Won) → one.0 ≤ most → other.0 ≤ most → (dearer one other).0 ≤ most
dearer_most most one other h k = by (dec_lt one.0 other.0)
  where
    by : Dec (one.0 < other.0) → (dearer one other).0 ≤ most
    by (yes l) = rw (other_dearer one other l) k
    by (no l) = rw (one_dearer one other (omega arith)) h

pub dearer_least : (one other : Won) → (one.0 ≤ (dearer one other).0) × (other.0 ≤ (dearer one other).0)
dearer_least one other = by (dec_lt one.0 other.0)
  where
    by : Dec (one.0 < other.0) → (one.0 ≤ (dearer one other).0) × (other.0 ≤ (dearer one other).0)
    by (yes l) = rw (other_dearer one other l) (omega arith, omega arith)
    by (no l) = rw (one_dearer one other (omega arith)) (omega arith, omega arith)
