-- A number below ten is its one digit, and any other is its tenth's digits and one more; so the steps never run out and k digits hold every number below 10 ^ k.
use Prim.Native.Nat.{ℕ, zero, suc, ◌+◌, ◌*◌, ◌/◌, ◌%◌, ◌^◌, ◌≤◌, ◌<◌}
use mathlib.Core.Path.{◌≡◌, refl, ap, ◌∙◌}
use mathlib.Core.List.{List, [], ◌∷◌, ◌++◌}
use mathlib.Core.Bool.{Bool, true, false}
use native.Mathlib.Omega.{arith}
use native.Mathlib.Nat.{pow-suc}
use lib.Dec.{ltb}
use lib.ListN.{length, length-append}
use borrow.Author.Tests.{ltb-true, ltb-false, lt-ltb, le-ltb}
use Rattle.sheet.specs.Line.{digit, decimal_in, decimal}

in_small : (steps n : ℕ) → n < 10 → decimal_in steps n ≡ digit n ∷ []
unfolding decimal_in
in_small zero n h = refl
in_small (suc steps) n h = rw (lt-ltb n 10 h, decimal_in)

in_more : (steps n : ℕ) → 10 ≤ n → decimal_in (suc steps) n ≡ decimal_in steps (n / 10) ++ (digit (n % 10) ∷ [])
unfolding decimal_in
in_more steps n h = rw (le-ltb n 10 h, decimal_in)

-- as many steps as the number, or more, all give the same digits
enough : (steps more n : ℕ) → n ≤ steps → n ≤ more → decimal_in steps n ≡ decimal_in more n
enough zero more n h m = in_small zero n (omega arith) ∙ rw (in_small more n (omega arith))
enough (suc steps) zero n h m = in_small (suc steps) n (omega arith) ∙ rw (in_small zero n (omega arith))
enough (suc steps) (suc more) n h m = by (ltb n 10) refl (enough steps more (n / 10))
  where
    by : (test : Bool) → ltb n 10 ≡ test → (n / 10 ≤ steps → n / 10 ≤ more → decimal_in steps (n / 10) ≡ decimal_in more (n / 10)) → decimal_in (suc steps) n ≡ decimal_in (suc more) n
    by true e tenth =
        let small : n < 10 = ltb-true n 10 e in
        in_small (suc steps) n small ∙ rw (in_small (suc more) n small)
    by false e tenth =
        let large : 10 ≤ n = ltb-false n 10 e in
        rw (in_more steps n large, in_more more n large) (ap (λ (digits : List ℕ). digits ++ (digit (n % 10) ∷ [])) (tenth (omega arith) (omega arith)))

pub decimal_small : (n : ℕ) → n < 10 → decimal n ≡ digit n ∷ []
unfolding decimal
decimal_small n h = in_small n n h

pub decimal_more : (n : ℕ) → 10 ≤ n → decimal n ≡ decimal (n / 10) ++ (digit (n % 10) ∷ [])
unfolding decimal
decimal_more zero h = absurd (omega arith)
decimal_more (suc n) h = in_more n (suc n) h ∙ ap (λ (digits : List ℕ). digits ++ (digit (suc n % 10) ∷ [])) (enough n (suc n / 10) (suc n / 10) (omega arith) (omega arith))

module _ (n : ℕ) where
  pub length_small : n < 10 → length (decimal n) ≡ 1
  length_small h = rw (decimal_small n h) refl

  pub length_more : 10 ≤ n → length (decimal n) ≡ length (decimal (n / 10)) + 1
  length_more h = rw (decimal_more n h) (length-append (decimal (n / 10)) (digit (n % 10) ∷ []))

-- a number below 10 ^ k has at most k digits, where k is one more than `places`
pub length_below : (places n : ℕ) → n < 10 ^ suc places → length (decimal n) ≤ suc places
length_below zero n h = omega (arith, length_small n h)
length_below (suc places) n h = by (ltb n 10) refl (length_below places (n / 10))
  where
    by : (test : Bool) → ltb n 10 ≡ test → (n / 10 < 10 ^ suc places → length (decimal (n / 10)) ≤ suc places) → length (decimal n) ≤ suc (suc places)
    by true e tenth = omega (arith, length_small n (ltb-true n 10 e))
    by false e tenth =
        let tenfold : 10 ^ suc (suc places) ≡ 10 ^ suc places * 10 = pow-suc 10 (suc places) in
        let fewer = tenth (omega arith) in
        omega (arith, length_more n (ltb-false n 10 e))
