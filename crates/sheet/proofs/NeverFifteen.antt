-- Neither printer prints 15: the tests refuse with 10 at most, and the rest prints 14 or 0, or 17 where the fares are not good.
use Prim.Native.Nat.{ℕ, ◌≤◌}
use mathlib.Core.Path.{◌≡◌}
use mathlib.Core.Logic.{◌⊎◌, inl, inr}
use mathlib.Core.List.{List, ◌∷◌}
use native.Mathlib.Omega.{arith}
use Rattle.sheet.specs.Sheet.{origin_of, destination_of, book_of, Planned, refused, no_walk, done, Says, short, asked}
use Rattle.sheet.specs.FareSheet.{book_in, FareSays, short as fare-short, asked as fare-asked, refused as fare-refused, bad_fares, done as fared}
use Rattle.sheet.proofs.TestLaws.{tests_limited}

head_same : {a b : ℕ} {xs ys : List ℕ} → a ∷ xs ≡ b ∷ ys → a ≡ b
head_same e = cc

first_same : {a b : ℕ} {xs ys : List ℕ} {lines others : List (List ℕ)} → (a ∷ xs) ∷ lines ≡ (b ∷ ys) ∷ others → a ≡ b
first_same e = cc

planned_first : (book : List ℕ) (r s : ℕ) (rest : List ℕ) (n : ℕ) → Planned book r s (n ∷ rest) → (n ≤ 10) ⊎ (n ≡ 14)
planned_first book r s rest n (refused found t f) = inl (omega (arith, head_same f, (tests_limited book r s found t).0))
planned_first book r s rest n (no_walk counts t none f) = inr (head_same f)
planned_first book r s rest n (done counts t links route f) = inl (omega (arith, head_same f))

-- so 11, 12, 13 and 15 are never said
pub said_first : (input rest : List ℕ) (n : ℕ) → Says input (n ∷ rest) → (n ≤ 10) ⊎ (n ≡ 14)
said_first input rest n (short l f) = inl (omega (arith, head_same f))
said_first input rest n (asked l plan) = planned_first (book_of input) (origin_of input) (destination_of input) rest n plan

pub never_fifteen : (input rest : List ℕ) (n : ℕ) → Says input (n ∷ rest) → n ≡ 15 → ⊥
never_fifteen input rest n says e = by (said_first input rest n says)
  where
    by : (n ≤ 10) ⊎ (n ≡ 14) → ⊥
    by (inl low) = omega arith
    by (inr none) = omega arith

-- of a fare sheet's first line 11, 12, 13, 15 and 16 are never said
pub fare_said_first : (input rest : List ℕ) (n : ℕ) (lines : List (List ℕ)) → FareSays input ((n ∷ rest) ∷ lines) → (n ≤ 10) ⊎ ((n ≡ 14) ⊎ (n ≡ 17))
fare_said_first input rest n lines (fare-short l f) = inl (omega (arith, first_same f))
fare_said_first input rest n lines (fare-asked l (fare-refused number place plan f)) = by (planned_first (book_in input) (origin_of input) (destination_of input) _ number plan)
  where
    by : (number ≤ 10) ⊎ (number ≡ 14) → (n ≤ 10) ⊎ ((n ≡ 14) ⊎ (n ≡ 17))
    by (inl low) = inl (omega (arith, first_same f))
    by (inr none) = inr (inl (omega (arith, first_same f)))
fare_said_first input rest n lines (fare-asked l (bad_fares counts t links route bad f)) = inr (inr (first_same f))
fare_said_first input rest n lines (fare-asked l (fared counts t links route good f)) = inl (omega (arith, first_same f))
