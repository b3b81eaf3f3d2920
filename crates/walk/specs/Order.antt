-- Document 01, "Labels": the order of link numbers, for lists read from the last link towards the first.
use Rattle.std.specs.Prelude.{ℕ, ◌<◌, ◌≡◌, ◌⊎◌, List, [], ◌∷◌}

-- the smaller link number at the first difference
abbrev pub Before : List ℕ → List ℕ → Type 0
Before [] others = ⊥
Before (a ∷ rest) [] = ⊥
Before (a ∷ rest) (b ∷ others) = (a < b) ⊎ ((a ≡ b) × Before rest others)
