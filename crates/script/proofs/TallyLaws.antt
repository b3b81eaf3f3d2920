-- A list begins with itself: each byte is its own equal.
use Rattle.std.proofs.Common.{◌≡◌, ℕ, true, false, List, [], ◌∷◌, length, take, refl, ◌∙◌, ap, eq-eqb}
use Rattle.std.proofs.Math.Seq.{take-length}
use Rattle.std.proofs.Math.Dec.{eqb}
use lib.Pointwise.{pointwise}

equal_to_itself : (bytes : List ℕ) → pointwise eqb bytes bytes ≡ true
equal_to_itself [] = refl
equal_to_itself (byte ∷ rest) = rw (eq-eqb byte byte refl) (equal_to_itself rest)

pub begins_with_itself : (answered expected : List ℕ) → answered ≡ expected
    → pointwise eqb (take (length expected) answered) expected ≡ false → ⊥
begins_with_itself answered expected same begins_not =
    let whole : take (length expected) answered ≡ expected =
    ap (λ (bytes : List ℕ). take (length expected) bytes) same ∙ take-length expected in
    let at_all : pointwise eqb expected expected ≡ false = rw whole at begins_not in
    let itself = equal_to_itself expected in
    cc
