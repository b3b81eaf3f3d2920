-- A list that is filled from the front, one store a turn, ends as the list of the values stored.
use Prim.Native.Nat.{ℕ, zero, suc, ◌+◌, ◌≤◌, ◌<◌}
use mathlib.Core.Path.{◌≡◌, refl, sym, ap, ◌∙◌}
use mathlib.Core.List.{List, [], ◌∷◌, ◌++◌}
use native.Mathlib.Omega.{arith}
use native.Mathlib.Numerals.{add-one}
use lib.ListN.{length, get_or, take, set, length-append, get_or-append}
use lib.Seq.{take-suc-set, take-length, get_or-append_seam}
use Rattle.walk.specs.View.{up_to}
use Rattle.walk.proofs.theory.Laws.{Compared, lt_tri}
use mathlib.Core.Logic.{inl, inr}

module _ {A : Type 0} (f : ℕ → A) where
  -- the first n are filled
  abbrev pub Filled : List A → ℕ → Type 0
  Filled list n = take n list ≡ up_to n f

  pub one_filled : (list : List A) (n : ℕ) {value : A} → n < length list → value ≡ f n → Filled list n → Filled (set list n value) (n + 1)
  unfolding up_to
  one_filled list n {value} h e filled = rw (add-one, take-suc-set list n value h, filled, e)

  pub all_filled : (list : List A) (n k : ℕ) → length list ≡ n → k ≡ n → Filled list k → list ≡ up_to n f
  all_filled list n k e done filled = sym (take-length list) ∙ ap (λ (m : ℕ). take m list) (e ∙ sym done) ∙ filled ∙ ap (λ (m : ℕ). up_to m f) done

  pub up_to_length : (n : ℕ) → length (up_to n f) ≡ n
  unfolding up_to
  up_to_length zero = refl
  up_to_length (suc n) = length-append (up_to n f) (f n ∷ []) ∙ omega (arith, up_to_length n)

  pub up_to_at : (n k : ℕ) (other : A) → k < n → get_or (up_to n f) k other ≡ f k
  unfolding up_to
  up_to_at zero k other h = absurd (omega arith)
  up_to_at (suc n) k other h = by (up_to_at n k other) (lt_tri k n)
    where
      by : (k < n → get_or (up_to n f) k other ≡ f k) → Compared ◌<◌ k n → get_or (up_to n f ++ (f n ∷ [])) k other ≡ f k
      by earlier (inl l) = get_or-append (up_to n f) (f n ∷ []) other k (omega (arith, up_to_length n)) ∙ earlier l
      by earlier (inr (inl e)) = ap (λ (x : ℕ). get_or (up_to n f ++ (f n ∷ [])) x other) (e ∙ sym (up_to_length n)) ∙ get_or-append_seam (up_to n f) (f n) [] other ∙ ap f (sym e)
      by earlier (inr (inr l)) = absurd (omega arith)

-- a list that is filled up to n has room for n
pub front_within : {A : Type 0} (front rest : List A) (n : ℕ) → length front ≡ n → n ≤ length (front ++ rest)
front_within front rest n e = omega (arith, length-append front rest)
