-- A list's sum and its tests do not depend on its direction, and two successive ones of the reversed list are the same two, exchanged.
use Prim.Native.Nat.{ℕ, ◌+◌}
use mathlib.Core.Path.{◌≡◌, refl, sym, ap, ◌∙◌}
use mathlib.Core.List.{List, [], ◌∷◌, ◌++◌, map, reverse, reverse-cons, drop_last}
use mathlib.Core.Bool.{Bool, true, false, ◌&&◌}
use native.Mathlib.Omega.{arith}
use Rattle.walk.specs.Walks.{twos, all, sum}
use Rattle.walk.specs.Labels.{last_or}

pub and_comm : (a b : Bool) → (a && b) ≡ (b && a)
and_comm true true = refl
and_comm true false = refl
and_comm false true = refl
and_comm false false = refl

pub and_assoc : (a b c : Bool) → ((a && b) && c) ≡ (a && (b && c))
and_assoc true b c = refl
and_assoc false b c = refl

pub sum_snoc : (list : List ℕ) (n : ℕ) → sum (list ++ (n ∷ [])) ≡ n + sum list
sum_snoc [] n = refl
sum_snoc (a ∷ rest) n = omega (arith, sum_snoc rest n)

pub sum-reverse : (list : List ℕ) → sum (reverse list) ≡ sum list
sum-reverse [] = refl
sum-reverse (a ∷ rest) = rw reverse-cons (sum_snoc (reverse rest) a ∙ ap (λ (n : ℕ). a + n) (sum-reverse rest))

pub all_snoc : (tests : List Bool) (t : Bool) → all (tests ++ (t ∷ [])) ≡ (t && all tests)
all_snoc [] t = refl
all_snoc (a ∷ rest) t = ap (λ (b : Bool). a && b) (all_snoc rest t) ∙ sym (and_assoc a t (all rest)) ∙ ap (λ (b : Bool). b && all rest) (and_comm a t) ∙ and_assoc t a (all rest)

pub all-reverse : (tests : List Bool) → all (reverse tests) ≡ all tests
all-reverse [] = refl
all-reverse (a ∷ rest) = rw reverse-cons (all_snoc (reverse rest) a ∙ ap (λ (b : Bool). a && b) (all-reverse rest))

module _ {A B : Type 0} (f : A → B) where
  pub map_snoc : (list : List A) (a : A) → map f (list ++ (a ∷ [])) ≡ map f list ++ (f a ∷ [])
  map_snoc [] a = refl
  map_snoc (b ∷ rest) a = ap (λ (l : List B). f b ∷ l) (map_snoc rest a)

  pub map-reverse : (list : List A) → map f (reverse list) ≡ reverse (map f list)
  map-reverse [] = refl
  map-reverse (a ∷ rest) = rw (reverse-cons a rest, reverse-cons (f a) (map f rest)) (map_snoc (reverse rest) a ∙ ap (λ (l : List B). l ++ (f a ∷ [])) (map-reverse rest))

module _ {A : Type 0} (f : ℕ → ℕ → A) where
  pub twos_snoc : (list : List ℕ) (a b : ℕ) → twos f ((list ++ (a ∷ [])) ++ (b ∷ [])) ≡ twos f (list ++ (a ∷ [])) ++ (f a b ∷ [])
  twos_snoc [] a b = refl
  twos_snoc (c ∷ []) a b = refl
  twos_snoc (c ∷ d ∷ rest) a b = ap (λ (l : List A). f c d ∷ l) (twos_snoc (d ∷ rest) a b)

  pub twos_reverse : (list : List ℕ) → twos f (reverse list) ≡ reverse (twos (λ b a. f a b) list)
  twos_reverse [] = refl
  twos_reverse (b ∷ []) = refl
  twos_reverse (b ∷ a ∷ rest) =
      ap (twos f) (reverse-cons b (a ∷ rest) ∙ ap (λ (l : List ℕ). l ++ (b ∷ [])) (reverse-cons a rest))
      ∙ twos_snoc (reverse rest) a b
      ∙ ap (λ (l : List ℕ). twos f l ++ (f a b ∷ [])) (sym (reverse-cons a rest))
      ∙ ap (λ (l : List A). l ++ (f a b ∷ [])) (twos_reverse (a ∷ rest))
      ∙ sym (reverse-cons (f a b) (twos (λ b a. f a b) (a ∷ rest)))

pub last_snoc : (none n : ℕ) (list : List ℕ) → last_or none (list ++ (n ∷ [])) ≡ n
last_snoc none n [] = refl
last_snoc none n (a ∷ rest) = last_snoc a n rest

pub drop_last_lem : {A : Type 0} (list : List A) (a : A) → drop_last (list ++ (a ∷ [])) ≡ list
drop_last_lem [] a = refl
drop_last_lem (b ∷ []) a = refl
drop_last_lem (b ∷ c ∷ rest) a = ap (λ (l : List _). b ∷ l) (drop_last_lem (c ∷ rest) a)
