-- Read backwards, a walk has the same four figures, so the same cost, and is permitted alike.
use Prim.Native.Nat.{ℕ}
use mathlib.Core.Path.{◌≡◌, refl, sym, ap, ◌∙◌}
use mathlib.Core.List.{List, [], ◌∷◌, ◌++◌, map, reverse, reverse-cons}
use Rattle.walk.specs.View.{View}
use lib.Dec.{ltb, eqb}
use mathlib.Core.Bool.{Bool, not}
use Rattle.book.specs.Entries.{barred}
use Rattle.walk.specs.Walks.{twos, all, sum, turn_of, turns_of, between, allowed, seconds, turn_wait, first_wait, leaves, permitted, cost_of, split_of, total}
use Rattle.walk.specs.steps.Backwards.{turns_back, leaves_back, first_wait_back, permitted_back, split_back, cost_back}
use Rattle.walk.proofs.Lists.{sum-reverse, all-reverse, map-reverse, twos_reverse}

module _ (U : View) where
  pub turns_reverse : (links : List ℕ) → turns_of U (reverse links) ≡ reverse (turns_back U links)
  turns_reverse links = twos_reverse (turn_of U) links

  leaves_snoc : (r : ℕ) (links : List ℕ) (a b : ℕ) → leaves U r ((links ++ (a ∷ [])) ++ (b ∷ [])) ≡ leaves U r (links ++ (a ∷ []))
  leaves_snoc r [] a b = refl
  leaves_snoc r (c ∷ rest) a b = refl

  leaves_reverse : (r : ℕ) (links : List ℕ) → leaves U r (reverse links) ≡ leaves_back U r links
  leaves_reverse r [] = refl
  leaves_reverse r (l ∷ []) = refl
  leaves_reverse r (b ∷ a ∷ rest) =
      ap (leaves U r) (reverse-cons b (a ∷ rest) ∙ ap (λ (l : List ℕ). l ++ (b ∷ [])) (reverse-cons a rest))
      ∙ leaves_snoc r (reverse rest) a b
      ∙ ap (leaves U r) (sym (reverse-cons a rest))
      ∙ leaves_reverse r (a ∷ rest)

  first_wait_snoc : (links : List ℕ) (a b : ℕ) → first_wait U ((links ++ (a ∷ [])) ++ (b ∷ [])) ≡ first_wait U (links ++ (a ∷ []))
  first_wait_snoc [] a b = refl
  first_wait_snoc (c ∷ rest) a b = refl

  first_wait_reverse : (links : List ℕ) → first_wait U (reverse links) ≡ first_wait_back U links
  first_wait_reverse [] = refl
  first_wait_reverse (l ∷ []) = refl
  first_wait_reverse (b ∷ a ∷ rest) =
      ap (first_wait U) (reverse-cons b (a ∷ rest) ∙ ap (λ (l : List ℕ). l ++ (b ∷ [])) (reverse-cons a rest))
      ∙ first_wait_snoc (reverse rest) a b
      ∙ ap (first_wait U) (sym (reverse-cons a rest))
      ∙ first_wait_reverse (a ∷ rest)

  -- a test of each, and of each two successive ones, of a reversed list
  all-map-reverse : {A : Type 0} (f : A → Bool) (list : List A) → all (map f (reverse list)) ≡ all (map f list)
  all-map-reverse f list = ap all (map-reverse f list) ∙ all-reverse (map f list)

  all_twos_reverse : (f : ℕ → ℕ → Bool) (list : List ℕ) → all (twos f (reverse list)) ≡ all (twos (λ b a. f a b) list)
  all_twos_reverse f list = ap all (twos_reverse f list) ∙ all-reverse (twos (λ b a. f a b) list)

  sum-map-reverse : (f : ℕ → ℕ) (list : List ℕ) → sum (map f (reverse list)) ≡ sum (map f list)
  sum-map-reverse f list = ap sum (map-reverse f list) ∙ sum-reverse (map f list)

  sum_twos_reverse : (f : ℕ → ℕ → ℕ) (list : List ℕ) → sum (twos f (reverse list)) ≡ sum (twos (λ b a. f a b) list)
  sum_twos_reverse f list = ap sum (twos_reverse f list) ∙ sum-reverse (twos (λ b a. f a b) list)

  pub permitted_reverse : (r : ℕ) (links : List ℕ) → permitted U r (reverse links) ≡ permitted_back U r links
  unfolding permitted permitted_back
  permitted_reverse r links =
      rw (
        turns_reverse links,
        all-map-reverse (λ l. ltb l U.links) links,
        leaves_reverse r links,
        all_twos_reverse (λ a b. eqb (U.to a) (U.from b)) links,
        all-map-reverse (λ t. ltb t U.turns) (turns_back U links),
        all-map-reverse (λ t. not (eqb (U.walk t) barred)) (turns_back U links),
        all_twos_reverse (λ p t. allowed (between U p t)) (turns_back U links),
      )

  pub split_reverse : (links : List ℕ) → split_of U (reverse links) ≡ split_back U links
  unfolding split_back
  split_reverse links =
      rw (
        turns_reverse links,
        sum-map-reverse U.ride links,
        first_wait_reverse links,
        sum-map-reverse (turn_wait U) (turns_back U links),
        sum-map-reverse U.walk (turns_back U links),
        sum_twos_reverse (λ p t. seconds (between U p t)) (turns_back U links),
      )

  pub cost_reverse : (links : List ℕ) → cost_of U (reverse links) ≡ cost_back U links
  unfolding cost_of
  cost_reverse links = ap total (split_reverse links)
