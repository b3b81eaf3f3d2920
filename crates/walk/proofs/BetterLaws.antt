-- Better is a strict total order on lists of links: by cost, then links, then the link numbers from the last.
use Prim.Native.Nat.{ℕ}
use mathlib.Core.Path.{◌≡◌, sym, ap, ◌∙◌, subst}
use mathlib.Core.Logic.{inl, inr}
use mathlib.Core.List.{List, reverse, reverse-reverse}
use lib.ListN.{length, length-reverse}
use Rattle.walk.specs.View.{View}
use Rattle.walk.specs.Order.{Before}
use Rattle.walk.specs.Labels.{Key, Less, key_of, Better}
use Rattle.walk.proofs.theory.Laws.{Compared}
use Rattle.walk.proofs.theory.Order.{before_irrefl, before_trans, before_tri}
use Rattle.walk.proofs.KeyLaws.{less_irrefl, less_trans, less_tri}

-- lists of one key have one length
links_same : (U : View) (a b : List ℕ) → key_of U a ≡ key_of U b → length a ≡ length b
unfolding key_of
links_same U a b e = ap (λ (k : Key). k.links) e

module _ (U : View) where
  pub better_irrefl : (links : List ℕ) → Better U links links → ⊥
  better_irrefl links (inl h) = less_irrefl (key_of U links) h
  better_irrefl links (inr h) = before_irrefl (reverse links) h.1

  pub better_trans : (a b c : List ℕ) → Better U a b → Better U b c → Better U a c
  better_trans a b c (inl h) (inl g) = inl (less_trans (key_of U a) (key_of U b) (key_of U c) h g)
  better_trans a b c (inl h) (inr g) = inl (subst (λ (k : Key). Less (key_of U a) k) g.0 h)
  better_trans a b c (inr h) (inl g) = inl (subst (λ (k : Key). Less k (key_of U c)) (sym h.0) g)
  better_trans a b c (inr h) (inr g) = inr (h.0 ∙ g.0, before_trans (reverse a) (reverse b) (reverse c) h.1 g.1)

  pub better_tri : (a b : List ℕ) → Compared (Better U) a b
  better_tri a b = by (less_tri (key_of U a) (key_of U b))
    where
      same_length : key_of U a ≡ key_of U b → length (reverse a) ≡ length (reverse b)
      same_length e = length-reverse a ∙ links_same U a b e ∙ sym (length-reverse b)

      ties : key_of U a ≡ key_of U b → Compared Before (reverse a) (reverse b) → Compared (Better U) a b
      ties e (inl h) = inl (inr (e, h))
      ties e (inr (inl h)) = inr (inl (sym (reverse-reverse a) ∙ ap reverse h ∙ reverse-reverse b))
      ties e (inr (inr h)) = inr (inr (inr (sym e, h)))

      by : Compared Less (key_of U a) (key_of U b) → Compared (Better U) a b
      by (inl h) = inl (inl h)
      by (inr (inl e)) = ties e (before_tri (reverse a) (reverse b) (same_length e))
      by (inr (inr h)) = inr (inr (inl h))
