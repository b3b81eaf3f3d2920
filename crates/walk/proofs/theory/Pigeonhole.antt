-- More numbers than places: two of them share one.
use mathlib.Core.Path.{◌≡◌, refl, sym, ap, ◌∙◌}
use mathlib.Core.Logic.{◌⊎◌, inl, inr}
use Prim.Native.Nat.{ℕ, zero, suc, ◌<◌}
use native.Mathlib.Omega.{arith}
use native.Mathlib.Decide.{ℕ_discrete}
use Rattle.walk.proofs.theory.Laws.{Compared, lt_tri}

-- two different places below m have one value
abbrev pub Collision : (ℕ → ℕ) → ℕ → Type 0
Collision f m = (i : ℕ) × (j : ℕ) × (i < j) × (j < m) × (f i ≡ f j)

abbrev Found : (ℕ → ℕ) → ℕ → ℕ → Type 0
Found f m x = (i : ℕ) × (i < m) × (f i ≡ x)

abbrev Missing : (ℕ → ℕ) → ℕ → ℕ → Type 0
Missing f m x = (i : ℕ) → i < m → ¬ (f i ≡ x)

look : (f : ℕ → ℕ) (m x : ℕ) → Found f m x ⊎ Missing f m x
look f zero x = inr (λ i h e. omega arith)
look f (suc m) x = go (look f m x) (ℕ_discrete (f m) x)
  where
    miss : Missing f m x → ¬ (f m ≡ x) → Missing f (suc m) x
    miss n d i h e = on (lt_tri i m)
      where
        on : Compared ◌<◌ i m → ⊥
        on (inl g) = n i g e
        on (inr (inl g)) = d (sym (ap f g) ∙ e)
        on (inr (inr g)) = omega arith

    go : Found f m x ⊎ Missing f m x → Dec (f m ≡ x) → Found f (suc m) x ⊎ Missing f (suc m) x
    go (inl (i, h, e)) d = inl (i, omega arith, e)
    go (inr n) (yes e) = inl (m, omega arith, e)
    go (inr n) (no d) = inr (miss n d)

-- f with the value n replaced by x
swap : (ℕ → ℕ) → ℕ → ℕ → ℕ → ℕ
swap f n x i = elim (ℕ_discrete (f i) n) [ yes e ↦ x | no e ↦ f i ]

abbrev Swapped : (ℕ → ℕ) → ℕ → ℕ → ℕ → ℕ → Type 0
Swapped f n x i y = ((f i ≡ n) × (y ≡ x)) ⊎ ((¬ (f i ≡ n)) × (y ≡ f i))

swapped : (f : ℕ → ℕ) (n x i : ℕ) → Swapped f n x i (swap f n x i)
unfolding swap
swapped f n x i =
    elim (ℕ_discrete (f i) n) as (λ d. Swapped f n x i (elim d as (λ z. ℕ) [ yes e ↦ x | no e ↦ f i ]))
    [ yes e ↦ inl (e, refl) | no e ↦ inr (e, refl) ]

-- where no value below m is f m, the value n makes room for f m: the others then collide below n
pub collide : (n m : ℕ) (f : ℕ → ℕ) → ((i : ℕ) → i < m → f i < n) → n < m → Collision f m
collide zero m f h g = absurd (omega (arith, h 0 g))
collide (suc n) zero f h g = absurd (omega arith)
collide (suc n) (suc m) f h g = go (collide n m (swap f n (f m))) (look f m (f m))
  where
    back : Missing f m (f m) → Collision (swap f n (f m)) m → Collision f (suc m)
    back d (i, j, a, b, e) = (i, j, a, omega arith, on (swapped f n (f m) i) (swapped f n (f m) j))
      where
        on : Swapped f n (f m) i (swap f n (f m) i) → Swapped f n (f m) j (swap f n (f m) j) → f i ≡ f j
        on (inl (u, u')) (inl (v, v')) = u ∙ sym v
        on (inl (u, u')) (inr (v, v')) = absurd (d j b (sym v' ∙ sym e ∙ u'))
        on (inr (u, u')) (inl (v, v')) = absurd (d i (omega arith) (sym u' ∙ e ∙ v'))
        on (inr (u, u')) (inr (v, v')) = sym u' ∙ e ∙ v'

    small : Missing f m (f m) → (i : ℕ) → i < m → swap f n (f m) i < n
    small d i a = on (swapped f n (f m) i)
      where
        on : Swapped f n (f m) i (swap f n (f m) i) → swap f n (f m) i < n
        on (inl (u, u')) = omega (arith, h m (omega arith), d i a)
        on (inr (u, u')) = omega (arith, h i (omega arith))

    go : (((i : ℕ) → i < m → swap f n (f m) i < n) → n < m → Collision (swap f n (f m)) m) → Found f m (f m) ⊎ Missing f m (f m)
        → Collision f (suc m)
    go smaller (inl (i, a, e)) = (i, m, a, omega arith, e)
    go smaller (inr d) = back d (smaller (small d) (omega arith))
