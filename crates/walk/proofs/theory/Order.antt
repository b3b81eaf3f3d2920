-- Walks of as many links are in a strict total order, by key and then by links; entries are, by key and then by back.
use mathlib.Core.Path.{◌≡◌, refl, sym, ap, ◌∙◌}
use mathlib.Core.Logic.{◌⊎◌, inl, inr}
use mathlib.Core.List.{List, [], ◌∷◌}
use Prim.Native.Nat.{ℕ, ◌<◌}
use native.Mathlib.Omega.{arith}
use native.Mathlib.Nat.{lt_irrefl}
use lib.ListN.{length}
use Rattle.walk.specs.Order.{Before}
use Rattle.walk.specs.steps.Net.{Net, Back, rank, Better, Ahead}
use Rattle.walk.proofs.theory.Laws.{Compared, Laws, lt_tri, Earlier, back_tri}

pub before_irrefl : (q : List ℕ) → ¬ Before q q
before_irrefl [] h = h
before_irrefl (a ∷ q) (inl h) = lt_irrefl a h
before_irrefl (a ∷ q) (inr h) = before_irrefl q h.1

pub before_trans : (q r s : List ℕ) → Before q r → Before r s → Before q s
before_trans [] r s h g = h
before_trans (a ∷ q) [] s h g = absurd h
before_trans (a ∷ q) (b ∷ r) [] h g = g
before_trans (a ∷ q) (b ∷ r) (c ∷ s) (inl h) (inl g) = inl (omega arith)
before_trans (a ∷ q) (b ∷ r) (c ∷ s) (inl h) (inr g) = inl (omega arith)
before_trans (a ∷ q) (b ∷ r) (c ∷ s) (inr h) (inl g) = inl (omega arith)
before_trans (a ∷ q) (b ∷ r) (c ∷ s) (inr h) (inr g) = inr (h.0 ∙ g.0, before_trans q r s h.1 g.1)

pub before_asym : (q r : List ℕ) → Before q r → ¬ Before r q
before_asym q r h g = before_irrefl q (before_trans q r q h g)

pub before_tri : (q r : List ℕ) → length q ≡ length r → Compared Before q r
before_tri [] [] e = inr (inl refl)
before_tri [] (b ∷ r) e = absurd (omega arith)
before_tri (a ∷ q) [] e = absurd (omega arith)
before_tri (a ∷ q) (b ∷ r) e = go (lt_tri a b) (before_tri q r (omega arith))
  where
    go : Compared ◌<◌ a b → Compared Before q r → Compared Before (a ∷ q) (b ∷ r)
    go (inl h) g = inl (inl h)
    go (inr (inr h)) g = inr (inr (inl h))
    go (inr (inl h)) (inl g) = inl (inr (h, g))
    go (inr (inl h)) (inr (inl g)) = inr (inl (cc))
    go (inr (inl h)) (inr (inr g)) = inr (inr (inr (sym h, g)))

-- ---- by key first, then by some order

module _ (K : Type 0) (N : Net K) (L : Laws K N) {A : Type 0} (R : A → A → Type 0) where
  abbrev Then : K → A → K → A → Type 0
  Then k x k' x' = N.lt k k' ⊎ ((k ≡ k') × R x x')

  then_irrefl : (k : K) (x : A) → ¬ R x x → ¬ Then k x k x
  then_irrefl k x n (inl h) = L.irrefl k h
  then_irrefl k x n (inr (e, h)) = n h

  then_trans : (k k' k'' : K) (x x' x'' : A) → (R x x' → R x' x'' → R x x'') → Then k x k' x' → Then k' x' k'' x'' → Then k x k'' x''
  then_trans k k' k'' x x' x'' f (inl h) (inl g) = inl (L.trans k k' k'' h g)
  then_trans k k' k'' x x' x'' f (inl h) (inr (e, g)) = inl (rw e at h)
  then_trans k k' k'' x x' x'' f (inr (e, h)) (inl g) = inl (rw e g)
  then_trans k k' k'' x x' x'' f (inr (e, h)) (inr (i, g)) = inr (e ∙ i, f h g)

  then_tri : (k k' : K) (x x' : A) → (k ≡ k' → Compared R x x') → Then k x k' x' ⊎ (((k ≡ k') × (x ≡ x')) ⊎ Then k' x' k x)
  then_tri k k' x x' c = go (L.tri k k')
    where
      on : k ≡ k' → Compared R x x' → Then k x k' x' ⊎ (((k ≡ k') × (x ≡ x')) ⊎ Then k' x' k x)
      on e (inl h) = inl (inr (e, h))
      on e (inr (inl i)) = inr (inl (e, i))
      on e (inr (inr h)) = inr (inr (inr (sym e, h)))

      go : Compared N.lt k k' → Then k x k' x' ⊎ (((k ≡ k') × (x ≡ x')) ⊎ Then k' x' k x)
      go (inl h) = inl (inl h)
      go (inr (inl e)) = on e (c e)
      go (inr (inr h)) = inr (inr (inl h))

module _ (K : Type 0) (N : Net K) where
  -- the first walk is better, or it is the second
  pub data Beats (k : K) (q : List ℕ) : K → List ℕ → Type 0 where
    same : Beats k q k q
    better : {k' : K} {q' : List ℕ} → Better K N k q k' q' → Beats k q k' q'

  pub beats_equal : {k k' : K} {q q' : List ℕ} → k ≡ k' → q ≡ q' → Beats k q k' q'
  beats_equal e i = rw (e, i) same

module _ (K : Type 0) (N : Net K) (L : Laws K N) where
  better_irrefl : (k : K) (q : List ℕ) → ¬ Better K N k q k q
  better_irrefl k q = then_irrefl K N L Before k q (before_irrefl q)

  better_trans : (k k' k'' : K) (q q' q'' : List ℕ) → Better K N k q k' q' → Better K N k' q' k'' q'' → Better K N k q k'' q''
  better_trans k k' k'' q q' q'' = then_trans K N L Before k k' k'' q q' q'' (before_trans q q' q'')

  pub beats_not : {k k' : K} {q q' : List ℕ} → Beats K N k q k' q' → ¬ Better K N k' q' k q
  beats_not {k = k} {q = q} same g = better_irrefl k q g
  beats_not {k} {k'} {q} {q'} (better h) g = better_irrefl k q (better_trans k k' k q q' q h g)

  pub beats_trans : {k k' k'' : K} {q q' q'' : List ℕ} → Beats K N k q k' q' → Beats K N k' q' k'' q'' → Beats K N k q k'' q''
  beats_trans same g = g
  beats_trans (better h) same = better h
  beats_trans {k} {k'} {k''} {q} {q'} {q''} (better h) (better g) = better (better_trans k k' k'' q q' q'' h g)

  -- the order stays when both walks go on by one turn
  pub beats_extend : (p t l : ℕ) {k k' : K} {q q' : List ℕ} → Beats K N k q k' q'
      → Beats K N (N.extend p t k) (l ∷ q) (N.extend p t k') (l ∷ q')
  beats_extend p t l same = same
  beats_extend p t l {k} {k'} (better (inl h)) = better (inl (L.mono p t k k' h))
  beats_extend p t l {q' = q'} (better (inr (e, h))) = better {q' = l ∷ q'} (inr (ap (N.extend p t) e, inr (refl, h)))

  -- of two walks whose keys count their links, one beats the other
  pub beats_total : {k k' : K} {q q' : List ℕ} → N.size k ≡ length q → N.size k' ≡ length q' → ¬ Better K N k' q' k q
      → Beats K N k q k' q'
  beats_total {k} {k'} {q} {q'} s s' n = go (then_tri K N L Before k k' q q' (λ e. before_tri q q' (sym s ∙ ap N.size e ∙ s')))
    where
      go : Better K N k q k' q' ⊎ (((k ≡ k') × (q ≡ q')) ⊎ Better K N k' q' k q) → Beats K N k q k' q'
      go (inl h) = better h
      go (inr (inl (e, i))) = beats_equal K N e i
      go (inr (inr h)) = absurd (n h)

  pub ahead_irrefl : (k : K) (b : Back) → ¬ Ahead K N k b k b
  ahead_irrefl k b = then_irrefl K N L Earlier k b (lt_irrefl (rank b))

  pub not_ahead_self : {k k' : K} {b b' : Back} → k ≡ k' → b ≡ b' → ¬ Ahead K N k b k' b'
  not_ahead_self {k} {k'} {b} {b'} e i = rw (e, i) (ahead_irrefl k' b')

  pub ahead_trans : (k k' k'' : K) (b b' b'' : Back) → Ahead K N k b k' b' → Ahead K N k' b' k'' b'' → Ahead K N k b k'' b''
  ahead_trans k k' k'' b b' b'' = then_trans K N L Earlier k k' k'' b b' b'' (λ h g. omega arith)

  pub ahead_tri : (k k' : K) (b b' : Back) → Ahead K N k b k' b' ⊎ (((k ≡ k') × (b ≡ b')) ⊎ Ahead K N k' b' k b)
  ahead_tri k k' b b' = then_tri K N L Earlier k k' b b' (λ e. back_tri b b')
