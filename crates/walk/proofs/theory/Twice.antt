-- A walk that uses a turn twice is worse than the walk without the round; so a chosen walk has at most one link more than there are turns.
use mathlib.Core.Path.{◌≡◌, refl, sym, ap, ◌∙◌, subst}
use mathlib.Core.Logic.{◌⊎◌, inl, inr}
use mathlib.Core.List.{List, [], ◌∷◌}
use Prim.Native.Nat.{ℕ, zero, suc, ◌≤◌, ◌<◌}
use native.Mathlib.Omega.{arith}
use native.Mathlib.Decide.{dec_lt}
use lib.ListN.{length, get_or}
use Rattle.walk.specs.steps.Net.{Net, Back, via, Walk, two, more, Chosen}
use Rattle.walk.proofs.theory.Laws.{Laws}
use Rattle.walk.proofs.theory.Walks.{turn_sized}
use Rattle.walk.proofs.theory.Pigeonhole.{collide}

module _ (K : Type 0) (N : Net K) where
  -- the turns of a walk, last first
  unfoldable pub turns_of : {t : ℕ} {q : List ℕ} {k : K} {b : Back} → Walk K N t q k b → List ℕ
  turns_of (two t h s) = t ∷ []
  turns_of (more p t w h f) = t ∷ turns_of w

  pub turns_below : {t : ℕ} {q : List ℕ} {k : K} {b : Back} (w : Walk K N t q k b) (i : ℕ) → i < length (turns_of w)
      → get_or (turns_of w) i 0 < N.turns
  unfolding turns_of
  turns_below (two t h s) zero g = h
  turns_below (two t h s) (suc i) g = absurd (omega arith)
  turns_below (more p t w h f) zero g = h
  turns_below (more p t w h f) (suc i) g = turns_below w i (omega arith)

  -- a walk of turn t with a smaller key and fewer links
  abbrev pub Shorter : ℕ → K → Type 0
  Shorter t k = (q' : List ℕ) × (k' : K) × (b' : Back) × Walk K N t q' k' b' × N.lt k' k × (N.size k' < N.size k)

  -- a walk of turn t with at most turns + 1 links that is this one or has a smaller key
  abbrev pub Cut : ℕ → List ℕ → K → Type 0
  Cut t q k =
      (q' : List ℕ) × (k' : K) × (b' : Back) × Walk K N t q' k' b' × (N.size k' ≤ suc N.turns) × (((k' ≡ k) × (q' ≡ q)) ⊎ N.lt k' k)

module _ (K : Type 0) (N : Net K) (L : Laws K N) where
  pub turns_length : {t : ℕ} {q : List ℕ} {k : K} {b : Back} (w : Walk K N t q k b) → N.size k ≡ suc (length (turns_of K N w))
  unfolding turns_of
  turns_length (two t h s) = L.size_begin t
  turns_length (more p t {k = k} w h f) = L.size_extend p t k ∙ ap suc (turns_length w)

  up_to : (p t : ℕ) (k k' : K) → (k' ≡ k) ⊎ N.lt k' k → N.lt k' (N.extend p t k)
  up_to p t k k' (inl e) = rw e (L.grows p t k)
  up_to p t k k' (inr d) = L.trans k' k (N.extend p t k) d (L.grows p t k)

  -- the walk so far, at the turn i places before the last
  prefix : {t : ℕ} {q : List ℕ} {k : K} {b : Back} (w : Walk K N t q k b) (i : ℕ) → i < length (turns_of K N w)
      → (q' : List ℕ) × (k' : K) × (b' : Back) × Walk K N (get_or (turns_of K N w) i 0) q' k' b'
      × ((k' ≡ k) ⊎ N.lt k' k) × (N.size k' ≤ N.size k)
  unfolding turns_of
  prefix (two t h s) zero g = (_, _, _, two t h s, inl refl, omega arith)
  prefix (two t h s) (suc i) g = absurd (omega arith)
  prefix (more p t w h f) zero g = (_, _, _, more p t w h f, inl refl, omega arith)
  prefix (more p t {k = k} w h f) (suc i) g =
      let (q', k', b', w', d, s) = prefix w i (omega arith) in (q', k', b', w', inr (up_to p t k k' d), omega (arith, L.size_extend p t k))

  -- leave out the part between two uses of one turn
  pub splice : {t : ℕ} {q : List ℕ} {k : K} {b : Back} (w : Walk K N t q k b) (i j : ℕ) → i < j → j < length (turns_of K N w)
      → get_or (turns_of K N w) i 0 ≡ get_or (turns_of K N w) j 0 → Shorter K N t k
  unfolding turns_of
  splice (two t h s) i j a g e = absurd (omega arith)
  splice (more p t w h f) zero zero a g e = absurd (omega arith)
  splice (more p t {k = k} w h f) zero (suc j) a g e =
      let (q', k', b', w', d, s) = prefix w j (omega arith) in
      (q', k', b', subst (λ (x : ℕ). Walk K N x q' k' b') (sym e) w', up_to p t k k' d, omega (arith, L.size_extend p t k))
  splice (more p t w h f) (suc i) zero a g e = absurd (omega arith)
  splice (more p t {k = k} w h f) (suc i) (suc j) a g e =
      let (q', k', b', w', d, s) = splice w i j (omega arith) (omega arith) e in
      let s' : N.size (N.extend p t k') < N.size (N.extend p t k) = omega (arith, L.size_extend p t k, L.size_extend p t k') in
      (N.second t ∷ q', N.extend p t k', via p, more p t {q = q'} {k = k'} {b = b'} w' h f, L.mono p t k' k d, s')

  -- a walk of more links uses some turn twice
  long : {t : ℕ} {q : List ℕ} {k : K} {b : Back} → Walk K N t q k b → suc N.turns < N.size k → Shorter K N t k
  long w h =
      let (i, j, a, g, e) =
      collide N.turns (length (turns_of K N w)) (λ i. get_or (turns_of K N w) i 0) (turns_below K N w) (omega (arith, turns_length w)) in
      splice w i j a g e

  cut_within : (n : ℕ) {t : ℕ} {q : List ℕ} {k : K} {b : Back} → Walk K N t q k b → N.size k ≤ n → Cut K N t q k
  cut_within zero w h = (_, _, _, w, omega arith, inl (refl, refl))
  cut_within (suc n) {t} {q} {k} {b} w h = go (λ q k b w g. cut_within n w g) (dec_lt (suc N.turns) (N.size k))
    where
      on : (k₁ k₂ : K) (q₁ q₂ : List ℕ) → N.lt k₁ k → ((k₂ ≡ k₁) × (q₂ ≡ q₁)) ⊎ N.lt k₂ k₁ → N.lt k₂ k
      on k₁ k₂ q₁ q₂ d (inl (e, i)) = rw e d
      on k₁ k₂ q₁ q₂ d (inr g) = L.trans k₂ k₁ k g d

      go : ((q' : List ℕ) (k' : K) (b' : Back) → Walk K N t q' k' b' → N.size k' ≤ n → Cut K N t q' k')
          → Dec (suc N.turns < N.size k) → Cut K N t q k
      go cut-rest (no d) = (q, k, b, w, omega arith, inl (refl, refl))
      go cut-rest (yes d) =
          let (q₁, k₁, b₁, w₁, d₁, s₁) = long w d in
          let (q₂, k₂, b₂, w₂, s₂, d₂) = cut-rest q₁ k₁ b₁ w₁ (omega arith) in
          (q₂, k₂, b₂, w₂, s₂, inr (on k₁ k₂ q₁ q₂ d₁ d₂))

  -- every walk is at least as bad as one of at most turns + 1 links
  pub cut : {t : ℕ} {q : List ℕ} {k : K} {b : Back} → Walk K N t q k b → Cut K N t q k
  cut {k = k} w = cut_within (N.size k) w (omega arith)

  pub no_turn_twice : {t : ℕ} {q : List ℕ} {k : K} {b : Back} (c : Chosen K N (Walk K N t) q k b) (i j : ℕ) → i < j
      → j < length (turns_of K N c.walk)
      → ¬ (get_or (turns_of K N c.walk) i 0 ≡ get_or (turns_of K N c.walk) j 0)
  no_turn_twice c i j a g e = let (q', k', b', w', d, s) = splice c.walk i j a g e in c.best w' (inl d)

  pub chosen_short : {t : ℕ} {q : List ℕ} {k : K} {b : Back} → Chosen K N (Walk K N t) q k b → length q ≤ suc N.turns
  chosen_short {q = q} {k = k} c = go (dec_lt (suc N.turns) (N.size k))
    where
      go : Dec (suc N.turns < N.size k) → length q ≤ suc N.turns
      go (no d) = omega (arith, turn_sized K N L c.walk)
      go (yes d) = let (q', k', b', w', e, s) = long c.walk d in absurd (c.best w' (inl e))
