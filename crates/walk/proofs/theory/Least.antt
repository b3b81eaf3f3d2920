-- The least candidate is the chosen walk's entry, wherever some walks realise the candidates and every walk is beaten by one of them.
use mathlib.Core.Path.{◌≡◌, refl}
use mathlib.Core.Logic.{◌⊎◌, inl, inr, ◌↔◌}
use mathlib.Core.List.{List}
use Prim.Native.Nat.{ℕ, ◌<◌}
use Rattle.walk.specs.Order.{Before}
use Rattle.walk.specs.steps.Net.{Net, Back, rank, Entry, reached, Walks, Candidates, Chosen, True, chosen, absent, Ahead, Least}
use Rattle.walk.specs.steps.Net.{least, nothing}
use Rattle.walk.proofs.theory.Laws.{Laws}
use Rattle.walk.proofs.theory.Order.{Beats, same, better, beats_equal, beats_not, beats_trans, beats_total, ahead_tri}
use Rattle.walk.proofs.theory.Walks.{Regular}

module _ (K : Type 0) (N : Net K) where
  pub least_same : {C C' : Candidates K} → ((k : K) (b : Back) → C k b ↔ C' k b) → {e : Entry K} → Least K N C e → Least K N C' e
  least_same f (least {k} {b} c m) = least ((f k b).0 c) (λ k' b' c'. m k' b' ((f k' b').1 c'))
  least_same f (nothing n) = nothing (λ k b c. n k b ((f k b).1 c))

  pub least_iff : {C C' : Candidates K} → ((k : K) (b : Back) → C k b ↔ C' k b) → {e : Entry K} → Least K N C e ↔ Least K N C' e
  least_iff f = (least_same f, least_same (λ k b. ((f k b).1, (f k b).0)))

  -- a reached least entry is a candidate
  pub least_cand : {C : Candidates K} {k : K} {b : Back} → Least K N C (reached k b) → C k b
  least_cand (least c m) = c

  pub chosen_equal : {W : Walks K} {q q' : List ℕ} {k k' : K} {b : Back} {e : Entry K} → q ≡ q' → k ≡ k'
      → Chosen K N W q' k' b → e ≡ reached k' b → Chosen K N W q k b × (e ≡ reached k b)
  chosen_equal i j c e = (rw (i, j) c, rw j e)

  -- some walk of R beats a walk of this key and these links
  abbrev pub Beaten : Walks K → K → List ℕ → Type 0
  Beaten R k q = (q' : List ℕ) × (k' : K) × (b' : Back) × R q' k' b' × Beats K N k' q' k q

  -- the walks R are walks of W, one for each candidate of C, and a tie goes to the smaller back
  pub record Joins (W : Walks K) (C : Candidates K) (R : Walks K) : Type 0 where
    pub regular : Regular K N W
    pub walked : {q : List ℕ} {k : K} {b : Back} → R q k b → W q k b
    pub counted : {q : List ℕ} {k : K} {b : Back} → R q k b → C k b
    pub made : {k : K} {b : Back} → C k b → (q : List ℕ) × R q k b
    pub tied : {q q' : List ℕ} {k k' : K} {b b' : Back} → R q k b → R q' k' b' → k ≡ k' → rank b < rank b' → Before q q'
    pub single : {q q' : List ℕ} {k k' : K} {b b' : Back} → R q k b → R q' k' b' → b ≡ b' → (k ≡ k') × (q ≡ q')

module _ (K : Type 0) (N : Net K) (L : Laws K N) where
  -- the least candidate is one
  pub least_unique : {C : Candidates K} {e e' : Entry K} → Least K N C e → Least K N C e' → e ≡ e'
  least_unique (least {k} {b} c m) (least {k = k'} {b = b'} c' m') = go (ahead_tri K N L k k' b b')
    where
      go : Ahead K N k b k' b' ⊎ (((k ≡ k') × (b ≡ b')) ⊎ Ahead K N k' b' k b) → reached k b ≡ reached k' b'
      go (inl h) = absurd (m' k b c h)
      go (inr (inl (e, i))) = cc
      go (inr (inr h)) = absurd (m k' b' c' h)
  least_unique (least c m) (nothing n) = absurd (n _ _ c)
  least_unique (nothing n) (least c m) = absurd (n _ _ c)
  least_unique (nothing n) (nothing n') = refl

  -- ---- the chosen walk and the true entry are one

  module _ {W : Walks K} (G : Regular K N W) where
    pub chosen_beats : {q q' : List ℕ} {k k' : K} {b b' : Back} → Chosen K N W q k b → W q' k' b' → Beats K N k q k' q'
    chosen_beats c w = beats_total K N L (G.sized c.walk) (G.sized w) (c.best w)

    pub chosen_one : {q q' : List ℕ} {k k' : K} {b b' : Back} → Chosen K N W q k b → Chosen K N W q' k' b' → (q ≡ q') × (k ≡ k') × (b ≡ b')
    chosen_one c c' = go c c' (chosen_beats c c'.walk)
      where
        go : {q q' : List ℕ} {k k' : K} {b b' : Back} → Chosen K N W q k b → Chosen K N W q' k' b' → Beats K N k q k' q'
            → (q ≡ q') × (k ≡ k') × (b ≡ b')
        go c c' same = (refl, refl, G.decided c.walk c'.walk refl)
        go c c' (better h) = absurd (c'.best c.walk h)

    pub true_unique : {e e' : Entry K} → True K N W e → True K N W e' → e ≡ e'
    true_unique (chosen q c) (chosen q' c') = let (i, j, m) = chosen_one c c' in cc
    true_unique (chosen q c) (absent n) = absurd (n _ _ _ c.walk)
    true_unique (absent n) (chosen q c) = absurd (n _ _ _ c.walk)
    true_unique (absent n) (absent m) = refl

  -- ---- least candidate and chosen walk

  module _ {W : Walks K} {C : Candidates K} {R : Walks K} (J : Joins K N W C R) where
    pub least_beats : {q q' : List ℕ} {k k' : K} {b b' : Back} → R q k b → R q' k' b' → ¬ Ahead K N k' b' k b → Beats K N k q k' q'
    least_beats {q} {q'} {k} {k'} {b} {b'} r r' n = go (ahead_tri K N L k k' b b')
      where
        go : Ahead K N k b k' b' ⊎ (((k ≡ k') × (b ≡ b')) ⊎ Ahead K N k' b' k b) → Beats K N k q k' q'
        go (inl (inl h)) = better (inl h)
        go (inl (inr (e, h))) = better (inr (e, J.tied r r' e h))
        go (inr (inl (e, i))) = beats_equal K N e (J.single r r' i).1
        go (inr (inr h)) = absurd (n h)

    module _ (cover : (q : List ℕ) (k : K) (b : Back) → W q k b → Beaten K N R k q) where
      pub least_true : {e : Entry K} → Least K N C e → True K N W e
      least_true (least c m) =
          let (q, r) = J.made c in
          chosen q (record {
            walk = J.walked r;
            best = λ w.
                let (q₂, k₂, b₂, r₂, o) = cover _ _ _ w in
                beats_not K N L (beats_trans K N L (least_beats r r₂ (m _ _ (J.counted r₂))) o);
          })
      least_true (nothing n) = absent (λ q k b w. let (q', k', b', r, o) = cover q k b w in n k' b' (J.counted r))

      -- a chosen walk is a realisation
      pub chosen_real : {q : List ℕ} {k : K} {b : Back} → Chosen K N W q k b → R q k b
      chosen_real {q} {k} {b} c = let (q', k', b', r, o) = cover q k b c.walk in go c r o
        where
          go : {q q' : List ℕ} {k k' : K} {b b' : Back} → Chosen K N W q k b → R q' k' b' → Beats K N k' q' k q → R q k b
          go c r same = rw (← J.regular.decided (J.walked r) c.walk refl) r
          go c r (better h) = absurd (c.best (J.walked r) h)

      pub true_least : {e : Entry K} → True K N W e → Least K N C e
      true_least (chosen q {k} {b} ch) = least (J.counted real) go
        where
          real : R q k b
          real = chosen_real ch

          go : (k' : K) (b' : Back) → C k' b' → ¬ Ahead K N k' b' k b
          go k' b' c (inl h) = let (q', r) = J.made c in ch.best (J.walked r) (inl h)
          go k' b' c (inr (e, h)) = let (q', r) = J.made c in ch.best (J.walked r) (inr (e, J.tied r real e h))
      true_least (absent n) = nothing (λ k b c. let (q, r) = J.made c in n q k b (J.walked r))
