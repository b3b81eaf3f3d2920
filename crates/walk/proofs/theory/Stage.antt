-- An entry comes from a start of its own or from an entry one step before it: what turns, links and destinations share.
use mathlib.Core.Path.{◌≡◌, refl, sym, ap, ◌∙◌, subst}
use mathlib.Core.Logic.{◌↔◌}
use mathlib.Core.List.{List}
use Prim.Native.Nat.{ℕ, ◌<◌}
use native.Mathlib.Omega.{arith}
use Rattle.walk.specs.Order.{Before}
use Rattle.walk.specs.steps.Net.{Net, Back, start, via, rank, Entry, reached, Table, Walks, Chosen, True, chosen, absent, Least}
use Rattle.walk.proofs.theory.Laws.{Laws, clash}
use Rattle.walk.proofs.theory.Order.{Beats, same}
use Rattle.walk.proofs.theory.Walks.{Regular}
use Rattle.walk.proofs.theory.Least.{Beaten, Joins, chosen_beats, chosen_one, least_true, chosen_real, true_least}

pub record Stage (K : Type 0) : Type 1 where
  -- it may come from the origin at once, by these links and at this key
  pub begins : Type 0
  pub links : List ℕ
  pub key : K
  -- or by the number p of the stage before, whose links and key then go on so
  pub passes : ℕ → Type 0
  pub onward : List ℕ → List ℕ
  pub step : ℕ → K → K

-- the walks P of the stage before, one step on
pub data Stepped {K : Type 0} (S : Stage K) (P : ℕ → Walks K) : List ℕ → K → Back → Type 0 where
  at_once : S.begins → Stepped S P S.links S.key start
  after : (p : ℕ) {q : List ℕ} {k : K} {b : Back} → P p q k b → S.passes p → Stepped S P (S.onward q) (S.step p k) (via p)

-- the first n entries of the stage before, one step on
pub data Offered {K : Type 0} (S : Stage K) (n : ℕ) (tab : Table K) : K → Back → Type 0 where
  begun : S.begins → Offered S n tab S.key start
  handed : (p : ℕ) {k : K} {b : Back} → p < n → S.passes p → tab p ≡ reached k b → Offered S n tab (S.step p k) (via p)

module _ (K : Type 0) (N : Net K) where
  -- the walks W are the walks U of the n numbers before, one step on; a smaller number gives the walk that stands before
  pub record Staged (S : Stage K) (n : ℕ) (U : ℕ → Walks K) (W : Walks K) : Type 0 where
    pub regular : Regular K N W
    pub regular_before : (p : ℕ) → Regular K N (U p)
    pub inside : {p : ℕ} {q : List ℕ} {k : K} {b : Back} → U p q k b → p < n
    pub walked : {q : List ℕ} {k : K} {b : Back} → Stepped S U q k b → W q k b
    pub parted : {q : List ℕ} {k : K} {b : Back} → W q k b → Stepped S U q k b
    pub apart : {p : ℕ} {q : List ℕ} {k : K} {b : Back} → U p q k b → S.passes p → ¬ (S.key ≡ S.step p k)
    pub ordered : {p p' : ℕ} {q q' : List ℕ} {k k' : K} {b b' : Back} → U p q k b → U p' q' k' b' → S.passes p → S.passes p' → p < p'
        → Before (S.onward q) (S.onward q')
    pub respects : (p : ℕ) {k k' : K} {q q' : List ℕ} → Beats K N k q k' q'
        → Beats K N (S.step p k) (S.onward q) (S.step p k') (S.onward q')

  -- P has one walk for each reached entry of the table
  pub record Backed (n : ℕ) (U : ℕ → Walks K) (tab : Table K) (P : ℕ → Walks K) : Type 0 where
    pub is_walk : {p : ℕ} {q : List ℕ} {k : K} {b : Back} → P p q k b → U p q k b
    pub is_entry : {p : ℕ} {q : List ℕ} {k : K} {b : Back} → P p q k b → tab p ≡ reached k b
    pub is_one : {p p' : ℕ} {q q' : List ℕ} {k k' : K} {b b' : Back} → P p q k b → P p' q' k' b' → p ≡ p' → q ≡ q'
    pub is_there : (p : ℕ) {k : K} {b : Back} → p < n → tab p ≡ reached k b → (q : List ℕ) × P p q k b

  -- what a walk by number p was one step before: the chosen walk of p, whose entry the table has
  abbrev pub OneBack : Stage K → (ℕ → Walks K) → Table K → ℕ → List ℕ → K → Type 0
  OneBack S U tab p q k =
      (q' : List ℕ) × (k' : K) × (b' : Back) × Chosen K N (U p) q' k' b' × (tab p ≡ reached k' b') × (q ≡ S.onward q') × (k ≡ S.step p k')

  -- the chosen walk, where the table has its entry
  pub record Best (U : ℕ → Walks K) (tab : Table K) (p : ℕ) (q : List ℕ) (k : K) (b : Back) : Type 0 where
    pub entry : tab p ≡ reached k b
    pub choice : Chosen K N (U p) q k b

  module _ {S : Stage K} {n : ℕ} {U : ℕ → Walks K} {W : Walks K} (G : Staged S n U W) where
    module _ {tab : Table K} {P : ℕ → Walks K} (B : Backed n U tab P) where
      stepped_walk : {q : List ℕ} {k : K} {b : Back} → Stepped S P q k b → W q k b
      stepped_walk (at_once s) = G.walked (at_once s)
      stepped_walk (after p w f) = G.walked (after p (B.is_walk w) f)

      stepped_offer : {q : List ℕ} {k : K} {b : Back} → Stepped S P q k b → Offered S n tab k b
      stepped_offer (at_once s) = begun s
      stepped_offer (after p w f) = handed p (G.inside (B.is_walk w)) f (B.is_entry w)

      offer_stepped : {k : K} {b : Back} → Offered S n tab k b → (q : List ℕ) × Stepped S P q k b
      offer_stepped (begun s) = (_, at_once s)
      offer_stepped (handed p h f e) = let (q, w) = B.is_there p h e in (_, after p w f)

      stepped_tie : {q q' : List ℕ} {k k' : K} {b b' : Back} → Stepped S P q k b → Stepped S P q' k' b' → k ≡ k' → rank b < rank b'
          → Before q q'
      stepped_tie (at_once s) (at_once s') e h = absurd (omega arith)
      stepped_tie (at_once s) (after p w f) e h = absurd (G.apart (B.is_walk w) f e)
      stepped_tie (after p w f) (at_once s) e h = absurd (omega arith)
      stepped_tie (after p w f) (after p' w' f') e h = G.ordered (B.is_walk w) (B.is_walk w') f f' (omega arith)

      stepped_one : {q q' : List ℕ} {k k' : K} {b b' : Back} → Stepped S P q k b → Stepped S P q' k' b' → b ≡ b' → (k ≡ k') × (q ≡ q')
      stepped_one (at_once s) (at_once s') e = (refl, refl)
      stepped_one (at_once s) (after p w f) e = (cc, cc)
      stepped_one (after p w f) (at_once s) e = (cc, cc)
      stepped_one (after p w f) (after p' w' f') e =
          let i : p ≡ p' = cc in
          let x = B.is_entry w in
          let y = B.is_entry w' in
          let j = B.is_one w w' i in
          (cc, cc)

      pub stage_joins : Joins K N W (Offered S n tab) (Stepped S P)
      stage_joins = record {
        regular = G.regular;
        walked = stepped_walk;
        counted = stepped_offer;
        made = offer_stepped;
        tied = stepped_tie;
        single = stepped_one;
      }

      -- where every walk before is beaten by one of P, every walk is beaten by one of P, one step on
      pub stage_cover : ((p : ℕ) (q : List ℕ) (k : K) (b : Back) → U p q k b → Beaten K N (P p) k q)
          → (q : List ℕ) (k : K) (b : Back) → W q k b → Beaten K N (Stepped S P) k q
      stage_cover beaten q k b w = go (G.parted w)
        where
          go : {q : List ℕ} {k : K} {b : Back} → Stepped S U q k b → Beaten K N (Stepped S P) k q
          go (at_once s) = (_, _, _, at_once s, same)
          go (after p w f) = let (q', k', b', r, o) = beaten p _ _ _ w in (_, _, _, after p r f, G.respects p o)

    -- ---- over a true table

    module _ (L : Laws K N) (tab : Table K) (true : (p : ℕ) → p < n → True K N (U p) (tab p)) where
      best_there : (p : ℕ) {k : K} {b : Back} → p < n → tab p ≡ reached k b → (q : List ℕ) × Best U tab p q k b
      best_there p {k} {b} h e = go (rw e at (true p h))
        where
          go : True K N (U p) (reached k b) → (q : List ℕ) × Best U tab p q k b
          go (chosen q c) = (q, record { entry = e; choice = c })

      best_one : {p p' : ℕ} {q q' : List ℕ} {k k' : K} {b b' : Back} → Best U tab p q k b → Best U tab p' q' k' b' → p ≡ p' → q ≡ q'
      best_one {p} {p'} {q} {q'} {k} {k'} {b} {b'} w w' e =
          (chosen_one K N L (G.regular_before p') (subst (λ (x : ℕ). Chosen K N (U x) q k b) e w.choice) w'.choice).0

      best_backed : Backed n U tab (Best U tab)
      best_backed = record { is_walk = λ w. w.choice.walk; is_entry = λ w. w.entry; is_one = best_one; is_there = best_there }

      best_beats : (p : ℕ) (q : List ℕ) (k : K) (b : Back) → U p q k b → Beaten K N (Best U tab p) k q
      best_beats p q k b w = go refl (true p (G.inside w))
        where
          go : {e : Entry K} → tab p ≡ e → True K N (U p) e → Beaten K N (Best U tab p) k q
          go i (chosen q' c) = (q', _, _, record { entry = i; choice = c }, chosen_beats K N L (G.regular_before p) c w)
          go i (absent m) = absurd (m q k b w)

      pub stage_certificate : {e : Entry K} → Least K N (Offered S n tab) e ↔ True K N W e
      stage_certificate = (
        least_true K N L (stage_joins best_backed) (stage_cover best_backed best_beats),
        true_least K N L (stage_joins best_backed) (stage_cover best_backed best_beats),
      )

      -- a chosen walk without its last step is the chosen walk of its back
      pub stage_back : {q : List ℕ} {k : K} {p : ℕ} → Chosen K N W q k (via p) → OneBack S U tab p q k
      stage_back {p = p} c = go (chosen_real K N L (stage_joins best_backed) (stage_cover best_backed best_beats) c) refl
        where
          go : {q : List ℕ} {k : K} {b : Back} → Stepped S (Best U tab) q k b → b ≡ via p → OneBack S U tab p q k
          go (at_once s) e = clash (cc)
          go (after p' {q} {k} {b} w f) e =
              let i : p' ≡ p = cc in
              let c = subst (λ (x : ℕ). Chosen K N (U x) q k b) i w.choice in
              (q, k, b, c, sym (ap tab i) ∙ w.entry, refl, ap (λ (x : ℕ). S.step x k) i)
