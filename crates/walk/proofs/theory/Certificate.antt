-- The certificate: a table satisfies the local equations exactly where every entry of it is the true one, over walks of any length.
use mathlib.Core.Path.{◌≡◌, refl}
use mathlib.Core.Logic.{◌↔◌}
use mathlib.Core.List.{List, [], ◌∷◌}
use Prim.Native.Nat.{ℕ, zero, suc, ◌≤◌, ◌<◌}
use native.Mathlib.Omega.{arith}
use lib.Dec.{T}
use Rattle.walk.specs.steps.Net.{Net, Back, start, via, Entry, reached, Table, Walk, two, more, TrueTurn, TrueLink, TrueTurns}
use Rattle.walk.specs.steps.Net.{TrueLinks, Cand, fresh, through, LinkCand, Least, least, nothing, Local, LocalLinks}
use Rattle.walk.proofs.theory.Laws.{Laws}
use Rattle.walk.proofs.theory.Order.{beats_trans, beats_extend}
use Rattle.walk.proofs.theory.Walks.{turn_regular, link_regular}
use Rattle.walk.proofs.theory.Least.{least_same, least_iff, least_cand, Beaten, least_beats, least_true, true_unique}
use Rattle.walk.proofs.theory.Stage.{Stepped, at_once, after, Offered, Backed, stage_joins, stage_cover, stage_certificate}
use Rattle.walk.proofs.theory.ThreeStages.{turn_stage, turn_staged, link_staged, turn_cands, link_cands}

module _ (K : Type 0) (N : Net K) (L : Laws K N) where
  -- ---- a table that satisfies the local equations is true

  module _ (tab : Table K) (loc : Local K N tab) where
    -- the walk that the backs lead along
    data Traced : ℕ → List ℕ → K → Back → Type 0 where
      last_two : (t : ℕ) → t < N.turns → T (N.begins t) → tab t ≡ reached (N.begin t) start
          → Traced t (N.second t ∷ N.first t ∷ []) (N.begin t) start
      one_more : (p t : ℕ) {q : List ℕ} {k : K} {b : Back} → Traced p q k b → t < N.turns → T (N.follows p t)
          → tab t ≡ reached (N.extend p t k) (via p) → Traced t (N.second t ∷ q) (N.extend p t k) (via p)

    traced_walk : {t : ℕ} {q : List ℕ} {k : K} {b : Back} → Traced t q k b → Walk K N t q k b
    traced_walk (last_two t h s e) = two t h s
    traced_walk (one_more p t w h f e) = more p t (traced_walk w) h f

    traced_entry : {t : ℕ} {q : List ℕ} {k : K} {b : Back} → Traced t q k b → tab t ≡ reached k b
    traced_entry (last_two t h s e) = e
    traced_entry (one_more p t w h f e) = e

    traced_step : {t : ℕ} {q : List ℕ} {k : K} {b : Back} → Traced t q k b → Stepped (turn_stage K N t) Traced q k b
    traced_step (last_two t h s e) = at_once s
    traced_step (one_more p t w h f e) = after p w f

    traced_one : {t t' : ℕ} {q q' : List ℕ} {k k' : K} {b b' : Back} → Traced t q k b → Traced t' q' k' b' → t ≡ t' → q ≡ q'
    traced_one (last_two t h s e) (last_two t' h' s' e') i = cc
    traced_one (last_two t h s e) (one_more p' t' w' h' f' e') i = cc
    traced_one (one_more p t w h f e) (last_two t' h' s' e') i = cc
    traced_one (one_more p t w h f e) (one_more p' t' w' h' f' e') i = let j = traced_one w w' (cc) in cc

    -- every reached turn is traced: the number of links falls along the backs
    follow : {t : ℕ} {k : K} {b : Back} → t < N.turns → tab t ≡ reached k b → Cand K N tab t k b
        → ((p : ℕ) (k' : K) (b' : Back) → p < N.turns → tab p ≡ reached k' b' → N.size k' < N.size k → (q : List ℕ) × Traced p q k' b')
        → (q : List ℕ) × Traced t q k b
    follow {t} h e (fresh s) before = (_, last_two t h s e)
    follow {t} h e (through p {k} {b} g f i) before =
        let (q, w) = before p k b g i (omega (arith, L.size_extend p t k)) in (_, one_more p t w h f e)

    trace : (n t : ℕ) {k : K} {b : Back} → t < N.turns → tab t ≡ reached k b → N.size k ≤ n → (q : List ℕ) × Traced t q k b
    trace zero t h e g = follow h e (least_cand K N (rw e at (loc t h))) (λ p k b i j s. absurd (omega arith))
    trace (suc n) t h e g = follow h e (least_cand K N (rw e at (loc t h))) (λ p k b i j s. trace n p i j (omega arith))

    traced_backed : Backed K N N.turns (Walk K N) tab Traced
    traced_backed = record {
      is_walk = traced_walk;
      is_entry = traced_entry;
      is_one = traced_one;
      is_there = λ p {k} h e. trace (N.size k) p h e (omega arith);
    }

    offered : (t : ℕ) → t < N.turns → Least K N (Offered (turn_stage K N t) N.turns tab) (tab t)
    offered t h = (least_iff K N (turn_cands K N)).1 (loc t h)

    -- a turn's traced walk beats each traced walk that goes on by this turn
    meet : (t : ℕ) {q : List ℕ} {k : K} {b : Back} → t < N.turns → Stepped (turn_stage K N t) Traced q k b → Beaten K N (Traced t) k q
    meet t {q} {k} h r = go refl (offered t h)
      where
        go : {e : Entry K} → tab t ≡ e → Least K N (Offered (turn_stage K N t) N.turns tab) e → Beaten K N (Traced t) k q
        go i (least {k = k'} c m) =
            let (q', w) = trace (N.size k') t h i (omega arith) in
            let J = stage_joins K N (turn_staged K N L t h) traced_backed in
            (q', _, _, w, least_beats K N L J (traced_step w) r (m _ _ (J.counted r)))
        go i (nothing n) = absurd (n _ _ ((stage_joins K N (turn_staged K N L t h) traced_backed).counted r))

    traced_beats : {p : ℕ} {q : List ℕ} {k : K} {b : Back} → Walk K N p q k b → Beaten K N (Traced p) k q
    traced_beats (two t h s) = meet t h (at_once s)
    traced_beats (more p t w h f) =
        let (q₁, k₁, b₁, w₁, o₁) = traced_beats w in
        let (q₂, k₂, b₂, w₂, o₂) = meet t h (after p w₁ f) in
        (q₂, k₂, b₂, w₂, beats_trans K N L o₂ (beats_extend K N L p t (N.second t) o₁))

    pub local_true : TrueTurns K N tab
    local_true t h =
        let G = turn_staged K N L t h in
        least_true K N L (stage_joins K N G traced_backed) (stage_cover K N G traced_backed (λ p q k b w. traced_beats w)) (offered t h)

  -- ---- a true table satisfies them, and so does a true table of links over it

  pub true_local : (tab : Table K) → TrueTurns K N tab → Local K N tab
  true_local tab true t h = least_same K N (turn_cands K N) ((stage_certificate K N (turn_staged K N L t h) L tab true).1 (true t h))

  pub link_true_least : (tab : Table K) → TrueTurns K N tab → (l : ℕ) → l < N.links → {e : Entry K}
      → Least K N (LinkCand K N tab l) e ↔ TrueLink K N l e
  link_true_least tab true l h =
      let c = stage_certificate K N (link_staged K N L l h) L tab true in
      (λ m. c.0 ((least_iff K N (link_cands K N)).1 m), λ e. (least_iff K N (link_cands K N)).0 (c.1 e))

  -- ---- the theorem

  pub certificate : (tab : Table K) → Local K N tab ↔ TrueTurns K N tab
  certificate tab = (local_true tab, true_local tab)

  pub link_certificate : (tab ltab : Table K) → TrueTurns K N tab → LocalLinks K N tab ltab ↔ TrueLinks K N ltab
  link_certificate tab ltab true = (λ m l h. (link_true_least tab true l h).0 (m l h), λ e l h. (link_true_least tab true l h).1 (e l h))

  pub turn_unique : {t : ℕ} {e e' : Entry K} → TrueTurn K N t e → TrueTurn K N t e' → e ≡ e'
  turn_unique {t} = true_unique K N L (turn_regular K N L t)

  pub link_unique : {l : ℕ} {e e' : Entry K} → TrueLink K N l e → TrueLink K N l e' → e ≡ e'
  link_unique {l} = true_unique K N L (link_regular K N L l)

  pub local_unique : (tab tab' : Table K) → Local K N tab → Local K N tab' → (t : ℕ) → t < N.turns → tab t ≡ tab' t
  local_unique tab tab' m m' t h = turn_unique (local_true tab m t h) (local_true tab' m' t h)
