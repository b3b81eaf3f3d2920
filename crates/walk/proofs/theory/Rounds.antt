-- Label correcting: as many rounds of sweeps as there are turns, and one more, give the true table; so every net has one.
use mathlib.Core.Path.{◌≡◌, refl, sym, ap, ◌∙◌}
use mathlib.Core.Logic.{◌⊎◌, inl, inr}
use mathlib.Core.Bool.{Bool}
use mathlib.Core.Option.{Option, none, some}
use mathlib.Core.List.{List}
use Prim.Native.Nat.{ℕ, zero, suc, ◌≤◌, ◌<◌}
use native.Mathlib.Omega.{arith}
use Rattle.walk.specs.steps.Net.{Net, Back, Entry, unreached, reached, Table, Walk, two, more, TrueTurns, Cand, fresh, through, Least}
use Rattle.walk.specs.steps.Net.{least, nothing}
use Rattle.walk.specs.steps.Sweep.{when, key_of, mapped, sweep, turn_entry}
use Rattle.walk.proofs.theory.Laws.{Laws, clash, asym, not_less_trans, not_less_extend, not_less_both}
use Rattle.walk.proofs.theory.Walks.{below, two_or_more}
use Rattle.walk.proofs.theory.Least.{least_cand}
use Rattle.walk.proofs.theory.Twice.{cut}
use Rattle.walk.proofs.theory.Sweep.{Tested, turn_least, turns_true}

module _ (K : Type 0) (N : Net K) where
  -- some walk to t has the entry's key
  abbrev pub Walked : ℕ → Entry K → Type 0
  Walked t e = (k : K) (b : Back) → e ≡ reached k b → (q : List ℕ) × (b' : Back) × Walk K N t q k b'

  -- the entry is reached, and its key is not larger
  abbrev pub Matches : Entry K → K → Type 0
  Matches e k = (k' : K) × (b' : Back) × (e ≡ reached k' b') × (¬ N.lt k k')

  -- the entry's key is not larger than that of any walk to t of at most i + 1 links
  abbrev pub AsGood : ℕ → ℕ → Entry K → Type 0
  AsGood i t e = (q : List ℕ) (k : K) (b : Back) → Walk K N t q k b → N.size k ≤ suc i → Matches e k

module _ (K : Type 0) (N : Net K) (L : Laws K N) (less : K → K → Bool) (D : Tested K N less) where
  -- ---- a sweep reads only the keys

  sweep_cong : (base : Option K) (h h' : ℕ → Option K) (n : ℕ) → ((p : ℕ) → p < n → h p ≡ h' p)
      → sweep K less base h n ≡ sweep K less base h' n
  sweep_cong base h h' zero e = refl
  sweep_cong base h h' (suc n) e = rw (sweep_cong base h h' n (λ p g. e p (omega arith)), e n (omega arith))

  pub keys_agree : (tab tab' : Table K) → ((p : ℕ) → p < N.turns → key_of (tab p) ≡ key_of (tab' p)) → (t : ℕ)
      → turn_entry K N less tab t ≡ turn_entry K N less tab' t
  keys_agree tab tab' e t =
      sweep_cong (when (N.begins t) (some (N.begin t))) (λ p. when (N.follows p t) (mapped (N.extend p t) (key_of (tab p))))
      (λ p. when (N.follows p t) (mapped (N.extend p t) (key_of (tab' p)))) N.turns
      (λ p g. ap (λ (x : Option K). when (N.follows p t) (mapped (N.extend p t) x)) (e p g))

  module _ (tab : Table K) where
    -- a walk is matched by a candidate where the walk before it is matched by an entry
    match_cand : {t : ℕ} {q : List ℕ} {k : K} {b : Back} → Walk K N t q k b
        → ((p : ℕ) (q' : List ℕ) (k' : K) (b' : Back) → Walk K N p q' k' b' → N.size k ≡ suc (N.size k') → Matches K N (tab p) k')
        → (k' : K) × (b' : Back) × Cand K N tab t k' b' × (¬ N.lt k k')
    match_cand (two t h s) m = (_, _, fresh s, L.irrefl (N.begin t))
    match_cand (more p t {q} {k} {b} w h f) m =
        let (k', b', e, n) = m p q k b w (L.size_extend p t k) in
        (_, _, through p (below K N w) f e, not_less_extend K N L p t k' k n)

    module _ (real : (t : ℕ) → t < N.turns → Walked K N t (tab t)) where
      cand_walk : {t : ℕ} {k : K} {b : Back} → t < N.turns → Cand K N tab t k b → (q : List ℕ) × (b' : Back) × Walk K N t q k b'
      cand_walk {t} h (fresh s) = (_, _, two t h s)
      cand_walk {t} h (through p {k} {b} g f e) = let (q, b', w) = real p g k b e in (_, _, more p t w h f)

      pub walked_step : (t : ℕ) → t < N.turns → Walked K N t (turn_entry K N less tab t)
      walked_step t h k b e = cand_walk h (least_cand K N (rw e at (turn_least K N L less D tab t)))

    pub good_step : (i : ℕ) → ((t : ℕ) → t < N.turns → AsGood K N i t (tab t)) → (t : ℕ) → t < N.turns
        → AsGood K N (suc i) t (turn_entry K N less tab t)
    good_step i good t h q k b w g =
        let (k₁, b₁, c, n) = match_cand w (λ p q k b w s. good p (below K N w) q k b w (omega arith)) in
        go k₁ b₁ c n (turn_least K N L less D tab t)
      where
        go : (k₁ : K) (b₁ : Back) → Cand K N tab t k₁ b₁ → ¬ N.lt k k₁ → {e : Entry K} → Least K N (Cand K N tab t) e → Matches K N e k
        go k₁ b₁ c n (least {k = k₂} c₂ m) = (k₂, _, refl, not_less_trans K N L k₂ k₁ k (λ x. m k₁ b₁ c (inl x)) n)
        go k₁ b₁ c n (nothing m) = absurd (m k₁ b₁ c)

    -- where the keys are as good as any walk's, a sweep leaves them, and gives the true table
    module _ (real : (t : ℕ) → t < N.turns → Walked K N t (tab t)) (good : (t : ℕ) → t < N.turns → AsGood K N N.turns t (tab t)) where
      any_good : (t : ℕ) (q : List ℕ) (k : K) (b : Back) → Walk K N t q k b → Matches K N (tab t) k
      any_good t q k b w =
          let (q₁, k₁, b₁, w₁, s, d) = cut K N L w in
          let (k₂, b₂, e, n) = good t (below K N w) q₁ k₁ b₁ w₁ s in
          (k₂, b₂, e, not_less_trans K N L k₂ k₁ k n (on k₁ q₁ d))
        where
          on : (k₁ : K) (q₁ : List ℕ) → ((k₁ ≡ k) × (q₁ ≡ q)) ⊎ N.lt k₁ k → ¬ N.lt k k₁
          on k₁ q₁ (inl (e, j)) = rw e (L.irrefl k)
          on k₁ q₁ (inr y) = asym K N L k₁ k y

      any_cand : {t : ℕ} {q : List ℕ} {k : K} {b : Back} → Walk K N t q k b → (k' : K) × (b' : Back) × Cand K N tab t k' b' × (¬ N.lt k k')
      any_cand w = match_cand w (λ p q k b w s. any_good p q k b w)

      keys_stay : (t : ℕ) → t < N.turns → key_of (turn_entry K N less tab t) ≡ key_of (tab t)
      keys_stay t h = go (turn_least K N L less D tab t)
        where
          go : {e : Entry K} → Least K N (Cand K N tab t) e → key_of e ≡ key_of (tab t)
          go (least {k} {b} c m) =
              let (q, b', w) = cand_walk real h c in
              let (k', b'', e, n) = any_good t q k b' w in
              let (q₁, b₁, w₁) = real t h k' b'' e in
              let (k₂, b₂, c₂, n₂) = any_cand w₁ in
              ap some (not_less_both K N L k k' n (not_less_trans K N L k k₂ k' (λ x. m k₂ b₂ c₂ (inl x)) n₂)) ∙ sym (ap key_of e)
          go (nothing m) = on (tab t) refl
            where
              on : (e : Entry K) → tab t ≡ e → none ≡ key_of (tab t)
              on unreached e = sym (ap key_of e)
              on (reached k b) e = let (q, b', w) = real t h k b e in let (k₂, b₂, c₂, n₂) = any_cand w in absurd (m k₂ b₂ c₂)

      pub last_sweep : TrueTurns K N (turn_entry K N less tab)
      last_sweep =
          (turns_true K N L less D (turn_entry K N less tab)).0
          (λ t h. keys_agree tab (turn_entry K N less tab) (λ p g. sym (keys_stay p g)) t)

  -- ---- so there is a true table

  unfoldable pub rounds : ℕ → Table K
  rounds zero t = unreached
  rounds (suc i) t = turn_entry K N less (rounds i) t

  rounds_walked : (i t : ℕ) → t < N.turns → Walked K N t (rounds i t)
  unfolding rounds
  rounds_walked zero t h = λ k b e. clash (cc)
  rounds_walked (suc i) t h = walked_step (rounds i) (rounds_walked i) t h

  rounds_good : (i t : ℕ) → t < N.turns → AsGood K N i t (rounds i t)
  unfolding rounds
  rounds_good zero t h = λ q k b w g. absurd (omega (arith, two_or_more K N L w))
  rounds_good (suc i) t h = good_step (rounds i) i (rounds_good i) t h

  -- every net has a true table, and it is computed
  pub exists : TrueTurns K N (rounds (suc N.turns))
  unfolding rounds
  exists = last_sweep (rounds N.turns) (rounds_walked N.turns) (rounds_good N.turns)
