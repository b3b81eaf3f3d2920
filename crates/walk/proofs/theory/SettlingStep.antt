-- Label setting: settling the reached turn with the least key, and offering its followers one step more, keeps the invariant.
use mathlib.Core.Path.{◌≡◌, refl, sym, ap, ◌∙◌, subst}
use mathlib.Core.Logic.{◌⊎◌, inl, inr, ◌↔◌}
use mathlib.Core.Bool.{Bool, true, false}
use mathlib.Core.Option.{some}
use Prim.Native.Nat.{ℕ, ◌<◌}
use lib.Dec.{T}
use Rattle.walk.specs.steps.Net.{Net, Back, via, Entry, unreached, reached, Table, Ahead, Least}
use Rattle.walk.specs.steps.Sweep.{when, kept, offer}
use Rattle.walk.specs.steps.Settling.{settle_to}
use Rattle.walk.proofs.theory.Laws.{Laws}
use Rattle.walk.proofs.theory.Least.{least_same}
use Rattle.walk.proofs.theory.Offer.{offer_least}
use Rattle.walk.proofs.theory.Settling.{SettledCand, unaided, settled, Settling}

-- the test of the entries' order
pub record TestedAhead (K : Type 0) (N : Net K) (ahead : K → Back → K → Back → Bool) : Type 0 where
  pub ahead_yes : (k : K) (b : Back) (k' : K) (b' : Back) → ahead k b k' b' ≡ true → Ahead K N k b k' b'
  pub ahead_no : (k : K) (b : Back) (k' : K) (b' : Back) → ahead k b k' b' ≡ false → ¬ Ahead K N k b k' b'

module _ (K : Type 0) (N : Net K) (L : Laws K N) (ahead : K → Back → K → Back → Bool) (D : TestedAhead K N ahead) where
  -- u is the next turn to be settled
  module _ (S : ℕ → Bool) (tab : Table K) (I : Settling K N S tab) (u : ℕ) (ku : K) (bu : Back) (hu : u < N.turns) (fu : ¬ T (S u))
      (eu : tab u ≡ reached ku bu) (next : (v : ℕ) (k : K) (b : Back) → v < N.turns → ¬ T (S v) → tab v ≡ reached k b → ¬ N.lt k ku) where
    -- the key of a settled turn, or of u, is at most u's
    settled_key : (s : ℕ) → s < N.turns → T (S s) ⊎ (s ≡ u) → (k : K) × (b : Back) × (tab s ≡ reached k b) × (¬ N.lt ku k)
    settled_key s h (inl g) = let (k, b, e) = I.arrived s h g in (k, b, e, I.ordered s u h hu g fu e eu)
    settled_key s h (inr g) = (ku, bu, ap tab g ∙ eu, L.irrefl ku)

    beyond : (s t : ℕ) (k : K) → ¬ N.lt ku k → ¬ N.lt (N.extend s t ku) k
    beyond s t k n x = n (L.trans ku (N.extend s t ku) k (L.grows s t ku) x)

    -- so it is offered nothing better: a search may leave settled turns out
    pub frozen : (s : ℕ) → s < N.turns → T (S s) ⊎ (s ≡ u) → settle_to K ahead N tab u ku s ≡ tab s
    frozen s h f = let (k, b, e, n) = settled_key s h f in go (N.follows u s) k b e n
      where
        behind : (k : K) (b : Back) → ¬ N.lt ku k → ¬ Ahead K N (N.extend u s ku) (via u) k b
        behind k b n (inl x) = beyond u s k n x
        behind k b n (inr (x, y)) = n (rw x at (L.grows u s ku))

        on : (x : Bool) (k : K) (b : Back) → ahead (N.extend u s ku) (via u) k b ≡ x → ¬ N.lt ku k
            → kept K ahead x (N.extend u s ku) (via u) (reached k b) ≡ reached k b
        on false k b i n = refl
        on true k b i n = absurd (behind k b n (D.ahead_yes (N.extend u s ku) (via u) k b i))

        go : (x : Bool) (k : K) (b : Back) → tab s ≡ reached k b → ¬ N.lt ku k
            → offer K ahead (tab s) (when x (some (N.extend u s ku))) (via u) ≡ tab s
        go false k b e n = refl
        go true k b e n = rw e (on (ahead (N.extend u s ku) (via u) k b) k b refl n)

    module _ (S' : ℕ → Bool) (tab' : Table K) (only : (t : ℕ) → T (S' t) ↔ (T (S t) ⊎ (t ≡ u)))
        (is : (t : ℕ) → t < N.turns → tab' t ≡ settle_to K ahead N tab u ku t) where
      stays : (s : ℕ) → s < N.turns → T (S s) ⊎ (s ≡ u) → tab' s ≡ tab s
      stays s h f = is s h ∙ frozen s h f

      old : {t : ℕ} {k : K} {b : Back} → SettledCand K N S tab t k b → SettledCand K N S' tab' t k b
      old (unaided s) = unaided s
      old (settled p h f g i) = settled p h ((only p).1 (inl f)) g (stays p h (inl f) ∙ i)

      -- a candidate now was one before, or comes through u
      abbrev Now : ℕ → K → Back → Type 0
      Now t k b = SettledCand K N S tab t k b ⊎ (T (N.follows u t) × ((k ≡ N.extend u t ku) × (b ≡ via u)))

      new : {t : ℕ} {k : K} {b : Back} → SettledCand K N S' tab' t k b → Now t k b
      new (unaided s) = inl (unaided s)
      new {t} (settled p {k} {b} h f g j) = go ((only p).0 f)
        where
          go : T (S p) ⊎ (p ≡ u) → Now t (N.extend p t k) (via p)
          go (inl i) = inl (settled p h i g (sym (stays p h (inl i)) ∙ j))
          go (inr i) =
              let x = stays p h (inr i) in
              let y : tab p ≡ tab u = ap tab i in
              let z : k ≡ ku = cc in
              inr (subst (λ (v : ℕ). T (N.follows v t)) i g, (cc, ap via i))

      minimal_step : (t : ℕ) → t < N.turns → Least K N (SettledCand K N S' tab' t) (tab' t)
      minimal_step t h = rw (is t h) (go (N.follows u t) refl)
        where
          either : (k : K) (b : Back) → Now t k b → SettledCand K N S tab t k b ⊎ ((k ≡ N.extend u t ku) × (b ≡ via u))
          either k b (inl c) = inl c
          either k b (inr c) = inr c.1

          neither : N.follows u t ≡ false → (k : K) (b : Back) → Now t k b → SettledCand K N S tab t k b
          neither f k b (inl c) = c
          neither f k b (inr c) = absurd (subst T f c.0)

          go : (x : Bool) → N.follows u t ≡ x
              → Least K N (SettledCand K N S' tab' t) (offer K ahead (tab t) (when x (some (N.extend u t ku))) (via u))
          go true f =
              offer_least K N L (λ k b c. old c) (settled u hu ((only u).1 (inr refl)) (subst T (sym f) tt) (stays u hu (inr refl) ∙ eu))
              (λ k b c. either k b (new c)) ahead (D.ahead_yes (N.extend u t ku) (via u))
              (λ k b c. D.ahead_no (N.extend u t ku) (via u) k b) (I.minimal t h)
          go false f = least_same K N (λ k b. (old, λ c. neither f k b (new c))) (I.minimal t h)

      -- a turn's key now is the one from before, or one beyond u's
      abbrev KeyNow : ℕ → K → Type 0
      KeyNow v k = ((b : Back) × (tab v ≡ reached k b)) ⊎ (k ≡ N.extend u v ku)

      key_now : (v : ℕ) (k : K) (b : Back) → v < N.turns → tab' v ≡ reached k b → KeyNow v k
      key_now v k b h e = go (N.follows u v) (tab v) refl (sym (is v h) ∙ e)
        where
          on : (x : Bool) (k₀ : K) (b₀ : Back) → tab v ≡ reached k₀ b₀
              → kept K ahead x (N.extend u v ku) (via u) (reached k₀ b₀) ≡ reached k b → KeyNow v k
          on true k₀ b₀ i j = inr (cc)
          on false k₀ b₀ i j = inl (b, i ∙ j)

          go : (x : Bool) (e₀ : Entry K) → tab v ≡ e₀ → offer K ahead (tab v) (when x (some (N.extend u v ku))) (via u) ≡ reached k b
              → KeyNow v k
          go false e₀ i j = inl (b, j)
          go true unreached i j = inr (cc (rw i at j))
          go true (reached k₀ b₀) i j = on (ahead (N.extend u v ku) (via u) k₀ b₀) k₀ b₀ i (rw i at j)

      at_most : (s : ℕ) (k : K) (b : Back) → s < N.turns → T (S s) ⊎ (s ≡ u) → tab' s ≡ reached k b → ¬ N.lt ku k
      at_most s k b h f e =
          let (k₀, b₀, e₀, n) = settled_key s h f in
          let x = stays s h f in
          let y : k₀ ≡ k = cc in
          subst (λ (z : K). ¬ N.lt ku z) y n

      ordered_step : (s v : ℕ) (k : K) (b : Back) (k' : K) → s < N.turns → v < N.turns → T (S s) ⊎ (s ≡ u) → ¬ T (S v)
          → tab' s ≡ reached k b → KeyNow v k' → ¬ N.lt k' k
      ordered_step s v k b k' h h' f f' e (inr i) x = beyond u v k (at_most s k b h f e) (rw i at x)
      ordered_step s v k b k' h h' (inl g) f' e (inl (b', i)) x = I.ordered s v h h' g f' (sym (stays s h (inl g)) ∙ e) i x
      ordered_step s v k b k' h h' (inr g) f' e (inl (b', i)) x =
          let y = stays s h (inr g) in
          let z : tab s ≡ tab u = ap tab g in
          let w : k ≡ ku = cc in
          next v k' b' h' f' i (rw w at x)

      pub settle_step : Settling K N S' tab'
      settle_step = record {
        minimal = minimal_step;
        arrived = λ s h f. let (k, b, e, n) = settled_key s h ((only s).0 f) in (k, b, stays s h ((only s).0 f) ∙ e);
        ordered = λ s v {k} {b} {k'} {b'} h h' f f' e e'.
            ordered_step s v k b k' h h' ((only s).0 f) (λ g. f' ((only v).1 (inl g))) e (key_now v k' b' h' e');
      }
