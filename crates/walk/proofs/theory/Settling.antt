-- The invariant of label setting: it holds where nothing is settled, and gives the true table where every reached turn is.
use mathlib.Core.Path.{◌≡◌, refl, sym, subst}
use mathlib.Core.Bool.{Bool, true, false}
use mathlib.Core.Option.{some}
use Prim.Native.Nat.{ℕ, ◌<◌}
use lib.Dec.{T}
use Rattle.walk.specs.steps.Net.{Net, Back, start, via, reached, Table, TrueTurns, Cand, fresh, through, Least, least, nothing}
use Rattle.walk.specs.steps.Sweep.{when, based}
use Rattle.walk.proofs.theory.Laws.{Laws}
use Rattle.walk.proofs.theory.Order.{not_ahead_self}
use Rattle.walk.proofs.theory.Least.{least_same}
use Rattle.walk.proofs.theory.Certificate.{certificate}

module _ (K : Type 0) (N : Net K) where
  -- what t's entry may be, by the settled turns before it
  pub data SettledCand (S : ℕ → Bool) (tab : Table K) (t : ℕ) : K → Back → Type 0 where
    unaided : T (N.begins t) → SettledCand S tab t (N.begin t) start
    settled : (p : ℕ) {k : K} {b : Back} → p < N.turns → T (S p) → T (N.follows p t) → tab p ≡ reached k b
        → SettledCand S tab t (N.extend p t k) (via p)

  -- the invariant of label setting, where the turns S are settled
  pub record Settling (S : ℕ → Bool) (tab : Table K) : Type 0 where
    pub minimal : (t : ℕ) → t < N.turns → Least K N (SettledCand S tab t) (tab t)
    pub arrived : (s : ℕ) → s < N.turns → T (S s) → (k : K) × (b : Back) × (tab s ≡ reached k b)
    pub ordered : (s u : ℕ) {k : K} {b : Back} {k' : K} {b' : Back} → s < N.turns → u < N.turns → T (S s) → ¬ T (S u)
        → tab s ≡ reached k b → tab u ≡ reached k' b' → ¬ N.lt k' k

module _ (K : Type 0) (N : Net K) (L : Laws K N) where
  -- at the start nothing is settled
  pub settle_start : (tab : Table K) → ((t : ℕ) → t < N.turns → tab t ≡ based (when (N.begins t) (some (N.begin t))))
      → Settling K N (λ t. false) tab
  settle_start tab e = record {
    minimal = λ t h. rw (e t h) (go t (N.begins t) refl);
    arrived = λ s h f. absurd f;
    ordered = λ s u h g f. absurd f;
  }
    where
      only : {t : ℕ} {k : K} {b : Back} → SettledCand K N (λ t. false) tab t k b → T (N.begins t) × (k ≡ N.begin t) × (b ≡ start)
      only (unaided s) = (s, refl, refl)
      only (settled p h f g i) = absurd f

      go : (t : ℕ) (x : Bool) → N.begins t ≡ x → Least K N (SettledCand K N (λ t. false) tab t) (based (when x (some (N.begin t))))
      go t true i = least (unaided (subst T (sym i) tt)) (λ k b c. let (s, j, m) = only c in not_ahead_self K N L j m)
      go t false i = nothing (λ k b c. subst T i (only c).0)

  -- at the end every reached turn is settled
  pub settle_end : (S : ℕ → Bool) (tab : Table K) → Settling K N S tab
      → ((t : ℕ) (k : K) (b : Back) → t < N.turns → tab t ≡ reached k b → T (S t))
      → TrueTurns K N tab
  settle_end S tab I all = (certificate K N L tab).0 (λ t h. least_same K N (λ k b. (to, from)) (I.minimal t h))
    where
      to : {t : ℕ} {k : K} {b : Back} → SettledCand K N S tab t k b → Cand K N tab t k b
      to (unaided s) = fresh s
      to (settled p h f g i) = through p h g i

      from : {t : ℕ} {k : K} {b : Back} → Cand K N tab t k b → SettledCand K N S tab t k b
      from (fresh s) = unaided s
      from (through p {k} {b} h g i) = settled p h (all p k b h i) g i
