-- An entry that takes what is ahead of it is the least of one candidate more.
use mathlib.Core.Path.{◌≡◌, refl}
use mathlib.Core.Logic.{◌⊎◌, inl, inr}
use mathlib.Core.Bool.{Bool, true, false}
use mathlib.Core.Option.{some}
use Rattle.walk.specs.steps.Net.{Net, Back, Entry, unreached, reached, Candidates, Ahead, Least, least, nothing}
use Rattle.walk.specs.steps.Sweep.{kept, offer}
use Rattle.walk.proofs.theory.Laws.{Laws}
use Rattle.walk.proofs.theory.Order.{not_ahead_self, ahead_trans}

-- the candidates C' are those of C and one more
module _ (K : Type 0) (N : Net K) (L : Laws K N) {C C' : Candidates K} {kn : K} {bn : Back} (old : (k : K) (b : Back) → C k b → C' k b)
    (new : C' kn bn) (only : (k : K) (b : Back) → C' k b → C k b ⊎ ((k ≡ kn) × (b ≡ bn))) where
  least_first : Least K N C unreached → Least K N C' (reached kn bn)
  least_first (nothing n) = least new (λ k b c. go k b (only k b c))
    where
      go : (k : K) (b : Back) → C k b ⊎ ((k ≡ kn) × (b ≡ bn)) → ¬ Ahead K N k b kn bn
      go k b (inl c) = absurd (n k b c)
      go k b (inr (e, i)) = not_ahead_self K N L e i

  least_new : {k : K} {b : Back} → Least K N C (reached k b) → Ahead K N kn bn k b → Least K N C' (reached kn bn)
  least_new {k} {b} (least c m) h = least new (λ k' b' c'. go k' b' (only k' b' c'))
    where
      go : (k' : K) (b' : Back) → C k' b' ⊎ ((k' ≡ kn) × (b' ≡ bn)) → ¬ Ahead K N k' b' kn bn
      go k' b' (inl c') a = m k' b' c' (ahead_trans K N L k' kn k b' bn b a h)
      go k' b' (inr (e, i)) a = not_ahead_self K N L e i a

  least_old : {k : K} {b : Back} → Least K N C (reached k b) → ¬ Ahead K N kn bn k b → Least K N C' (reached k b)
  least_old {k} {b} (least c m) h = least (old k b c) (λ k' b' c'. go k' b' (only k' b' c'))
    where
      go : (k' : K) (b' : Back) → C k' b' ⊎ ((k' ≡ kn) × (b' ≡ bn)) → ¬ Ahead K N k' b' k b
      go k' b' (inl c') = m k' b' c'
      go k' b' (inr (e, i)) = rw (e, i) h

  -- the test has to be right only for the candidates so far
  pub offer_least : (ahead : K → Back → K → Back → Bool) → ((k : K) (b : Back) → ahead kn bn k b ≡ true → Ahead K N kn bn k b)
      → ((k : K) (b : Back) → C k b → ahead kn bn k b ≡ false → ¬ Ahead K N kn bn k b)
      → {e : Entry K} → Least K N C e → Least K N C' (offer K ahead e (some kn) bn)
  offer_least ahead yes-ahead not_ahead (nothing n) = least_first (nothing n)
  offer_least ahead yes-ahead not_ahead (least {k} {b} c m) = go (ahead kn bn k b) refl
    where
      go : (x : Bool) → ahead kn bn k b ≡ x → Least K N C' (kept K ahead x kn bn (reached k b))
      go true e = least_new (least c m) (yes-ahead k b e)
      go false e = least_old (least c m) (not_ahead k b c e)
