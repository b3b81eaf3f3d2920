-- Of candidates whose starts are the shortest, the least by the net's order is the one that none goes ahead of by the three numbers.
use Prim.Native.Nat.{ℕ, ◌<◌}
use mathlib.Core.Path.{◌≡◌, refl, sym, ap, ◌∙◌, subst}
use mathlib.Core.Logic.{◌⊎◌, inl, inr}
use mathlib.Core.Bool.{Bool, true, false}
use mathlib.Core.Option.{some}
use native.Mathlib.Omega.{arith}
use Rattle.walk.specs.View.{View}
use Rattle.walk.specs.Labels.{Key, Entry, start_back, no_entry}
use Rattle.walk.specs.steps.Net.{Back, start, via, rank, Entry as Reached, reached, Candidates, Ahead, Least, least, nothing}
use Rattle.walk.specs.steps.Sweep.{when, based}
use Rattle.walk.specs.steps.ViewNet.{net, back_number, figures, reading}
use Rattle.walk.proofs.theory.Laws.{clash, refuted}
use Rattle.walk.proofs.LabelLaws.{figures_reading, reading_figures, reading_none}
use Rattle.search.specs.steps.Tables.{goes_ahead}
use Rattle.search.proofs.LabelOrder.{Sooner, never_sooner, test_fails, test_holds}
use Rattle.search.proofs.Underway.{ahead_of_none}

-- a start has so few links, what comes through a turn has more
abbrev pub Ranked : ℕ → Key → Back → Type 0
Ranked short k start = k.links ≡ short
Ranked short k (via p) = (short < k.links) × (p < start_back)

-- candidates that the three numbers hold, and whose starts are the shortest
pub record Regular (short : ℕ) (C : Candidates Key) : Type 0 where
  pub linked : 0 < short
  pub ranked : (k : Key) (b : Back) → C k b → Ranked short k b
  pub small : (k : Key) (b : Back) → C k b → k.cost < no_entry.cost

module _ (C : Candidates Key) where
  -- no candidate goes ahead of the entry
  abbrev pub NoneAhead : Entry → Type 0
  NoneAhead e = (k : Key) (b : Back) → C k b → goes_ahead (figures (reached k b)) e ≡ false

  -- the entry is none, or one of the candidates
  abbrev pub Supported : Entry → Type 0
  Supported e = (e ≡ no_entry) ⊎ ((k : Key) × (b : Back) × C k b × (e ≡ figures (reached k b)))

not_ahead : (one other : Entry) → (Sooner one other → ⊥) → goes_ahead one other ≡ false
not_ahead one other never = refuted (goes_ahead one other) (λ e. never (test_holds one other e))

module _ (U : View) (r : ℕ) (short : ℕ) (k k' : Key) where
  -- of two candidates the one is ahead in the net exactly where it comes sooner by the numbers
  ahead_sooner : (b b' : Back) → Ranked short k b → Ranked short k' b' → Ahead Key (net U r) k b k' b' → Sooner (figures (reached k b)) (figures (reached k' b'))
  ahead_sooner b b' x y (inl less) = inl less
  ahead_sooner b b' x y (inr (same, before)) = by b b' x y (ap (λ (key : Key). key.links) same) before
    where
      by : (b b' : Back) → Ranked short k b → Ranked short k' b' → k.links ≡ k'.links → rank b < rank b' → Sooner (figures (reached k b)) (figures (reached k' b'))
      by start start x y e h = absurd (omega arith)
      by start (via p') x y e h = absurd (omega (arith, y.0))
      by (via p) start x y e h = absurd (omega arith)
      by (via p) (via p') x y e h = inr (same, omega arith)

  sooner_ahead : (b b' : Back) → Ranked short k b → Ranked short k' b' → Sooner (figures (reached k b)) (figures (reached k' b')) → Ahead Key (net U r) k b k' b'
  sooner_ahead b b' x y (inl less) = inl less
  sooner_ahead b b' x y (inr (same, before)) = by b b' x y (ap (λ (key : Key). key.links) same) before
    where
      by : (b b' : Back) → Ranked short k b → Ranked short k' b' → k.links ≡ k'.links → back_number b < back_number b' → Ahead Key (net U r) k b k' b'
      by start start x y e h = absurd (omega arith)
      by start (via p') x y e h = absurd (omega (arith, y.1))
      by (via p) start x y e h = absurd (omega (arith, x.0))
      by (via p) (via p') x y e h = inr (same, omega arith)

module _ (U : View) (r : ℕ) (short : ℕ) (C : Candidates Key) (regular : Regular short C) where
  -- a candidate's three numbers are read as it
  read_back : (k : Key) (b : Back) → Ranked short k b → reading (figures (reached k b)) ≡ reached k b
  read_back k start x = reading_figures k start (omega (arith, regular.linked)) (λ p e. clash (cc))
  read_back k (via p) x = reading_figures k (via p) (omega (arith, x.0)) (λ q e. let same : p ≡ q = cc in omega (arith, x.1))

  pub tests_least : (e : Entry) → NoneAhead C e → Supported C e → Least Key (net U r) C (reading e)
  tests_least e never (inl blank) = rw (blank, reading_none) (nothing (λ k b c. clash (cc (never k b c, ap (goes_ahead (figures (reached k b))) blank, ahead_of_none (figures (reached k b)) (regular.small k b c)))))
  tests_least e never (inr (k, b, c, same)) =
      subst (Least Key (net U r) C) (sym (ap reading same ∙ read_back k b (regular.ranked k b c))) (least c (λ k' b' c' ahead.
      test_fails (figures (reached k' b')) (figures (reached k b)) (sym (ap (goes_ahead (figures (reached k' b'))) same) ∙ never k' b' c') (ahead_sooner U r short k' k b' b (regular.ranked k' b' c') (regular.ranked k b c) ahead)))

  pub least_tests : (e : Entry) → Least Key (net U r) C (reading e) → NoneAhead C e × Supported C e
  least_tests e h = by (reading e) (figures_reading e) h
    where
      by : (found : Reached Key) → figures found ≡ e → Least Key (net U r) C found → NoneAhead C e × Supported C e
      by _ same (nothing n) = (λ k b c. absurd (n k b c), inl (sym same))
      by _ same (least {k} {b} c m) = (
        λ k' b' c'. ap (goes_ahead (figures (reached k' b'))) (sym same) ∙ not_ahead _ _ (λ sooner. m k' b' c' (sooner_ahead U r short k' k b' b (regular.ranked k' b' c') (regular.ranked k b c) sooner)),
        inr (k, b, c, sym same),
      )

  -- what is none goes ahead of nothing
  none_behind : (e : Entry) → Supported C e → goes_ahead no_entry e ≡ false
  none_behind e (inl blank) = rw blank (not_ahead no_entry no_entry (never_sooner no_entry))
  none_behind e (inr (k, b, c, same)) = rw same (not_ahead no_entry (figures (reached k b)) (λ sooner. late sooner))
    where
      late : Sooner no_entry (figures (reached k b)) → ⊥
      late (inl (inl h)) = omega (arith, regular.small k b c)
      late (inl (inr h)) = omega (arith, regular.small k b c)
      late (inr h) = omega (arith, regular.small k b c, ap (λ (key : Key). key.cost) h.0)

  -- the start, where there is one, is a candidate
  module _ (begins : Bool) (begin : Key) (fresh : begins ≡ true → C begin start) (e : Entry) where
    abbrev begun : Entry
    begun = figures (based (when begins (some begin)))

    pub start_behind : NoneAhead C e → Supported C e → goes_ahead begun e ≡ false
    start_behind never support = by begins refl
      where
        by : (test : Bool) → begins ≡ test → goes_ahead (figures (based (when test (some begin)))) e ≡ false
        by true h = never begin start (fresh h)
        by false h = none_behind e support

    pub start_supports : e ≡ begun → Supported C e
    start_supports same = by begins refl same
      where
        by : (test : Bool) → begins ≡ test → e ≡ figures (based (when test (some begin))) → Supported C e
        by true h same = inr (begin, start, fresh h, same)
        by false h same = inl same
