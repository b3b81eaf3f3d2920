-- The turn held leads every candidate passed; one turn more keeps that so, and when all are passed it is the one to settle.
use Rattle.std.specs.Prelude.{Some, None, Option}
use Prim.Native.Nat.{ℕ, ◌+◌, ◌≤◌, ◌<◌}
use mathlib.Core.Path.{◌≡◌, refl, sym, subst}
use mathlib.Core.Logic.{◌⊎◌, inl, inr}
use mathlib.Core.List.{List}
use mathlib.Core.Bool.{Bool, true, false, cond}
use native.Mathlib.Omega.{arith}
use lib.ListN.{length}
use Rattle.book.specs.declared.TurnNumber.{TurnNumber}
use Rattle.walk.specs.Labels.{Key, Less}
use Rattle.walk.specs.steps.Rows.{key_less}
use Rattle.walk.proofs.theory.Laws.{Compared, clash, refuted, one_more}
use Rattle.walk.proofs.KeyLaws.{less_irrefl, less_trans, less_tri, shown_less, less_shown}
use Rattle.search.specs.steps.Picking.{is_candidate, key_at, Picks}
use Rattle.search.specs.steps.LeastSoFar.{with_candidate, with_turn, HeldBelow}

not_less_shown : (a b : Key) → (Less a b → ⊥) → key_less a b ≡ false
not_less_shown a b never = refuted (key_less a b) (λ e. never (shown_less a b e))

module _ (cost links : List ℕ) (settled : List Bool) where
  abbrev key : ℕ → Key
  key turn = key_at cost links turn

  -- a candidate takes the place of a turn that it is less than; of two alike, where neither is, the one held stays
  module _ (turn least : TurnNumber) where
    alike_stays : key turn.0 ≡ key least.0 → with_candidate cost links turn (Some least) ≡ Some least
    alike_stays same = simp (not_less_shown _ _ (λ l. less_irrefl _ (subst (λ (k : Key). Less k (key least.0)) same l)), not_less_shown _ _ (λ l. less_irrefl _ (subst (λ (k : Key). Less (key least.0) k) same l)))

    less_taken : Less (key turn.0) (key least.0) → with_candidate cost links turn (Some least) ≡ Some turn
    less_taken l = simp (less_shown _ _ l)

    lesser_stays : Less (key least.0) (key turn.0) → with_candidate cost links turn (Some least) ≡ Some least
    lesser_stays l = simp (not_less_shown _ _ (λ g. less_irrefl _ (less_trans _ _ _ l g)))

  -- a turn is less than another, or as little and not after it
  abbrev Leads : ℕ → ℕ → Type 0
  Leads turn v = Less (key turn) (key v) ⊎ ((key turn ≡ key v) × (turn ≤ v))

  pub record Foremost (bound turn : ℕ) : Type 0 where
    pub below : turn < bound
    pub candidate : is_candidate cost settled turn ≡ true
    pub leads : (v : ℕ) → v < bound → is_candidate cost settled v ≡ true → Leads turn v

  -- of the turns below a bound the foremost candidate is held, or there is none
  abbrev pub Holding : ℕ → Option TurnNumber → Type 0
  Holding bound (Some turn) = Foremost bound turn.0
  Holding bound None = (v : ℕ) → v < bound → is_candidate cost settled v ≡ false

  pub held_below : (bound : ℕ) (held : Option TurnNumber) → bound ≤ length cost → Holding bound held → HeldBelow (length cost) held
  held_below bound held h holding turn e =
      let below = (subst (Holding bound) e holding).below in
      omega arith

  less_leads : (one other v : ℕ) → Less (key one) (key other) → Leads other v → Less (key one) (key v)
  less_leads one other v h (inl l) = less_trans (key one) (key other) (key v) h l
  less_leads one other v h (inr l) = subst (λ (k : Key). Less (key one) k) l.0 h

  module _ (turn : TurnNumber) where
    abbrev bound : ℕ
    bound = turn.0

    abbrev LedBy : ℕ → ℕ → Type 0
    LedBy least v = is_candidate cost settled v ≡ true → Leads least v

    passed_by : (held : Option TurnNumber) → Holding bound held → is_candidate cost settled bound ≡ false → Holding (bound + 1) held
    passed_by (Some least) holding e =
        record {
          below = (let b = holding.below in omega arith);
          candidate = holding.candidate;
          leads = one_more bound (LedBy least.0) holding.leads (λ c. clash (cc));
        }
    passed_by None holding e = one_more bound (λ v. is_candidate cost settled v ≡ false) holding e

    taken_up : (held : Option TurnNumber) → Holding bound held → is_candidate cost settled bound ≡ true → Holding (bound + 1) (with_candidate cost links turn held)
    taken_up None holding e =
        record {
          below = omega arith;
          candidate = e;
          leads = one_more bound (LedBy bound) (λ v h c. clash (cc (holding v h))) (λ c. inr (refl, omega arith));
        }
    taken_up (Some least) holding e = by (less_tri (key bound) (key least.0))
      where
        stays : Leads least.0 bound → Foremost (bound + 1) least.0
        stays leads =
            record {
              below = (let b = holding.below in omega arith);
              candidate = holding.candidate;
              leads = one_more bound (LedBy least.0) holding.leads (λ c. leads);
            }

        by : Compared Less (key bound) (key least.0) → Holding (bound + 1) (with_candidate cost links turn (Some least))
        by (inl l) =
            subst (Holding (bound + 1)) (sym (less_taken turn least l))
            (record {
              below = omega arith;
              candidate = e;
              leads = one_more bound (LedBy bound) (λ v h c. inl (less_leads bound least.0 v l (holding.leads v h c))) (λ c. inr (refl, omega arith));
            })
        by (inr (inl same)) = subst (Holding (bound + 1)) (sym (alike_stays turn least same)) (stays (inr (sym same, (let b = holding.below in omega arith))))
        by (inr (inr l)) = subst (Holding (bound + 1)) (sym (lesser_stays turn least l)) (stays (inl l))

    pub with_turn_lem : (held : Option TurnNumber) → Holding bound held → Holding (bound + 1) (with_turn cost links settled turn held)
    with_turn_lem held holding = by (is_candidate cost settled bound) refl
      where
        by : (test : Bool) → is_candidate cost settled bound ≡ test → Holding (bound + 1) (cond test (with_candidate cost links turn held) held)
        by true e = taken_up held holding e
        by false e = passed_by held holding e

  pub all_passed : (held : Option TurnNumber) → Holding (length cost) held → Picks cost links settled held
  all_passed None holding = holding
  all_passed (Some turn) holding =
      record {
        within = holding.below;
        candidate = holding.candidate;
        least = λ v h c l. less_irrefl (key v) (less_leads v turn.0 v l (holding.leads v h c));
        first = λ v h c. ahead v h (holding.leads v (let b = holding.below in omega arith) c);
      }
    where
      ahead : (v : ℕ) → v < turn.0 → Leads turn.0 v → Less (key turn.0) (key v)
      ahead v h (inl l) = l
      ahead v h (inr l) = absurd (omega (arith, l.1))
