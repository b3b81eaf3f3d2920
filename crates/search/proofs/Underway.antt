-- Label setting on the three lists: settling the least candidate and passing its label on is a step of the theory, so the end is true.
use Prim.Native.Nat.{ℕ, suc, ◌+◌, ◌*◌, ◌≤◌, ◌<◌}
use mathlib.Core.Path.{◌≡◌, refl, sym, ap, ◌∙◌, subst}
use mathlib.Core.Logic.{◌⊎◌, inl, inr}
use mathlib.Core.List.{List}
use mathlib.Core.Bool.{Bool, true, false, not, ◌&&◌}
use mathlib.Core.Option.{some}
use native.Mathlib.Omega.{arith}
use lib.Dec.{T, ltb, eqb}
use lib.ListN.{length, get_or, set, replicate, length-set, length-replicate}
use borrow.Author.Tests.{lt-ltb, ltb-true, ne_eqb, eqb-false, not-true}
use Rattle.book.proofs.Limits.{both}
use Rattle.walk.specs.View.{View}
use Rattle.walk.specs.Walks.{between, allowed, seconds}
use Rattle.walk.specs.steps.Costs.{turn_cost}
use Rattle.walk.specs.Labels.{Key, Less, Entry, Table, entry_at, start_back, no_entry, TrueTurn, TrueTable}
use Rattle.walk.specs.steps.Net.{Back, start, via, rank, Entry as Reached, reached}
use Rattle.walk.specs.steps.Sweep.{when, based, kept, offer}
use Rattle.walk.specs.steps.Settling.{settle_to}
use Rattle.walk.specs.steps.ViewNet.{net, key, is_open, may_follow, figures, unless_none, backed, is_none, reading}
use Rattle.walk.proofs.theory.Laws.{clash}
use Rattle.walk.proofs.theory.Settling.{Settling, settle_start, settle_end}
use Rattle.walk.proofs.theory.SettlingStep.{TestedAhead, settle_step}
use Rattle.walk.proofs.GoodView.{GoodView}
use Rattle.walk.proofs.KeyLaws.{laws}
use Rattle.walk.proofs.Growth.{and_true, same_test}
use Rattle.walk.proofs.NetWalks.{holds, shown}
use Rattle.walk.proofs.ChosenLaws.{Limited}
use Rattle.walk.proofs.LabelLaws.{reading_figures, reading_none, turn_outside}
use Rattle.search.specs.steps.Tables.{goes_ahead, table_up_to, Sized}
use Rattle.search.specs.steps.Starts.{start_entry}
use Rattle.search.specs.steps.Picking.{is_settled, is_candidate, LeastOf}
use Rattle.search.specs.steps.Passing.{StepFits, better, offered_if, onward_to, passed_to}
use Rattle.search.specs.steps.Marks.{settled_count}
use Rattle.search.proofs.LabelOrder.{test_holds, test_fails}
use Rattle.search.proofs.TableLaws.{up_to_sized, up_to_entry}
use Rattle.search.proofs.MarkLaws.{count_within, count_more, count_none, none_settled, settled_more, settled_kept}

-- ---- the test of two reached entries, as the theory wants it

-- a start's rank is 0, and a turn's is one more than its number
abbrev ranked : Key → Back → Entry
ranked k b = record { cost = k.cost; links = k.links; back = rank b }

abbrev ahead : Key → Back → Key → Back → Bool
ahead k b k' b' = goes_ahead (ranked k b) (ranked k' b')

tested_ahead : (U : View) (r : ℕ) → TestedAhead Key (net U r) ahead
tested_ahead U r =
    record {
      ahead_yes = λ k b k' b'. test_holds (ranked k b) (ranked k' b');
      ahead_no = λ k b k' b'. test_fails (ranked k b) (ranked k' b');
    }

-- ---- entries as they stand in the lists

-- an entry is none, or has at least two links and figures that settled turns bound
pub data Fine (done : ℕ) (e : Entry) : Type 0 where
  none_yet : e ≡ no_entry → Fine done e
  labelled : 2 ≤ e.links → e.links ≤ done + 2 → e.cost ≤ 82800 + 46800 * done → ((e.back ≡ start_back) × (e.links ≡ 2)) ⊎ (e.back < start_back) → Fine done e

abbrev key_of : Entry → Key
key_of e = key e.cost e.links

unfoldable pub back_of : Entry → Back
back_of e = backed (eqb e.back start_back) e.back

-- a labelled entry is read as reached
pub reading_labelled : (e : Entry) → 2 ≤ e.links → reading e ≡ reached (key_of e) (back_of e)
unfolding reading is_none back_of
reading_labelled e h = rw (ne_eqb e.links 0 (λ z. omega arith)) (by (eqb e.cost no_entry.cost))
  where
    by : (test : Bool) → unless_none (test && (false && eqb e.back no_entry.back)) (reached (key_of e) (backed (eqb e.back start_back) e.back)) ≡ reached (key_of e) (backed (eqb e.back start_back) e.back)
    by true = refl
    by false = refl

back_via : (e : Entry) → e.back < start_back → back_of e ≡ via e.back
unfolding back_of
back_via e h = rw (ne_eqb e.back start_back (λ z. omega arith))

suc_test : (a b : ℕ) → ltb (suc a) (suc b) ≡ ltb a b
suc_test a b = same_test (ltb (suc a) (suc b)) (ltb a b) (λ h. lt-ltb a b (omega (arith, ltb-true (suc a) (suc b) h))) (λ h. lt-ltb (suc a) (suc b) (omega (arith, ltb-true a b h)))

-- a label through turn u goes ahead of a labelled entry by the numbers exactly where it does by the theory
goes_ahead_lem : (new old : Entry) → new.back < start_back → 3 ≤ new.links → 2 ≤ old.links → ((old.back ≡ start_back) × (old.links ≡ 2)) ⊎ (old.back < start_back)
    → goes_ahead new old ≡ ahead (key_of new) (via new.back) (key_of old) (back_of old)
unfolding goes_ahead
goes_ahead_lem new old u l o (inl h) =
    let n = ne_eqb new.links old.links (λ z. omega arith) in
    rw n
goes_ahead_lem new old u l o (inr h) = rw (back_via old h, suc_test new.back old.back)

pub ahead_of_none : (new : Entry) → new.cost < no_entry.cost → goes_ahead new no_entry ≡ true
unfolding goes_ahead
ahead_of_none new h = rw (lt-ltb new.cost no_entry.cost h)

-- the state between two picks
pub record Underway (U : View) (r : ℕ) (table : Table) (marks : List Bool) : Type 0 where
  pub sized : Sized U.turns table
  pub marked : length marks ≡ U.turns
  pub inside : Settling Key (net U r) (is_settled marks) (λ t. reading (entry_at table t))
  pub fine : (t : ℕ) → t < U.turns → Fine (settled_count marks) (entry_at table t)

module _ (U : View) (limited : Limited U) (good : GoodView U) (few : U.turns < start_back) (r : ℕ) where
  -- what a settled turn's label becomes one step on
  abbrev onward : ℕ → ℕ → Entry → Entry
  onward u t e = onward_to U u e.cost e.links t

  pub step_most : (u t : ℕ) → u < U.turns → t < U.turns → may_follow U u t ≡ true → seconds (between U u t) + turn_cost U t ≤ 46800
  step_most u t hu ht f =
      let (j, rest) = both (eqb (U.second u) (U.first t)) (is_open U t && allowed (between U u t)) f in
      let (o, a) = both (is_open U t) (allowed (between U u t)) rest in
      omega (arith, limited.turn t ht o, limited.extra u t hu ht a)

  module _ (u : ℕ) (from : Entry) (done : ℕ) (hu : u < U.turns) (few-done : done < 4096) (two : 2 ≤ from.links) (links-most : from.links ≤ done + 2) (cost_most : from.cost ≤ 82800 + 46800 * done) where
    -- passing the label on is the theory's step, entry by entry
    passed_reading : (t : ℕ) (old : Entry) → t < U.turns → Fine done old
        → reading (passed_to U u from.cost from.links old t) ≡ settle_to Key ahead (net U r) (λ _. reading old) u (key_of from) t
    unfolding passed_to
    passed_reading t old ht fine = by (may_follow U u t) refl
      where
        new : Entry
        new = onward u t from

        new_read : reading new ≡ reached (key_of new) (via u)
        new_read = reading_labelled new (omega arith) ∙ ap (reached (key_of new)) (back_via new (omega arith))

        taken : (test : Bool) → reading (better test new old) ≡ kept Key ahead test (key_of new) (via u) (reading old)
        taken true = new_read
        taken false = refl

        on : may_follow U u t ≡ true → Fine done old → reading (better (goes_ahead new old) new old) ≡ offer Key ahead (reading old) (some (key_of new)) (via u)
        on f (none_yet e) =
            ap (λ (test : Bool). reading (better test new old)) (ap (goes_ahead new) e ∙ ahead_of_none new (omega (arith, step_most u t hu ht f)))
            ∙ new_read
            ∙ sym (ap (λ (x : Reached Key). offer Key ahead x (some (key_of new)) (via u)) (ap reading e ∙ reading_none))
        on f (labelled a b c d) =
            ap (λ (test : Bool). reading (better test new old)) (goes_ahead_lem new old (omega arith) (omega arith) a d)
            ∙ taken (ahead (key_of new) (via u) (key_of old) (back_of old))
            ∙ ap (kept Key ahead (ahead (key_of new) (via u) (key_of old) (back_of old)) (key_of new) (via u)) (reading_labelled old a)
            ∙ sym (ap (λ (x : Reached Key). offer Key ahead x (some (key_of new)) (via u)) (reading_labelled old a))

        by : (test : Bool) → may_follow U u t ≡ test → reading (offered_if test new old) ≡ offer Key ahead (reading old) (when test (some (key_of new))) (via u)
        by true f = on f fine
        by false f = refl

    -- and it keeps the bounds
    passed_fine : (t : ℕ) (old : Entry) → t < U.turns → Fine done old → Fine (suc done) (passed_to U u from.cost from.links old t)
    unfolding passed_to
    passed_fine t old ht fine = by (may_follow U u t) refl
      where
        same : Fine done old → Fine (suc done) old
        same (none_yet e) = none_yet e
        same (labelled a b c d) = labelled a (omega arith) (omega arith) d

        on : may_follow U u t ≡ true → (test : Bool) → Fine (suc done) (better test (onward u t from) old)
        on f true = labelled (omega arith) (omega arith) (omega (arith, step_most u t hu ht f)) (inr (omega arith))
        on f false = same fine

        by : (test : Bool) → may_follow U u t ≡ test → Fine (suc done) (offered_if test (onward u t from) old)
        by true f = on f (goes_ahead (onward u t from) old)
        by false f = same fine

  -- an entry that is read as reached is labelled
  reached_labelled : (done : ℕ) (e : Entry) {k : Key} {b : Back} → Fine done e → reading e ≡ reached k b → (k ≡ key_of e) × (2 ≤ e.links) × (e.links ≤ done + 2) × (e.cost ≤ 82800 + 46800 * done)
  reached_labelled done e (none_yet z) h = clash (cc (ap reading z ∙ reading_none))
  reached_labelled done e (labelled a b c d) h = (cc (reading_labelled e a), a, b, c)

  -- a candidate is an entry that is reached and not settled
  candidate_labelled : (table : Table) (marks : List Bool) (t : ℕ) → Fine (settled_count marks) (entry_at table t) → is_candidate table.cost marks t ≡ true → 2 ≤ (entry_at table t).links
  candidate_labelled table marks t (none_yet z) h =
      let (open_mark, some-cost) = both (not (get_or marks t false)) (not (eqb (get_or table.cost t 0) no_entry.cost)) h in
      absurd (eqb-false _ _ (not-true _ some-cost) (ap (λ (e : Entry). e.cost) z))
  candidate_labelled table marks t (labelled a b c d) h = a

  -- at the start
  start_reading : (t : ℕ) → reading (start_entry U r t) ≡ based (when ((net U r).begins t) (some ((net U r).begin t)))
  unfolding start_entry
  start_reading t = by ((net U r).begins t)
    where
      by : (test : Bool) → reading (figures (based (when test (some ((net U r).begin t))))) ≡ based (when test (some ((net U r).begin t)))
      by true = reading_figures ((net U r).begin t) start (omega arith) (λ p e. clash (cc))
      by false = reading_none

  start_fine : (t : ℕ) → t < U.turns → Fine 0 (start_entry U r t)
  unfolding start_entry
  start_fine t h = by ((net U r).begins t) refl
    where
      by : (test : Bool) → (net U r).begins t ≡ test → Fine 0 (figures (based (when test (some ((net U r).begin t)))))
      by true e =
          let (o, l) = both (is_open U t) (eqb (U.from (U.first t)) r) e in
          labelled (omega arith) (omega arith) (omega (arith, limited.link (U.first t) (good.first t h), limited.turn t h o)) (inl (refl, refl))
      by false e = none_yet refl

  pub begun : Underway U r (table_up_to U.turns (start_entry U r)) (replicate U.turns false)
  begun =
      record {
        sized = up_to_sized U.turns (start_entry U r);
        marked = length-replicate U.turns false;
        inside = subst (λ (S : ℕ → Bool). Settling Key (net U r) S tab) (λ i t. sym (none_settled U.turns t) i) (settle_start Key (net U r) (laws U good r) tab (λ t h. ap reading (up_to_entry U.turns (start_entry U r) t h) ∙ start_reading t));
        fine = λ t h. subst (Fine (settled_count (replicate {A = Bool} U.turns false))) (sym (up_to_entry U.turns (start_entry U r) t h)) (subst (λ (n : ℕ). Fine n (start_entry U r t)) (sym (count_none U.turns)) (start_fine t h));
      }
    where
      tab : ℕ → Reached Key
      tab t = reading (entry_at (table_up_to U.turns (start_entry U r)) t)

  -- one turn settled
  module _ (table : Table) (marks : List Bool) (way : Underway U r table marks) (u : ℕ) (next : LeastOf table.cost table.links marks u) where
    within : u < U.turns
    within = omega (arith, next.within, way.sized.cost)

    open_mark : get_or marks u false ≡ false
    open_mark = not-true _ (both (not (get_or marks u false)) (not (eqb (get_or table.cost u 0) no_entry.cost)) next.candidate).0

    two_links : 2 ≤ (entry_at table u).links
    two_links = candidate_labelled table marks u (way.fine u within) next.candidate

    label : ((entry_at table u).links ≤ settled_count marks + 2) × ((entry_at table u).cost ≤ 82800 + 46800 * settled_count marks)
    label =
        let (_, _, l, c) = reached_labelled (settled_count marks) (entry_at table u) (way.fine u within) (reading_labelled (entry_at table u) two_links) in
        (l, c)

    pub more_done : settled_count (set marks u true) ≡ suc (settled_count marks)
    more_done = count_more marks u (omega (arith, way.marked, within)) open_mark

    few_settled : settled_count marks < 4096
    few_settled = omega (arith, more_done, count_within (set marks u true), length-set marks u true, way.marked, limited.turns)

    -- what the code needs of the picked label
    pub label_limits : StepFits (entry_at table u).cost (entry_at table u).links
    label_limits = (omega (arith, label.1, few_settled), omega (arith, label.0, few_settled))

    least : (v : ℕ) (k : Key) (b : Back) → v < U.turns → (T (is_settled marks v) → ⊥) → reading (entry_at table v) ≡ reached k b → Less k (key_of (entry_at table u)) → ⊥
    least v k b h unsettled e less =
        let (same, two, links-most, cost_most) = reached_labelled (settled_count marks) (entry_at table v) (way.fine v h) e in
        let open-v : not (get_or marks v false) ≡ true = unmarked (get_or marks v false) unsettled in
        let some-v : not (eqb (get_or table.cost v 0) no_entry.cost) ≡ true = rw (ne_eqb (get_or table.cost v 0) no_entry.cost (λ z. omega (arith, cost_most, few_settled))) in
        next.least v (omega (arith, way.sized.cost)) (and_true open-v some-v) (subst (λ (x : Key). Less x (key_of (entry_at table u))) same less)
      where
        unmarked : (test : Bool) → (T test → ⊥) → not test ≡ true
        unmarked true n = absurd (n tt)
        unmarked false n = refl

    pub settled_one : Underway U r (table_up_to U.turns (λ t. passed_to U u (entry_at table u).cost (entry_at table u).links (entry_at table t) t)) (set marks u true)
    settled_one =
        record {
          sized = up_to_sized U.turns passed;
          marked = length-set marks u true ∙ way.marked;
          inside =
              settle_step Key (net U r) (laws U good r) ahead (tested_ahead U r) (is_settled marks) (λ t. reading (entry_at table t)) way.inside u (key_of (entry_at table u)) (back_of (entry_at table u)) within
              unsettled (reading_labelled (entry_at table u) two_links) least
              (is_settled (set marks u true)) (λ t. reading (entry_at (table_up_to U.turns passed) t))
              (λ t. (λ h. again (settled_more marks u t (holds _ h)), λ h. shown (settled_kept marks u t marked_within (once h))))
              (λ t h. ap reading (up_to_entry U.turns passed t h) ∙ passed_reading u (entry_at table u) (settled_count marks) within few_settled two_links label.0 label.1 t (entry_at table t) h (way.fine t h));
          fine = λ t h. subst (Fine (settled_count (set marks u true))) (sym (up_to_entry U.turns passed t h)) (subst (λ (n : ℕ). Fine n (passed t)) (sym more_done) (passed_fine u (entry_at table u) (settled_count marks) within few_settled two_links label.0 label.1 t (entry_at table t) h (way.fine t h)));
        }
      where
        passed : ℕ → Entry
        passed t = passed_to U u (entry_at table u).cost (entry_at table u).links (entry_at table t) t

        unsettled : T (is_settled marks u) → ⊥
        unsettled h = subst T open_mark h

        marked_within : u < length marks
        marked_within = omega (arith, way.marked, within)

        again : {t : ℕ} → (is_settled marks t ≡ true) ⊎ (t ≡ u) → T (is_settled marks t) ⊎ (t ≡ u)
        again (inl h) = inl (shown h)
        again (inr h) = inr h

        once : {t : ℕ} → T (is_settled marks t) ⊎ (t ≡ u) → (is_settled marks t ≡ true) ⊎ (t ≡ u)
        once (inl h) = inl (holds _ h)
        once (inr h) = inr h

  -- at the end
  pub all_settled : (table : Table) (marks : List Bool) → Underway U r table marks → ((v : ℕ) → v < length table.cost → is_candidate table.cost marks v ≡ false) → TrueTable U.turns (TrueTurn U r) table
  all_settled table marks way none_left =
      record {
        costs = way.sized.cost;
        counts = way.sized.links;
        backs = way.sized.back;
        entry = λ t h. turn_outside U good few r t (entry_at table t) (settle_end Key (net U r) (laws U good r) (is_settled marks) (λ t. reading (entry_at table t)) way.inside must t h);
      }
    where
      must : (t : ℕ) (k : Key) (b : Back) → t < U.turns → reading (entry_at table t) ≡ reached k b → T (is_settled marks t)
      must t k b h e =
          let (same, two, links-most, cost_most) = reached_labelled (settled_count marks) (entry_at table t) (way.fine t h) e in
          let few-marks = count_within marks in
          let some-t : not (eqb (get_or table.cost t 0) no_entry.cost) ≡ true = rw (ne_eqb (get_or table.cost t 0) no_entry.cost (λ z. omega (arith, cost_most, few-marks, way.marked, limited.turns))) in
          by (get_or marks t false) (rw some-t at (none_left t (omega (arith, way.sized.cost))))
        where
          by : (test : Bool) → (not test && true) ≡ false → T test
          by true z = tt
          by false z = clash (cc)
