-- What a search, a route or a pick answers and leaves is fixed by what it was lent, since every entry has one true value, the chosen walk is one, and so is the least candidate.
use Prim.Native.Nat.{ℕ, ◌≤◌, ◌<◌}
use mathlib.Core.Path.{◌≡◌, refl, sym, ap, ◌∙◌, subst}
use mathlib.Core.Logic.{inl, inr}
use mathlib.Core.List.{List, ◌++◌}
use mathlib.Core.Bool.{Bool, true, false}
use native.Mathlib.Omega.{arith}
use lib.ListN.{length, drop}
use Rattle.book.specs.declared.Counts.{Counts}
use Rattle.std.specs.Prelude.{Ok, Some, None, Option}
use Rattle.book.specs.Check.{check_of}
use Rattle.book.proofs.GoodBook.{good_book}
use Rattle.walk.specs.View.{View, view_of, walks_of}
use Rattle.walk.specs.Walks.{cost_of}
use Rattle.walk.specs.Labels.{Table, Entry, entry_at, start_back, TrueTable, TrueLabels, Route}
use Rattle.walk.proofs.theory.Laws.{Compared, lt_tri, clash}
use Rattle.walk.proofs.GoodView.{GoodView, good_view}
use Rattle.walk.proofs.LabelLaws.{turn_one, link_one, route_one}
use Rattle.search.specs.Search.{Search, refused, done, Searched}
use Rattle.search.specs.Route.{RouteOnward, no_walk, no_room, done as route_done, Routing, refused as route-refused, untrue, onward, routed, RouteAnswer}
use Rattle.search.specs.steps.Tables.{Sized}
use Rattle.search.specs.steps.Judging.{Tells}
use Rattle.search.specs.steps.Picking.{Picks}
use Rattle.search.proofs.TableLaws.{same_table}
use Rattle.search.proofs.Tested.{search_passed, route_passed}
use Rattle.book.specs.declared.TurnNumber.{TurnNumber}

-- two true tables are one where every entry has one true value
module _ (count : ℕ) (TrueAt : ℕ → Entry → Type 0) where
  pub true_sized : (table : Table) → TrueTable count TrueAt table → Sized count table
  true_sized table h = record { cost = h.costs; links = h.counts; back = h.backs }

  one_table : ((k : ℕ) (e f : Entry) → TrueAt k e → TrueAt k f → e ≡ f) → (one other : Table) → TrueTable count TrueAt one → TrueTable count TrueAt other → one ≡ other
  one_table same one other a b = same_table (true_sized one a) (true_sized other b) (λ k h. same k (entry_at one k) (entry_at other k) (a.entry k h) (b.entry k h))

module _ (book : List ℕ) (counts : Counts) (h : check_of book ≡ Ok counts) (r : ℕ) where
  -- the labels of a good book from one origin are one
  pub labels_one : (turns links turns-too links-too : Table) → TrueLabels (view_of book counts) r turns links → TrueLabels (view_of book counts) r turns-too links-too → (turns ≡ turns-too) × (links ≡ links-too)
  labels_one turns links turns-too links-too a b =
      let good = good_view book counts (walks_of book counts) h in
      let few : counts.turns < start_back = omega (arith, (good_book book counts h).limited) in (
        one_table _ _ (turn_one (view_of book counts) good few r) turns turns-too a.turn b.turn,
        one_table _ _ (link_one (view_of book counts) good few r) links links-too a.link b.link,
      )

-- two outcomes that the contract of a search allows for one input are equal
pub search_determined : (book : List ℕ) (r : ℕ) (turns links : Table) (one other : Searched) (turns-one links-one turns-other links-other : Table) → Search book r turns links one turns-one links-one → Search book r turns links other turns-other links-other
    → (one ≡ other) × ((turns-one ≡ turns-other) × (links-one ≡ links-other))
search_determined book r turns links one other t l t' l' (refused found e a b c) (refused found' e' a' b' c') = (cc, (b ∙ sym b', c ∙ sym c'))
search_determined book r turns links one other t l t' l' (refused found e a b c) (done counts e' a' b') = clash (cc)
search_determined book r turns links one other t l t' l' (done counts e a b) (refused found' e' a' b' c') = clash (cc)
search_determined book r turns links one other t l t' l' (done counts e a b) (done counts' e' a' b') =
    let same : counts' ≡ counts = cc in
    (a ∙ sym a', labels_one book counts (search_passed book r turns links counts e).0 r t l t' l' b (subst (λ (x : Counts). TrueLabels (view_of book x) r t' l') same b'))

-- a search ignores what the buffers held
pub search_ignores : (book : List ℕ) (r : ℕ) (turns links turns-too links-too turns-one links-one turns-other links-other : Table) → Search book r turns links (Ok tt) turns-one links-one → Search book r turns-too links-too (Ok tt) turns-other links-other
    → (turns-one ≡ turns-other) × (links-one ≡ links-other)
search_ignores book r turns links turns-too links-too t l t' l' (refused found e a b c) second = clash (cc)
search_ignores book r turns links turns-too links-too t l t' l' (done counts e a b) (refused found' e' a' b' c') = clash (cc)
search_ignores book r turns links turns-too links-too t l t' l' (done counts e a b) (done counts' e' a' b') =
    let good = (search_passed book r turns links counts e).0 in
    let good-too = (search_passed book r turns-too links-too counts' e').0 in
    let same : counts' ≡ counts = cc (good, good-too) in
    labels_one book counts good r t l t' l' b (subst (λ (x : Counts). TrueLabels (view_of book x) r t' l') same b')

-- the judge tells whether labels are true, so two answers to one question are equal
pub judge_determined : (A : Type 0) (one other : Bool) → Tells one A → Tells other A → one ≡ other
judge_determined A true true a b = refl
judge_determined A true false a b = absurd (b a)
judge_determined A false true a b = absurd (a b)
judge_determined A false false a b = refl

module _ (U : View) (good : GoodView U) (r s : ℕ) (buffer : List ℕ) where
  -- a walk that has room and one that has none are not both the route
  not_both : (walk other : List ℕ) → Route U r s walk → Route U r s other → length walk ≤ length buffer → length buffer < length other → ⊥
  not_both walk other w v fits short = omega (arith, ap length (route_one U good r s walk other w v))

  onward_determined : (one other : RouteAnswer) (after_one after-other : List ℕ) → RouteOnward U r s buffer one after_one → RouteOnward U r s buffer other after-other → (one ≡ other) × (after_one ≡ after-other)
  onward_determined one other a b (no_walk n e f) (no_walk n' e' f') = (e ∙ sym e', f ∙ sym f')
  onward_determined one other a b (no_walk n e f) (no_room walk w short e' f') = absurd (n walk w.walk)
  onward_determined one other a b (no_walk n e f) (route_done walk w fits e' f') = absurd (n walk w.walk)
  onward_determined one other a b (no_room walk w short e f) (no_walk n e' f') = absurd (n walk w.walk)
  onward_determined one other a b (no_room walk w short e f) (no_room walk' w' short' e' f') = (e ∙ sym e', f ∙ sym f')
  onward_determined one other a b (no_room walk w short e f) (route_done walk' w' fits e' f') = absurd (not_both walk' walk w' w fits short)
  onward_determined one other a b (route_done walk w fits e f) (no_walk n e' f') = absurd (n walk w.walk)
  onward_determined one other a b (route_done walk w fits e f) (no_room walk' w' short e' f') = absurd (not_both walk walk' w w' fits short)
  onward_determined one other a b (route_done walk w fits e f) (route_done walk' w' fits' e' f') =
      let same = route_one U good r s walk walk' w w' in
      (e ∙ ap (λ (x : List ℕ). routed (cost_of U x) (length x)) same ∙ sym e', f ∙ ap (λ (x : List ℕ). x ++ drop (length x) buffer) same ∙ sym f')

-- two outcomes that the contract of a route allows for one input are equal
pub route_determined : (book : List ℕ) (r s : ℕ) (turns links : Table) (buffer : List ℕ) (one other : RouteAnswer) (after_one after-other : List ℕ) → Routing book r s turns links buffer one after_one → Routing book r s turns links buffer other after-other
    → (one ≡ other) × (after_one ≡ after-other)
route_determined book r s turns links buffer one other a b (route-refused found e f g) (route-refused found' e' f' g') = (cc, g ∙ sym g')
route_determined book r s turns links buffer one other a b (route-refused found e f g) (untrue counts e' n f' g') = clash (cc)
route_determined book r s turns links buffer one other a b (route-refused found e f g) (onward counts e' labels w) = clash (cc)
route_determined book r s turns links buffer one other a b (untrue counts e n f g) (route-refused found e' f' g') = clash (cc)
route_determined book r s turns links buffer one other a b (untrue counts e n f g) (untrue counts' e' n' f' g') = (f ∙ sym f', g ∙ sym g')
route_determined book r s turns links buffer one other a b (untrue counts e n f g) (onward counts' e' labels w) =
    let same : counts' ≡ counts = cc in
    absurd (n (subst (λ (x : Counts). TrueLabels (view_of book x) r turns links) same labels))
route_determined book r s turns links buffer one other a b (onward counts e labels w) (route-refused found e' f' g') = clash (cc)
route_determined book r s turns links buffer one other a b (onward counts e labels w) (untrue counts' e' n f g) =
    let same : counts ≡ counts' = cc in
    absurd (n (subst (λ (x : Counts). TrueLabels (view_of book x) r turns links) same labels))
route_determined book r s turns links buffer one other a b (onward counts e labels w) (onward counts' e' labels' w') =
    let same : counts' ≡ counts = cc in
    let good = good_view book counts (walks_of book counts) (route_passed book r s turns links counts e).0 in
    onward_determined (view_of book counts) good r s buffer one other a b w (subst (λ (x : Counts). RouteOnward (view_of book x) r s buffer other b) same w')

-- two turns that the contract of a pick allows for one state are one, so any picker that meets it may stand there
pub pick_determined : (cost links : List ℕ) (settled : List Bool) (one other : Option TurnNumber) → Picks cost links settled one → Picks cost links settled other → one ≡ other
pick_determined cost links settled None None a b = refl
pick_determined cost links settled None (Some u) a b = clash (cc (a u.0 b.within, b.candidate))
pick_determined cost links settled (Some t) None a b = clash (cc (a.candidate, b t.0 a.within))
pick_determined cost links settled (Some t) (Some u) a b = by (lt_tri t.0 u.0)
  where
    by : Compared ◌<◌ t.0 u.0 → ◌≡◌ {A = Option TurnNumber} (Some t) (Some u)
    by (inl h) = absurd (a.least u.0 b.within b.candidate (b.first t.0 h a.candidate))
    by (inr (inl same)) = ap (λ (n : ℕ). Some (record { 0 = n })) same
    by (inr (inr h)) = absurd (b.least t.0 a.within a.candidate (a.first u.0 h b.candidate))
