-- The step to a follower says whether it may follow, and what the label offered to it costs, which is within limits.
use Prim.Native.Nat.{ℕ, suc, ◌+◌, ◌≤◌, ◌<◌}
use mathlib.Core.Path.{◌≡◌, refl, sym, ◌∙◌}
use mathlib.Core.List.{List}
use mathlib.Core.Bool.{Bool, true, false, ◌&&◌}
use mathlib.Core.Option.{none}
use native.Mathlib.Omega.{arith}
use native.Mathlib.Numerals.{add-one}
use lib.Dec.{ltb, eqb}
use lib.ListN.{get_or}
use borrow.Author.Tests.{ltb-true, eqb-false, eq-eqb, ne_eqb}
use Rattle.book.specs.declared.Counts.{Counts}
use Rattle.std.specs.Prelude.{Ok, Some, Option}
use Rattle.book.specs.Tables.{pair_table}
use Rattle.book.specs.Entries.{barred, pair_second, pair_extra}
use Rattle.book.specs.Check.{check_of}
use Rattle.book.proofs.GoodBook.{GoodBook, good_book}
use Rattle.book.proofs.Limits.{both}
use Rattle.walk.specs.declared.Between.{Between}
use Rattle.walk.specs.View.{View, view_with, found_or}
use Rattle.walk.specs.Walks.{look_up, listed_as, carried_if, between, allowed, seconds}
use Rattle.walk.specs.steps.Costs.{turn_cost}
use Rattle.walk.specs.Labels.{Entry, Table, entry_at}
use Rattle.walk.specs.steps.Pairs.{listed_at, stepped, step_to, seconds_more}
use Rattle.walk.specs.steps.ViewNet.{is_open}
use Rattle.walk.proofs.GoodView.{turn_limit}
use Rattle.walk.proofs.LimitedView.{extra_limit as any-extra}
use Rattle.walk.proofs.theory.Laws.{clash}
use Rattle.search.specs.steps.Tables.{Sized}
use Rattle.search.specs.steps.Passing.{passed_by, passed_to, offered_if}
use Rattle.search.proofs.TableLaws.{offered_sized, offered_at, offered_elsewhere}

pub step_as : (U : View) (stands : Between) (t : ℕ) → step_to U stands t ≡ stepped (is_open U t && allowed stands) (seconds_more U (seconds stands) t)
unfolding step_to
step_as U stands t = refl

-- the seconds of a step that is not barred
seconds_of : (goes : Bool) (cost : ℕ) {more : ℕ} → stepped goes cost ≡ Some more → (goes ≡ true) × (more ≡ cost)
seconds_of true cost e = (refl, cc)
seconds_of false cost e = clash (cc)

module _ (book : List ℕ) (counts : Counts) (checked : check_of book ≡ Ok counts) where
  g : GoodBook book counts
  g = good_book book counts checked

  abbrev pairs : List ℕ
  pairs = pair_table book counts

  -- an extra that stands is at most 3,600
  extra_limit : (at to t before after : ℕ) → to ≤ counts.pairs → seconds (look_up (listed_at pairs at to t) counts.carry_over before after) ≤ 3600
  unfolding look_up listed_at
  extra_limit at to t before after within = by (ltb at to && eqb (pair_second pairs at) t) refl
    where
      listed : (forbidden : Bool) → at < counts.pairs → eqb (pair_extra pairs at) barred ≡ forbidden → seconds (listed_as forbidden (pair_extra pairs at)) ≤ 3600
      listed true h e = omega arith
      listed false h e = (g.pair at h).seconds (eqb-false _ _ e)

      carried : (test : Bool) → seconds (carried_if test counts.carry_over) ≤ 3600
      carried true = g.limited.carry_over
      carried false = omega arith

      by : (found : Bool) → (ltb at to && eqb (pair_second pairs at) t) ≡ found → seconds (look_up (found_or found (pair_extra pairs at) none) counts.carry_over before after) ≤ 3600
      by true e =
          let inside : at < to = ltb-true _ _ (both _ _ e).0 in
          listed (eqb (pair_extra pairs at) barred) (omega arith) refl
      by false e = carried (ltb 0 before && ltb 0 after)

  -- a step adds less than 171,000 seconds, where it is not barred
  adds_less : (walks : List ℕ) (t : ℕ) (stands : Between) {step : Option ℕ} {more : ℕ} → t < counts.turns → get_or walks t 0 < 65536 → (allowed stands ≡ true → seconds stands ≤ 3600)
      → step ≡ step_to (view_with book counts walks) stands t → step ≡ Some more → more < 171000
  adds_less walks t stands {step} {more} listed small extra stepping adds =
      let U = view_with book counts walks in
      let (goes, same) = seconds_of (is_open U t && allowed stands) (seconds_more U (seconds stands) t) (sym (stepping ∙ step_as U stands t) ∙ adds) in
      let turn : turn_cost U t ≤ get_or walks t 0 + 39600 = turn_limit book counts walks checked t listed in
      let stood : seconds stands ≤ 3600 = extra (both (is_open U t) (allowed stands) goes).1 in
      omega arith

  -- found beside the followers
  pub step_limit : (walks : List ℕ) (at to t before after : ℕ) {stands : Between} {step : Option ℕ} {more : ℕ} → to ≤ counts.pairs → t < counts.turns → get_or walks t 0 < 65536
      → stands ≡ look_up (listed_at pairs at to t) counts.carry_over before after → step ≡ step_to (view_with book counts walks) stands t → step ≡ Some more → more < 171000
  step_limit walks at to t before after within listed small stood stepping adds = adds_less walks t _ listed small (λ a. rw stood (extra_limit at to t before after within)) stepping adds

  -- or looked up
  pub looked_up_limit : (walks : List ℕ) (p t : ℕ) {stands : Between} {step : Option ℕ} {more : ℕ} → t < counts.turns → get_or walks t 0 < 65536
      → stands ≡ between (view_with book counts walks) p t → step ≡ step_to (view_with book counts walks) stands t → step ≡ Some more → more < 171000
  looked_up_limit walks p t listed small stood stepping adds = adds_less walks t _ listed small (λ a. rw stood (any-extra book counts checked walks p t (rw stood at a))) stepping adds

-- what passing the label of turn p on to turn t does to the table
module _ (U : View) (p cost links t : ℕ) where
  abbrev passed_on : Table → Table
  passed_on table = passed_by (step_to U (between U p t) t) table p cost links t

  abbrev goes : Bool
  goes = is_open U t && allowed (between U p t)

  abbrev more : ℕ
  more = seconds_more U (seconds (between U p t)) t

  abbrev label : Entry
  label = record { cost = cost + more; links = links + 1; back = p }

  pub passed_sized : {count : ℕ} {table : Table} → Sized count table → Sized count (passed_on table)
  passed_sized {count} {table} sized = rw (step_as U (between U p t) t) (by goes)
    where
      by : (may : Bool) → Sized count (passed_by (stepped may more) table p cost links t)
      by true = offered_sized sized t label
      by false = sized

  pub passed_elsewhere : (table : Table) (k : ℕ) → (k ≡ t → ⊥) → entry_at (passed_on table) k ≡ entry_at table k
  passed_elsewhere table k other = rw (step_as U (between U p t) t) (by goes)
    where
      by : (may : Bool) → entry_at (passed_by (stepped may more) table p cost links t) k ≡ entry_at table k
      by true = offered_elsewhere table t label k other
      by false = refl

  -- where turn t comes after turn p
  pub passed_at : {count : ℕ} {table : Table} → Sized count table → t < count → U.second p ≡ U.first t → entry_at (passed_on table) t ≡ passed_to U p cost links (entry_at table t) t
  unfolding passed_to
  passed_at {count} {table} sized h meets = rw (step_as U (between U p t) t, eq-eqb _ _ meets) (by goes)
    where
      by : (may : Bool) → entry_at (passed_by (stepped may more) table p cost links t) t ≡ offered_if may (record { cost = cost + more; links = suc links; back = p }) (entry_at table t)
      by true = rw (← add-one links) (offered_at sized t label h)
      by false = refl

  -- where it does not
  pub not_passed : (e : Entry) → (U.second p ≡ U.first t → ⊥) → passed_to U p cost links e t ≡ e
  unfolding passed_to
  not_passed e apart = rw (ne_eqb _ _ apart)
