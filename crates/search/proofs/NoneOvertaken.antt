-- The followers before the one in hand are not overtaken, and no other turn can be.
use Prim.Native.Nat.{ℕ, ◌+◌, ◌≤◌, ◌<◌}
use mathlib.Core.Path.{◌≡◌, sym, ◌∙◌}
use mathlib.Core.List.{List}
use mathlib.Core.Bool.{Bool, true, false, not}
use native.Mathlib.Omega.{arith}
use native.Mathlib.Decide.{dec_lt}
use lib.ListN.{get_or}
use Rattle.book.specs.declared.Counts.{Counts}
use Rattle.book.specs.Tables.{pair_table}
use Rattle.walk.specs.View.{View, view_with}
use Rattle.walk.specs.Walks.{look_up, between}
use Rattle.walk.specs.Labels.{Table, entry_at}
use Rattle.walk.specs.steps.Pairs.{pair_from, listed_at, step_to}
use Rattle.walk.proofs.theory.Laws.{one_more}
use Rattle.search.specs.steps.Judging.{every_below, overtaken_by, overtaken}
use Rattle.search.proofs.EveryBelow.{every_holds, every_fails}
use Rattle.search.proofs.Overtaking.{overtaken_at, not_overtaken}
use Rattle.search.proofs.BothRuns.{RunsOf, SideBySide, followers_listed, follower, none_before, both_first, none_after, listed_there, both_next}

-- turn p, of this cost and these links, overtakes none of the turns before t
pub record NoneOvertaken (book : List ℕ) (counts : Counts) (walks : List ℕ) (p cost links : ℕ) (turns : Table) (start end first to at t : ℕ) : Type 0 where
  pub both : SideBySide book counts p start end first to at t
  pub stand : (k : ℕ) → k < t → overtaken (view_with book counts walks) p cost links turns k ≡ false

pub none_yet : {book : List ℕ} {counts : Counts} {p start end first to : ℕ} → RunsOf book counts p start end first to → {walks : List ℕ} {cost links : ℕ} {turns : Table} → NoneOvertaken book counts walks p cost links turns start end first to first start
none_yet {book} {counts} {p} runs {walks} {cost} {links} {turns} =
    record { both = both_first runs; stand = λ k h. not_overtaken (view_with book counts walks) p k cost links turns (none_before runs k h) }

module _ {book : List ℕ} {counts : Counts} {walks : List ℕ} {p cost links : ℕ} {turns : Table} {start end first to at t : ℕ} (so_far : NoneOvertaken book counts walks p cost links turns start end first to at t) where
  abbrev U : View
  U = view_with book counts walks

  pub none_at_all : end ≤ t → true ≡ every_below (λ v. not (overtaken U p cost links turns v)) counts.turns
  none_at_all done = sym (every_holds _ counts.turns (λ k h. by k h (dec_lt k t)))
    where
      by : (k : ℕ) → k < counts.turns → Dec (k < t) → not (overtaken U p cost links turns k) ≡ true
      by k h (yes l) = rw (so_far.stand k l)
      by k h (no n) = rw (not_overtaken U p k cost links turns (none_after so_far.both done k h (omega arith)))

  module _ {next : ℕ} (found : next ≡ pair_from (pair_table book counts) at to t) (inside : t < end) {answer : Bool}
      (told : answer ≡ overtaken_by (step_to U (look_up (listed_at (pair_table book counts) next to t) counts.carry_over (get_or walks p 0) (get_or walks t 0)) t) p cost links (entry_at turns t)) where
    here : overtaken U p cost links turns t ≡ answer
    here =
        let at-step : answer ≡ overtaken_by (step_to U (between U p t) t) p cost links (entry_at turns t) = rw (listed_there so_far.both found) at told in
        sym (at-step ∙ overtaken_at U p t cost links turns (follower so_far.both.runs t so_far.both.from inside))

    pub none_next : answer ≡ false → NoneOvertaken book counts walks p cost links turns start end first to next (t + 1)
    none_next stands = record { both = both_next so_far.both found inside; stand = one_more t (λ k. overtaken U p cost links turns k ≡ false) so_far.stand (here ∙ stands) }

    pub one_overtaken : answer ≡ true → false ≡ every_below (λ v. not (overtaken U p cost links turns v)) counts.turns
    one_overtaken falls =
        let listed : t < counts.turns = omega (arith, followers_listed so_far.both.runs) in
        sym (every_fails _ counts.turns t listed (rw (here ∙ falls)))
