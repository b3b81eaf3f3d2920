-- The followers before the one in hand have been passed the label, and no other turn's entry has changed.
use Prim.Native.Nat.{ℕ, ◌+◌, ◌≤◌, ◌<◌}
use mathlib.Core.Path.{◌≡◌, refl, sym, ◌∙◌}
use mathlib.Core.List.{List}
use native.Mathlib.Omega.{arith}
use native.Mathlib.Decide.{dec_lt}
use lib.ListN.{get_or}
use Rattle.book.specs.declared.Counts.{Counts}
use Rattle.book.specs.Tables.{pair_table}
use Rattle.walk.specs.View.{View, view_with}
use Rattle.walk.specs.Walks.{look_up, between}
use Rattle.walk.specs.Labels.{Table, entry_at}
use Rattle.walk.specs.steps.Pairs.{pair_from, listed_at, step_to}
use Rattle.walk.proofs.theory.Laws.{one_more}
use Rattle.search.specs.steps.Tables.{table_up_to, Sized}
use Rattle.search.specs.steps.Passing.{passed_by, passed_to}
use Rattle.search.proofs.TableLaws.{filled_table}
use Rattle.search.proofs.Offers.{passed_sized, passed_elsewhere, passed_at, not_passed}
use Rattle.search.proofs.BothRuns.{RunsOf, SideBySide, followers_listed, follower, none_before, both_first, none_after, listed_there, both_next}

-- from the table `old` the label of turn p has been passed on to the turns before t
pub record Spreading (book : List ℕ) (counts : Counts) (walks : List ℕ) (p cost links : ℕ) (old : Table) (start end first to : ℕ) (table : Table) (at t : ℕ) : Type 0 where
  pub both : SideBySide book counts p start end first to at t
  pub sized : Sized counts.turns table
  pub passed : (k : ℕ) → k < t → entry_at table k ≡ passed_to (view_with book counts walks) p cost links (entry_at old k) k
  pub kept : (k : ℕ) → t ≤ k → entry_at table k ≡ entry_at old k

pub set_out : {book : List ℕ} {counts : Counts} {p start end first to : ℕ} → RunsOf book counts p start end first to → {walks : List ℕ} {cost links : ℕ} {old : Table} → Sized counts.turns old → Spreading book counts walks p cost links old start end first to old first start
set_out {book} {counts} {p} runs {walks} {cost} {links} {old} sized =
    record {
      both = both_first runs;
      sized = sized;
      passed = λ k h. sym (not_passed (view_with book counts walks) p cost links k (entry_at old k) (none_before runs k h));
      kept = λ k h. refl;
    }

module _ {book : List ℕ} {counts : Counts} {walks : List ℕ} {p cost links : ℕ} {old : Table} {start end first to : ℕ} {table : Table} {at t : ℕ}
    (spreading : Spreading book counts walks p cost links old start end first to table at t) where
  abbrev U : View
  U = view_with book counts walks

  -- the turns after the followers may not follow
  pub arrived : end ≤ t → table ≡ table_up_to counts.turns (λ k. passed_to U p cost links (entry_at old k) k)
  arrived done = filled_table spreading.sized (λ k h. by k h (dec_lt k t))
    where
      by : (k : ℕ) → k < counts.turns → Dec (k < t) → entry_at table k ≡ passed_to U p cost links (entry_at old k) k
      by k h (yes l) = spreading.passed k l
      by k h (no n) = spreading.kept k (omega arith) ∙ sym (not_passed U p cost links k (entry_at old k) (none_after spreading.both done k h (omega arith)))

  module _ {next : ℕ} (found : next ≡ pair_from (pair_table book counts) at to t)
      {after : Table} (passing : after ≡ passed_by (step_to U (look_up (listed_at (pair_table book counts) next to t) counts.carry_over (get_or walks p 0) (get_or walks t 0)) t) table p cost links t) where
    passed_on : after ≡ passed_by (step_to U (between U p t) t) table p cost links t
    passed_on = rw (listed_there spreading.both found) at passing

    elsewhere : (k : ℕ) → (k ≡ t → ⊥) → entry_at after k ≡ entry_at table k
    elsewhere k other = rw passed_on (passed_elsewhere U p cost links t table k other)

    here : t < end → entry_at after t ≡ passed_to U p cost links (entry_at old t) t
    here inside =
        let listed : t < counts.turns = omega (arith, followers_listed spreading.both.runs) in
        rw (passed_on, ← spreading.kept t (omega arith)) (passed_at U p cost links t spreading.sized listed (follower spreading.both.runs t spreading.both.from inside))

    pub goes_on : t < end → Spreading book counts walks p cost links old start end first to after next (t + 1)
    goes_on inside =
        record {
          both = both_next spreading.both found inside;
          sized = rw passed_on (passed_sized U p cost links t spreading.sized);
          passed = one_more t (λ k. entry_at after k ≡ passed_to U p cost links (entry_at old k) k) (λ k l. elsewhere k (λ same. omega arith) ∙ spreading.passed k l) (here inside);
          kept = λ k h. elsewhere k (λ same. omega arith) ∙ spreading.kept k (omega arith);
        }
