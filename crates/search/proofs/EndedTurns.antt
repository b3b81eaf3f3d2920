-- A table keeps its size when turns offer their figures, and after as many steps as there are turns all have offered.
use Prim.Native.Nat.{ℕ, zero, suc, ◌+◌, ◌≤◌, ◌<◌}
use mathlib.Core.Path.{◌≡◌, refl, ap, ◌∙◌}
use mathlib.Core.List.{List}
use mathlib.Core.Bool.{Bool, true, false}
use native.Mathlib.Omega.{arith}
use native.Mathlib.Numerals.{add-one}
use lib.Dec.{eqb}
use lib.ListN.{get_or}
use Rattle.walk.specs.Labels.{Table, no_entry}
use Rattle.search.specs.steps.Tables.{Sized}
use Rattle.search.specs.steps.Ends.{ended_unless, ended_once, ended_by}
use Rattle.search.proofs.TableLaws.{offered_sized}

module _ (second : ℕ → ℕ) (cost links : List ℕ) where
  once_sized : {count : ℕ} {table : Table} (t : ℕ) → Sized count table → Sized count (ended_once second cost links t table)
  once_sized {count} {table} t sized = by (eqb (get_or cost t 0) no_entry.cost)
    where
      by : (unreached : Bool) → Sized count (ended_unless unreached table (second t) (record { cost = get_or cost t 0; links = get_or links t 0; back = t }))
      by true = sized
      by false = offered_sized sized (second t) _

  pub ended_sized : {count : ℕ} {table : Table} (n : ℕ) → Sized count table → Sized count (ended_by second cost links n table)
  unfolding ended_by
  ended_sized zero sized = sized
  ended_sized (suc t) sized = once_sized t (ended_sized t sized)

-- of so many turns the first n have offered their figures to a table of count entries
pub record Ending (second : ℕ → ℕ) (cost links : List ℕ) (turns count : ℕ) (table now : Table) (n : ℕ) : Type 0 where
  pub sized : Sized count now
  pub within : n ≤ turns
  pub ended : now ≡ ended_by second cost links n table

module _ {second : ℕ → ℕ} {cost links : List ℕ} {turns count : ℕ} {table : Table} where
  pub none_ended : Sized count table → Ending second cost links turns count table table 0
  unfolding ended_by
  none_ended sized = record { sized = sized; within = omega arith; ended = refl }

  pub one_ended : {now after : Table} {n : ℕ} → Ending second cost links turns count table now n → n < turns → after ≡ ended_once second cost links n now → Ending second cost links turns count table after (n + 1)
  unfolding ended_by
  one_ended {now} {after} {n} ending h once =
      record {
        sized = rw once (once_sized second cost links n ending.sized);
        within = omega arith;
        ended = rw add-one (once ∙ ap (ended_once second cost links n) ending.ended);
      }

  pub all_ended : {now : Table} {n : ℕ} → Ending second cost links turns count table now n → turns ≤ n → now ≡ ended_by second cost links turns table
  all_ended {now} {n} ending done =
      let within = ending.within in
      let same : turns ≡ n = omega arith in
      rw same ending.ended
