-- The entries kept so far are those of the table.
use Prim.Native.Nat.{ℕ, ◌+◌, ◌≤◌, ◌<◌}
use mathlib.Core.Path.{◌≡◌, sym, ap, ◌∙◌, subst}
use mathlib.Core.List.{List, ◌++◌}
use native.Mathlib.Omega.{arith}
use lib.ListN.{length, set, take, drop, length-set}
use lib.Seq.{get_or-set_same, get_or-set_other, length-take-le, take_at}
use Rattle.walk.specs.Labels.{Table, entry_at}
use Rattle.walk.proofs.Filling.{front_within}
use Rattle.walk.proofs.theory.Laws.{one_more}
use Rattle.search.specs.declared.Label.{Label}
use Rattle.search.specs.steps.Tables.{as_entry, Sized}
use Rattle.edit.specs.steps.KeptLabels.{not_kept, kept_at, KeptWhole}

-- the first n of count entries are kept
pub record Kept (count : ℕ) (kept : List Label) (table : Table) (n : ℕ) : Type 0 where
  pub within : n ≤ count
  pub whole : length kept ≡ count
  pub front : (k : ℕ) → k < n → kept_at kept k ≡ entry_at table k

module _ (count : ℕ) (kept : List Label) (table : Table) where
  pub none_kept : length kept ≡ count → Kept count kept table 0
  none_kept e = record { within = omega arith; whole = e; front = λ k l. absurd (omega arith) }

  pub one_kept : (n : ℕ) (value : Label) → n < count → as_entry value ≡ entry_at table n → Kept count kept table n → Kept count (set kept n value) table (n + 1)
  one_kept n value h e so_far =
      record {
        within = omega arith;
        whole = length-set kept n value ∙ so_far.whole;
        front =
            one_more n (λ k. kept_at (set kept n value) k ≡ entry_at table k)
            (λ k below. ap as_entry (get_or-set_other kept n k value not_kept (λ same. omega arith)) ∙ so_far.front k below)
            (ap as_entry (get_or-set_same kept n value not_kept (omega (arith, so_far.whole))) ∙ e);
      }

  pub all_kept : (n : ℕ) → count ≤ n → Kept count kept table n → KeptWhole count kept table
  all_kept n h so_far = record { whole = so_far.whole; holds = λ k l. so_far.front k (omega arith) }

-- a whole table kept in the front of a longer buffer
module _ (count : ℕ) (all : List Label) (table : Table) (room : count ≤ length all) where
  pub cut_sized : Sized count table → Sized (length (take count all)) table
  cut_sized = subst (λ (n : ℕ). Sized n table) (sym (length-take-le count all room))

  module _ (kept : List Label) (cut : KeptWhole (length (take count all)) kept table) where
    pub filled : length kept ≡ count
    filled = cut.whole ∙ length-take-le count all room

    pub front_room : count ≤ length (kept ++ drop count all)
    front_room = front_within kept (drop count all) count filled

    pub front_whole : KeptWhole count (take count (kept ++ drop count all)) table
    front_whole = rw (take_at kept (drop count all) count filled) (rw (length-take-le count all room) at cut)
