-- A label that is placed or offered changes its own entry alone, and a table is known by its entries.
use Prim.Native.Nat.{ℕ, ◌<◌}
use mathlib.Core.Path.{◌≡◌, refl, sym, ap, ◌∙◌}
use mathlib.Core.List.{List}
use mathlib.Core.Bool.{Bool, true, false}
use native.Mathlib.Omega.{arith}
use lib.ListN.{length, get_or, length-set}
use lib.Seq.{get_or-set_same, get_or-set_other, ext_get_or}
use Rattle.walk.specs.Labels.{Entry, Table, entry_at}
use Rattle.walk.proofs.Filling.{up_to_length, up_to_at}
use Rattle.search.specs.steps.Tables.{placed, placed_if, goes_ahead, offered, table_up_to, Sized, Holds}
use Rattle.search.specs.steps.Passing.{better}

module _ {count : ℕ} {table : Table} (sized : Sized count table) (k : ℕ) (e : Entry) where
  pub placed_sized : Sized count (placed table k e)
  placed_sized =
      record {
        cost = simp length-set sized.cost;
        links = simp length-set sized.links;
        back = simp length-set sized.back;
      }

  pub offered_sized : Sized count (offered table k e)
  unfolding offered
  offered_sized = by (goes_ahead e (entry_at table k))
    where
      by : (ahead : Bool) → Sized count (placed_if ahead table k e)
      by true = placed_sized
      by false = sized

  -- at its own entry
  pub placed_at : k < count → entry_at (placed table k e) k ≡ e
  placed_at h =
      let cost : k < length table.cost = omega (arith, sized.cost) in
      let links : k < length table.links = omega (arith, sized.links) in
      let back : k < length table.back = omega (arith, sized.back) in
      rw (get_or-set_same table.cost k e.cost 0, get_or-set_same table.links k e.links 0, get_or-set_same table.back k e.back 0)

  pub offered_at : k < count → entry_at (offered table k e) k ≡ better (goes_ahead e (entry_at table k)) e (entry_at table k)
  unfolding offered
  offered_at h = by (goes_ahead e (entry_at table k))
    where
      by : (ahead : Bool) → entry_at (placed_if ahead table k e) k ≡ better ahead e (entry_at table k)
      by true = placed_at h
      by false = refl

-- at another one
module _ (table : Table) (k : ℕ) (e : Entry) (j : ℕ) (other : j ≡ k → ⊥) where
  pub placed_elsewhere : entry_at (placed table k e) j ≡ entry_at table j
  placed_elsewhere = rw (get_or-set_other table.cost k j e.cost 0, get_or-set_other table.links k j e.links 0, get_or-set_other table.back k j e.back 0)

  pub offered_elsewhere : entry_at (offered table k e) j ≡ entry_at table j
  unfolding offered
  offered_elsewhere = by (goes_ahead e (entry_at table k))
    where
      by : (ahead : Bool) → entry_at (placed_if ahead table k e) j ≡ entry_at table j
      by true = placed_elsewhere
      by false = refl

module _ (count : ℕ) (f : ℕ → Entry) where
  pub up_to_sized : Sized count (table_up_to count f)
  up_to_sized = record { cost = up_to_length _ count; links = up_to_length _ count; back = up_to_length _ count }

  pub up_to_entry : (k : ℕ) → k < count → entry_at (table_up_to count f) k ≡ f k
  up_to_entry k h = rw (up_to_at (λ j. (f j).cost) count k 0, up_to_at (λ j. (f j).links) count k 0, up_to_at (λ j. (f j).back) count k 0)

-- two lists of as many entries as the table, equal entry by entry
same_list : (count : ℕ) (one other : List ℕ) → length one ≡ count → length other ≡ count → ((k : ℕ) → k < count → get_or one k 0 ≡ get_or other k 0) → one ≡ other
same_list count one other e f h = ext_get_or 0 one other (e ∙ sym f) (λ k l. h k (omega arith))

pub same_table : {count : ℕ} {one other : Table} → Sized count one → Sized count other → ((k : ℕ) → k < count → entry_at one k ≡ entry_at other k) → one ≡ other
same_table {count} {one} {other} sized sized-other same =
    rw (
      same_list count one.cost other.cost sized.cost sized-other.cost (λ k h. ap (λ (e : Entry). e.cost) (same k h)),
      same_list count one.links other.links sized.links sized-other.links (λ k h. ap (λ (e : Entry). e.links) (same k h)),
      same_list count one.back other.back sized.back sized-other.back (λ k h. ap (λ (e : Entry). e.back) (same k h)),
    )

pub filled_table : {count : ℕ} {table : Table} {f : ℕ → Entry} → Sized count table → ((k : ℕ) → k < count → entry_at table k ≡ f k) → table ≡ table_up_to count f
filled_table {count} {table} {f} sized same = same_table sized (up_to_sized count f) (λ k h. same k h ∙ sym (up_to_entry count f k h))

-- a table of so many entries has each of them
pub holds_in : {count : ℕ} {table : Table} → Sized count table → (k : ℕ) → k < count → Holds table k
holds_in sized k h = record { cost = omega (arith, sized.cost); links = omega (arith, sized.links); back = omega (arith, sized.back) }
