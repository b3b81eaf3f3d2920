-- A table that is filled from the front, one entry placed at a time, ends as the table of the entries placed.
use Prim.Native.Nat.{ℕ, ◌+◌, ◌≤◌, ◌<◌}
use mathlib.Core.Path.{◌≡◌, refl, ap}
use native.Mathlib.Omega.{arith}
use Rattle.walk.specs.View.{up_to}
use Rattle.walk.specs.Labels.{Entry, Table}
use Rattle.walk.proofs.Filling.{Filled, one_filled, all_filled}
use Rattle.search.specs.steps.Tables.{placed, table_up_to, Sized}
use Rattle.search.proofs.TableLaws.{placed_sized}

module _ (count : ℕ) (f : ℕ → Entry) where
  -- of its entries, as many as count says, the first n are filled
  pub record TableFilled (table : Table) (n : ℕ) : Type 0 where
    pub sized : Sized count table
    pub within : n ≤ count
    pub cost : Filled (λ k. (f k).cost) table.cost n
    pub links : Filled (λ k. (f k).links) table.links n
    pub back : Filled (λ k. (f k).back) table.back n

  pub none_placed : (table : Table) → Sized count table → TableFilled table 0
  unfolding up_to
  none_placed table sized = record { sized = sized; within = omega arith; cost = refl; links = refl; back = refl }

  pub one_placed : (table after : Table) (n : ℕ) (e : Entry) → n < count → e ≡ f n → after ≡ placed table n e → TableFilled table n → TableFilled after (n + 1)
  one_placed table after n e h same stored filled =
      let sized = filled.sized in
      rw stored
      (record {
        sized = placed_sized sized n e;
        within = omega arith;
        cost = one_filled _ _ _ (omega arith) (ap (λ (x : Entry). x.cost) same) filled.cost;
        links = one_filled _ _ _ (omega arith) (ap (λ (x : Entry). x.links) same) filled.links;
        back = one_filled _ _ _ (omega arith) (ap (λ (x : Entry). x.back) same) filled.back;
      })

  pub all_placed : (table : Table) (n : ℕ) → count ≤ n → TableFilled table n → table ≡ table_up_to count f
  all_placed table n done filled =
      let sized = filled.sized in
      let costs = all_filled _ _ _ _ sized.cost (omega arith) filled.cost in
      let links = all_filled _ _ _ _ sized.links (omega arith) filled.links in
      let backs = all_filled _ _ _ _ sized.back (omega arith) filled.back in
      rw (← costs, ← links, ← backs)
