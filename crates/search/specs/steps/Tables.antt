-- A label offered to one entry of a table.
use Rattle.std.specs.Prelude.{ℕ, ◌+◌, ◌≡◌, ◌<◌, List, Bool, true, false, ◌&&◌, ◌||◌, ltb, eqb, length, get_or, set}
use Rattle.walk.specs.View.{up_to}
use Rattle.walk.specs.Labels.{Entry, Table, entry_at}
use Rattle.walk.specs.Counting.{same_entry}
use Rattle.search.specs.declared.Label.{Label}

abbrev pub as_entry : Label → Entry
as_entry label = record { cost = label.cost; links = label.links; back = label.back }

-- what a turn or a link offers: its figures, and its own number as the back
abbrev pub own_label : List ℕ → List ℕ → ℕ → Entry
own_label cost links own = record { cost = get_or cost own 0; links = get_or links own 0; back = own }

-- a walk of this cost and these links with one turn more, which goes on from turn p
abbrev pub one_turn_on : ℕ → ℕ → ℕ → ℕ → Entry
one_turn_on cost links more p = record { cost = cost + more; links = links + 1; back = p }

-- an entry is this label, in every field
abbrev pub stands_as : Entry → Entry → Bool
stands_as e label = same_entry e label

abbrev pub placed : Table → ℕ → Entry → Table
placed table k e = record { cost = set table.cost k e.cost; links = set table.links k e.links; back = set table.back k e.back }

-- by cost, then links, then back
unfoldable pub goes_ahead : Entry → Entry → Bool
goes_ahead e f = ltb e.cost f.cost || eqb e.cost f.cost && (ltb e.links f.links || eqb e.links f.links && ltb e.back f.back)

abbrev pub placed_if : Bool → Table → ℕ → Entry → Table
placed_if true table k e = placed table k e
placed_if false table k e = table

-- the label is taken where it goes ahead of the one that stands there
unfoldable pub offered : Table → ℕ → Entry → Table
offered table k e = placed_if (goes_ahead e (entry_at table k)) table k e

-- the table of f at 0 up to n
abbrev pub table_up_to : ℕ → (ℕ → Entry) → Table
table_up_to n f = record { cost = up_to n (λ k. (f k).cost); links = up_to n (λ k. (f k).links); back = up_to n (λ k. (f k).back) }

-- three lists of one length
pub record Sized (count : ℕ) (table : Table) : Type 0 where
  pub cost : length table.cost ≡ count
  pub links : length table.links ≡ count
  pub back : length table.back ≡ count

-- each of the three lists has an entry of this number
pub record Holds (table : Table) (k : ℕ) : Type 0 where
  pub cost : k < length table.cost
  pub links : k < length table.links
  pub back : k < length table.back
