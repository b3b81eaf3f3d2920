-- The links' entries in one pass: each reached turn offers its own figures to the link that it ends with.
use Rattle.std.specs.Prelude.{ℕ, zero, suc, List, Bool, true, false, eqb, get_or}
use Rattle.walk.specs.Labels.{Entry, Table, no_entry}
use Rattle.search.specs.steps.Tables.{own_label, offered}

abbrev pub ended_unless : Bool → Table → ℕ → Entry → Table
ended_unless true table link e = table
ended_unless false table link e = offered table link e

-- one turn's offer; of the turns these are the second links, costs and numbers of links
abbrev pub ended_once : (ℕ → ℕ) → List ℕ → List ℕ → ℕ → Table → Table
ended_once second cost links t table =
    ended_unless (eqb (get_or cost t 0) no_entry.cost) table (second t) (own_label cost links t)

-- after the first n turns
unfoldable pub ended_by : (ℕ → ℕ) → List ℕ → List ℕ → ℕ → Table → Table
ended_by second cost links zero table = table
ended_by second cost links (suc t) table = ended_once second cost links t (ended_by second cost links t table)
