-- The labels that are kept from before an edit.
use Rattle.std.specs.Prelude.{ℕ, ◌/◌, ◌%◌, ◌<◌, ◌≡◌, List, length, get_or}
use Rattle.walk.specs.Labels.{Entry, Table, entry_at}
use Rattle.search.specs.declared.Label.{Label}
use Rattle.search.specs.steps.Tables.{as_entry}

abbrev pub not_kept : Label
not_kept = record { cost = 0; links = 0; back = 0 }

abbrev pub kept_at : List Label → ℕ → Entry
kept_at kept k = as_entry (get_or kept k not_kept)

-- a table's entries, so many
pub record KeptWhole (count : ℕ) (kept : List Label) (table : Table) : Type 0 where
  pub whole : length kept ≡ count
  pub holds : (k : ℕ) → k < count → kept_at kept k ≡ entry_at table k

-- an entry in one number
unfoldable pub kept_entry : ℕ → Entry
kept_entry kept = record { cost = kept / 4294967296; links = kept / 65536 % 65536; back = kept % 65536 }
