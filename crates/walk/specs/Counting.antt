-- Document 01, "What can be asked", Edit: entries that differ in any field before and after.
use Rattle.std.specs.Prelude.{ℕ, zero, suc, ◌+◌, Bool, true, false, ◌&&◌, eqb}
use Rattle.walk.specs.Labels.{Entry}

unfoldable pub same_entry : Entry → Entry → Bool
same_entry e f = eqb e.cost f.cost && (eqb e.links f.links && eqb e.back f.back)

abbrev pub one_unless : Bool → ℕ
one_unless true = 0
one_unless false = 1

-- how many of the first `count` entries differ
unfoldable pub differing : (ℕ → Entry) → (ℕ → Entry) → ℕ → ℕ
differing before after zero = 0
differing before after (suc k) = differing before after k + one_unless (same_entry (before k) (after k))
