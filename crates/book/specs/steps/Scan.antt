-- What one table's scan answers: that all entries are good, or the refusal with the number of the first bad one.
use Rattle.std.specs.Prelude.{ℕ, Bool, true, false, Result, Ok, Err, leb}
use Rattle.book.specs.declared.Refusal.{Refusal}
use Rattle.book.specs.FirstBad.{first_bad}

abbrev pub clean_or : Bool → Refusal → Result Unit Refusal
clean_or true found = Ok tt
clean_or false found = Err found

unfoldable pub scan : (ℕ → Refusal) → (ℕ → Bool) → ℕ → Result Unit Refusal
scan bad good count = clean_or (leb count (first_bad good count)) (bad (first_bad good count))
