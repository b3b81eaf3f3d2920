-- Whatever entries the labels made are, those passed are filled.
use Rattle.std.proofs.Common.{◌≡◌, ◌<◌, ℕ}
use Rattle.walk.specs.Labels.{Entry}
use Rattle.search.specs.declared.Label.{Label}
use Rattle.search.specs.Lent.{table_in, SameBuffers}
use Rattle.search.specs.steps.Tables.{as_entry, Sized}
use Rattle.search.proofs.FilledTables.{TableFilled}
use Rattle.search.proofs.LabelsMut.fill.Given as goal

abbrev pub invariant-loop-entry : goal.invariant-loop-entry
invariant-loop-entry g l =
    Sized l.count (table_in l.self)
    × ((entry : ℕ → Entry) → ((k : ℕ) (label : Label) → k < l.count → g.F.Fn.post l.label_of (k, tt) label → as_entry label ≡ entry k) → TableFilled l.count entry (table_in l.self) l.entry)
    × SameBuffers l.initial.self l.self
