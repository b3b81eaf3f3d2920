-- The entries passed are kept.
use Rattle.std.proofs.Common.{length}
use Rattle.search.specs.Lent.{labels_in}
use Rattle.edit.proofs.KeptSoFar.{Kept}
use Rattle.edit.proofs.keeping.keep_table.Given as goal

abbrev pub invariant-loop-entry : goal.invariant-loop-entry
invariant-loop-entry l = Kept (length l.initial.kept) l.kept (labels_in l.labels) l.entry
