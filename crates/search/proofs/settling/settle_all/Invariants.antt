-- Each pick settles one turn more.
use Rattle.std.proofs.Common.{◌-◌, take}
use Rattle.search.specs.Lent.{table_in, SameBuffers}
use Rattle.search.specs.steps.Marks.{settled_count}
use Rattle.search.proofs.Labelling.{Going}
use Rattle.search.proofs.settling.settle_all.Given as goal

abbrev pub invariant-settling : goal.invariant-settling
invariant-settling l = Going l.view.book.bytes.now l.view.book.counts (table_in l.initial.turns) (table_in l.turns) (take l.view.book.counts.turns l.settled) × SameBuffers l.initial.turns l.turns

abbrev pub decreases-settling : goal.decreases-settling
decreases-settling l = l.view.book.counts.turns - settled_count (take l.view.book.counts.turns l.settled)
