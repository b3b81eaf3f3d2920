-- The followers before the one in hand have been passed the label, and the pairs before the one in hand are theirs.
use Rattle.search.specs.Lent.{table_in, SameBuffers}
use Rattle.search.proofs.Spreading.{Spreading}
use Rattle.search.proofs.passing.spread.Given as goal

abbrev pub invariant-loop-turn : goal.invariant-loop-turn
invariant-loop-turn l = Spreading l.view.book.bytes.now l.view.book.counts l.view.walks.now l.before.0 l.label.cost l.label.links (table_in l.initial.turns) l.start l.end l.initial.at l.to (table_in l.turns) l.at l.turn × SameBuffers l.initial.turns l.turns
