-- The turns passed have offered their figures.
use Rattle.walk.specs.View.{view_in}
use Rattle.search.specs.Lent.{table_in, SameBuffers}
use Rattle.search.proofs.EndedTurns.{Ending}
use Rattle.search.proofs.ends.end_turns.Given as goal

abbrev pub invariant-loop-turn : goal.invariant-loop-turn
invariant-loop-turn l = Ending (view_in l.view).second l.turns.cost.now l.turns.links.now l.view.book.counts.turns l.view.book.counts.links (table_in l.initial.links) (table_in l.links) l.turn × SameBuffers l.initial.links l.links
