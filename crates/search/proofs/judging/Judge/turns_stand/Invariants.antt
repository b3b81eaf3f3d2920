-- Every turn passed has stood its test.
use Rattle.walk.specs.View.{view_in}
use Rattle.search.specs.Lent.{labels_in}
use Rattle.search.specs.steps.Judging.{turn_stands}
use Rattle.search.proofs.EveryBelow.{Passed}
use Rattle.search.proofs.judging.Judge.turns_stand.Given as goal

abbrev pub invariant-loop-turn : goal.invariant-loop-turn
invariant-loop-turn l = Passed (turn_stands (view_in l.self.view) l.self.origin.0 (labels_in l.self.turns) (labels_in l.self.links)) l.self.view.book.counts.turns l.turn
