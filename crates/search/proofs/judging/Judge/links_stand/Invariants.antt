-- Every link passed has stood its test.
use Rattle.walk.specs.View.{view_in}
use Rattle.search.specs.Lent.{labels_in}
use Rattle.search.specs.steps.Judging.{link_stands}
use Rattle.search.proofs.EveryBelow.{Passed}
use Rattle.search.proofs.judging.Judge.links_stand.Given as goal

abbrev pub invariant-loop-link : goal.invariant-loop-link
invariant-loop-link l = Passed (link_stands (view_in l.self.view) l.self.origin.0 l.self.turns.cost.now l.self.turns.links.now (labels_in l.self.links)) l.self.view.book.counts.links l.link
