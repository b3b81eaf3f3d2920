-- The turn held is the foremost candidate of the turns passed.
use Rattle.search.proofs.LeastCandidate.{Holding}
use Rattle.search.proofs.Labels.pick.Given as goal

abbrev pub invariant-loop-turn : goal.invariant-loop-turn
invariant-loop-turn l = Holding l.self.cost.now l.self.links.now l.settled l.turn l.least
