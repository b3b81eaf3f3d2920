-- The followers passed are not overtaken, and the pairs passed are theirs.
use Rattle.search.specs.Lent.{labels_in}
use Rattle.search.proofs.NoneOvertaken.{NoneOvertaken}
use Rattle.search.proofs.judging.Judge.followers_stand.Given as goal

abbrev pub invariant-loop-turn : goal.invariant-loop-turn
invariant-loop-turn l = NoneOvertaken l.self.view.book.bytes.now l.self.view.book.counts l.self.view.walks.now l.before.0 l.label.cost l.label.links (labels_in l.self.turns) l.start l.end l.initial.at l.to l.at l.turn
