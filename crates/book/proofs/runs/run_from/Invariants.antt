-- The entries below one end have smaller numbers, those from the other on do not.
use Rattle.std.proofs.Common.{◌-◌}
use Rattle.book.proofs.Halving.{Halved}
use Rattle.book.proofs.runs.run_from.Given as goal

abbrev pub invariant-halving : goal.invariant-halving
invariant-halving l = Halved l.joins.bytes.now l.joins.count l.n l.low l.high

abbrev pub decreases-halving : goal.decreases-halving
decreases-halving l = l.high - l.low
