-- A link without a back is the whole walk; any other ends the walk of its back turn.
use Rattle.std.proofs.Common.{arith}
use Rattle.search.proofs.TrailLaws.{link_traced, written_one, traced_last, written_last}
use Rattle.search.proofs.tracing.trace.Goals as goal

pub bounds-link_back-from : goal.bounds-link_back-from
bounds-link_back-from c = omega (arith, link_traced _ _ _ c.requires.traced)

pub bounds-route-0 : goal.bounds-route-0
bounds-route-0 c = omega (arith, link_traced _ _ _ c.requires.traced)

pub returns-then-turn : goal.returns-then-turn
returns-then-turn c = written_one _ _ _ (omega arith) _ (link_traced _ _ _ c.requires.traced).1 (rw c.from.ensures at c.if-turn.true)

pub read_back-requires : goal.read_back-requires
read_back-requires c = record { sized = c.requires.sized.0; traced = rw c.from.ensures (traced_last _ _ _ (omega arith) c.requires.traced (rw c.from.ensures at c.if-turn.false)) }

pub returns : goal.returns
returns c = written_last _ _ _ (omega arith) (rw c.from.ensures at c.if-turn.false) (rw c.from.ensures at c.read_back.ensures)
