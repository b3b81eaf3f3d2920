-- The last link is stored, and the rest is read back from the turn before, with one link less.
use Rattle.std.proofs.Common.{arith}
use lib.ListN.{length-set}
use Rattle.search.proofs.TrailLaws.{traced_links, written_start, traced_back, written_back}
use Rattle.search.proofs.tracing.+read_back.Goals as goal

pub overflow_sub-at : goal.overflow_sub-at
overflow_sub-at t c = omega (arith, traced_links _ _ c.requires.traced)

pub bounds-route-from : goal.bounds-route-from
bounds-route-from t c = omega (arith, traced_links _ _ c.requires.traced)

pub bounds-route-0 : goal.bounds-route-0
bounds-route-0 t c = simp length-set (omega (arith, traced_links _ _ c.requires.traced))

pub returns-then-before : goal.returns-then-before
returns-then-before t c = rw (c.from.ensures, c.turn_first-first.ensures.value, c.turn_second-second.ensures.value) (written_start _ _ (omega arith) _ c.requires.traced (rw c.from-2.ensures at c.if-before.true))

pub read_back-requires : goal.read_back-requires
read_back-requires t c =
    (omega (arith, traced_links _ _ c.requires.traced, c.decreases), (c.requires.sized, rw (c.from.ensures, c.from-2.ensures) (simp length-set (traced_back _ _ (omega arith) c.requires.traced (rw c.from-2.ensures at c.if-before.false)))))

pub returns : goal.returns
returns t c = written_back _ _ (omega arith) _ c.requires.traced (rw c.from-2.ensures at c.if-before.false) (rw (c.from.ensures, c.from-2.ensures, c.turn_second-second.ensures.value) at c.read_back.ensures)
