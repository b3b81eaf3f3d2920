-- Each pick settles one turn more, so the turns run out, and then every entry is true.
use Rattle.std.proofs.Common.{arith, ◌≡◌, ◌≤◌, ℕ, List, Bool, Option, length, take, subst}
use lib.ListN.{length-take}
use Rattle.book.specs.declared.TurnNumber.{TurnNumber}
use Rattle.walk.specs.Labels.{Table}
use Rattle.search.specs.steps.Picking.{Picks}
use Rattle.search.proofs.Buffers.{same_self, same_on}
use Rattle.search.proofs.Labelling.{set_going, picked_limits, fewer_left, goes_on, none_left}
use Rattle.search.proofs.MarkLaws.{front_unmarked, front_marked}
use Rattle.search.proofs.settling.settle_all.Goals as goal

-- the marks have room for every turn
room : (turns : ℕ) (marks : List Bool) → length (take turns marks) ≡ turns → turns ≤ length marks
room turns marks h = omega (arith, length-take turns marks, h)

-- what is picked of the labels lent is picked of the table
picked : {lent table : Table} (marks : List Bool) {answer found : Option TurnNumber} → lent ≡ table → answer ≡ found → Picks lent.cost lent.links marks answer → Picks table.cost table.links marks found
picked {lent} {table} marks {answer} {found} same is picks = subst (λ (t : Table). Picks t.cost t.links marks found) same (subst (Picks lent.cost lent.links marks) is picks)

pub settling-init : goal.settling-init
settling-init c = (set_going _ _ c.args.view.book.good _ _ c.requires.started.0 (rw c.requires.own at c.requires.started.1) (front_unmarked _ _ c.args.view.book.turns_limited), same_self _)

pub settle-requires-clause-fits : goal.settle-requires-clause-fits
settle-requires-clause-fits c = picked_limits _ _ c.args.view.book.good _ _ _ c.settling.invariant.0 c.requires.started.0 (rw c.requires.own at c.requires.started.1) _ (picked _ c.lent.ensures c.in-Some.is c.pick.ensures)

pub settling-smaller : goal.settling-smaller
settling-smaller c = rw (front_marked _ _ _ _ (room _ _ c.settling.invariant.0.marked) c.settle.ensures.marked) (fewer_left _ _ c.args.view.book.good _ _ _ c.settling.invariant.0 c.requires.started.0 (rw c.requires.own at c.requires.started.1) _ (picked _ c.lent.ensures c.in-Some.is c.pick.ensures))

pub settling-preserved : goal.settling-preserved
settling-preserved c = (goes_on _ _ c.args.view.book.good _ _ _ c.settling.invariant.0 c.requires.started.0 (rw c.requires.own at c.requires.started.1) _ (picked _ c.lent.ensures c.in-Some.is c.pick.ensures) _ _ (rw c.requires.own at c.settle.ensures.passed) (front_marked _ _ _ _ (room _ _ c.settling.invariant.0.marked) c.settle.ensures.marked), same_on c.settling.invariant.1 c.settle.ensures.same)

pub returns : goal.returns
returns c =
    record {
      settled = λ r e. rw c.requires.own (none_left _ _ c.args.view.book.good _ _ _ c.settling.invariant.0 (picked _ c.lent.ensures c.in_default.is c.pick.ensures) r (rw c.requires.own at e));
      same = c.settling.invariant.1;
    }
