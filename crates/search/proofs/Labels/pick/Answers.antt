-- The turn held is the foremost candidate of the turns passed.
use Rattle.std.proofs.Common.{rules, arith, ◌≡◌, length}
use Rattle.search.proofs.LeastCandidate.{held_below, with_turn_lem, all_passed}
use Rattle.search.proofs.Labels.pick.Goals as goal

pub loop-turn-init : goal.loop-turn-init
loop-turn-init c = λ v h. absurd (omega (arith, h))

pub least_with-least-requires : goal.least_with-least-requires
least_with-least-requires c = record { sized = search rules; held_below = held_below _ _ _ _ _ c.loop-turn.auto.turn-end c.loop-turn.invariant }

pub loop-turn-preserved : goal.loop-turn-preserved
loop-turn-preserved c = rw c.least_with-least.ensures (with_turn_lem c.args.self.cost.now c.args.self.links.now c.args.settled.now (record { 0 = c.loop-turn.turn }) c.loop-turn.least c.loop-turn.invariant)

pub returns : goal.returns
returns c =
    let end : c.loop-turn.turn ≡ length c.args.self.cost.now = omega (arith, c.loop-turn.auto.turn-end, c.loop-turn-test.false) in
    all_passed c.args.self.cost.now c.args.self.links.now c.args.settled.now c.loop-turn.least (rw end at c.loop-turn.invariant)
