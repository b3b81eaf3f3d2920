-- The walk, the ride and the wait are small, and their sum is the definition's.
use Rattle.std.proofs.Common.{arith, ◌+◌, ◌≤◌}
use Rattle.walk.specs.steps.Costs.{turn_cost}
use Rattle.walk.proofs.GoodView.{ridden_limit}
use Rattle.walk.proofs.Viewed.turn_cost.Goals as goal

pub overflow_add-result : goal.overflow_add-result
overflow_add-result c =
    let ridden : c.link_ride-ride.result + c.turn_wait.result ≤ 39600 = rw (c.turn_wait.ensures, c.link_ride-ride.ensures, c.turn_second-second.ensures.value) (ridden_limit c.args.self.book.bytes.now c.args.self.book.counts c.args.self.walks.now c.args.self.book.good c.args.turn.0 c.requires) in
    omega arith

pub overflow_add-result-2 : goal.overflow_add-result-2
overflow_add-result-2 c =
    let ridden : c.link_ride-ride.result + c.turn_wait.result ≤ 39600 = rw (c.turn_wait.ensures, c.link_ride-ride.ensures, c.turn_second-second.ensures.value) (ridden_limit c.args.self.book.bytes.now c.args.self.book.counts c.args.self.walks.now c.args.self.book.good c.args.turn.0 c.requires) in
    omega arith

pub returns-clause-value : goal.returns-clause-value
unfolding turn_cost
returns-clause-value c = rw (c.from-2.ensures, c.from.ensures, c.from-3.ensures, c.turn_wait.ensures, c.link_ride-ride.ensures, c.turn_second-second.ensures.value) (omega arith)

pub returns-clause-limited : goal.returns-clause-limited
returns-clause-limited c =
    let ridden : c.link_ride-ride.result + c.turn_wait.result ≤ 39600 = rw (c.turn_wait.ensures, c.link_ride-ride.ensures, c.turn_second-second.ensures.value) (ridden_limit c.args.self.book.bytes.now c.args.self.book.counts c.args.self.walks.now c.args.self.book.good c.args.turn.0 c.requires) in
    omega arith
