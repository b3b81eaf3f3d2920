-- Ride and wait of a checked book's link are small enough that their sum fits.
use Rattle.std.proofs.Common.{arith, []}
use Rattle.walk.proofs.GoodView.{link_limit}
use Rattle.walk.proofs.steps.link_cost.Goals as goal

pub overflow_add-result : goal.overflow_add-result
overflow_add-result c = omega (arith, c.link_wait.ensures, c.link_ride-ride.ensures, link_limit c.args.book.bytes.now c.args.book.counts [] c.args.book.good c.args.link.0 c.requires)

pub returns-clause-limited : goal.returns-clause-limited
returns-clause-limited c = omega (arith, c.link_wait.ensures, c.link_ride-ride.ensures, link_limit c.args.book.bytes.now c.args.book.counts [] c.args.book.good c.args.link.0 c.requires)
