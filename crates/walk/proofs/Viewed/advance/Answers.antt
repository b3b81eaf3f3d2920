-- The turn that the link makes says whether the link may come; what stands before it says what the link adds.
use Rattle.walk.proofs.NextLink.{missing_stops, barred_stops, goes_onward}
use Rattle.walk.proofs.Viewed.advance.Goals as goal

pub returns-in_err-turn : goal.returns-in_err-turn
returns-in_err-turn c = rw c.from_residual.ensures (missing_stops c.args.self.book.bytes.now c.args.self.book.counts c.args.self.walks.now c.args.self.book.good c.args.before c.args.last.0 c.args.link.0 c.in_err-turn.ensures)

pub returns-then-not-may_step : goal.returns-then-not-may_step
returns-then-not-may_step c = barred_stops c.args.self.book.bytes.now c.args.self.book.counts c.args.self.walks.now c.args.self.book.good c.args.before c.args.last.0 c.args.link.0 c.in_ok-turn.ensures c.stands_after-stands.ensures c.may_step.ensures c.if-not-may_step.true

pub returns : goal.returns
returns c = goes_onward c.args.self.book.bytes.now c.args.self.book.counts c.args.self.walks.now c.args.self.book.good c.args.before c.args.last.0 c.args.link.0 c.in_ok-turn.ensures c.stands_after-stands.ensures c.may_step.ensures c.if-not-may_step.false c.turn_split.ensures
