-- What the plan found is a route whose links are the front of the buffer.
use Rattle.std.proofs.Common.{refl}
use Rattle.std.proofs.lemmas.Result.{err_from_is_err_and}
use Rattle.sheet.specs.steps.Routes.{refused, done}
use Rattle.sheet.proofs.Plans.{refusal_planned, route_led}
use Rattle.sheet.proofs.routes.route_planned.Goals as goal

pub returns-in_err-routed : goal.returns-in_err-routed
returns-in_err-routed c = λ book buffer found.
    let p = err_from_is_err_and c.from_residual.result c.from_residual.ensures.1 in
    rw (p.1, p.2) (refused _ refl (refusal_planned _ _ _ _ _ _ found _ c.in_err-routed.was))

pub returns : goal.returns
returns c = λ book buffer found.
    let led = route_led _ _ _ _ _ _ _ _ found c.in_ok-routed.was in
    rw c.from.ensures (done _ refl led.counts led.passed refl led.route led.costs)
