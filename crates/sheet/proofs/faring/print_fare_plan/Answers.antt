-- What the plan found is what is printed, with its fare after it.
use Rattle.std.proofs.Common.{arith, refl}
use Rattle.sheet.specs.FareSheet.{refused}
use Rattle.sheet.proofs.Longest.{longest_plan}
use Rattle.sheet.proofs.Plans.{plan_refused, plan_led}
use Rattle.sheet.proofs.FareText.{one_line_put, lines_told}
use Rattle.sheet.proofs.FarePlans.{led_to_fare, told_planned}
use Rattle.sheet.proofs.faring.print_fare_plan.Goals as goal

pub put_refusal-requires : goal.put_refusal-requires
put_refusal-requires c = omega (arith, longest_plan _ _ _ _ (plan_refused (c.route_planned.ensures _ _ c.plan-planned.ensures) _ c.in-Err.is))

pub print_fares-requires-clause-route : goal.print_fares-requires-clause-route
print_fares-requires-clause-route c =
    let from = plan_led (c.route_planned.ensures _ _ c.plan-planned.ensures) _ c.in-Ok.is in
    rw from.origin (led_to_fare _ _ _ _ _ from.led _ c.args.book.good)

pub returns-in-Err : goal.returns-in-Err
returns-in-Err c = one_line_put _ (refused _ _ (plan_refused (c.route_planned.ensures _ _ c.plan-planned.ensures) _ c.in-Err.is) refl) c.put_refusal.ensures

pub returns-in-Ok : goal.returns-in-Ok
returns-in-Ok c =
    let from = plan_led (c.route_planned.ensures _ _ c.plan-planned.ensures) _ c.in-Ok.is in
    lines_told (told_planned _ _ _ _ _ from.led _ c.args.book.good _ _) (rw from.origin at c.print_fares.ensures)
