-- What the plan found is what is printed, and its line has room.
use Rattle.std.proofs.Common.{arith}
use Rattle.sheet.proofs.Longest.{longest_plan}
use Rattle.sheet.proofs.Plans.{plan_refused, plan_led, led_planned}
use Rattle.sheet.proofs.asking.print_plan.Goals as goal

pub put_refusal-requires : goal.put_refusal-requires
put_refusal-requires c = omega (arith, longest_plan _ _ _ _ (plan_refused (c.route_planned.ensures _ _ c.plan-planned.ensures) _ c.in-Err.is), c.requires)

pub print_route-requires : goal.print_route-requires
print_route-requires c =
    let from = plan_led (c.route_planned.ensures _ _ c.plan-planned.ensures) _ c.in-Ok.is in
    rw from.origin (omega (arith, longest_plan _ _ _ _ (led_planned from.led), c.requires))

pub returns-in-Err : goal.returns-in-Err
returns-in-Err c = record { fields = _; planned = plan_refused (c.route_planned.ensures _ _ c.plan-planned.ensures) _ c.in-Err.is; put = c.put_refusal.ensures }

pub returns-in-Ok : goal.returns-in-Ok
returns-in-Ok c =
    let from = plan_led (c.route_planned.ensures _ _ c.plan-planned.ensures) _ c.in-Ok.is in
    record { fields = _; planned = led_planned from.led; put = rw from.origin at c.print_route.ensures }
