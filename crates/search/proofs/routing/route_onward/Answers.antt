-- Each end of the code is one case of the route by its walks.
use Rattle.std.proofs.Common.{sym, ◌∙◌}
use borrow.Author.Tests.{eqb-true, eqb-false}
use Rattle.search.proofs.RouteLaws.{stays_here, none_leads, too_long, trace_asked, traced_route}
use Rattle.search.proofs.routing.route_onward.Goals as goal

pub returns-then-eq : goal.returns-then-eq
returns-then-eq c = stays_here _ _ _ (eqb-true _ _ (sym c.eq.ensures ∙ c.if-eq.true)) _

pub returns-in_default : goal.returns-in_default
returns-in_default c = none_leads _ _ _ _ _ _ c.requires.from (eqb-false _ _ (sym c.eq.ensures ∙ c.if-eq.false)) _ c.best_into.ensures c.in_default.is _

pub returns-then-route-from : goal.returns-then-route-from
returns-then-route-from c = too_long _ _ _ _ _ _ c.requires.from (eqb-false _ _ (sym c.eq.ensures ∙ c.if-eq.false)) _ c.best_into.ensures _ _ _ c.in-Some.is _ (rw c.from.ensures at c.if-route-from.true)

pub trace-requires-clause-traced : goal.trace-requires-clause-traced
trace-requires-clause-traced c = rw c.requires.own (trace_asked _ _ _ _ _ _ c.requires.from (eqb-false _ _ (sym c.eq.ensures ∙ c.if-eq.false)) _ c.best_into.ensures _ _ _ c.in-Some.is c.args.route.now (rw c.from.ensures at c.if-route-from.false))

pub returns : goal.returns
returns c = traced_route _ _ _ _ _ _ c.requires.from (eqb-false _ _ (sym c.eq.ensures ∙ c.if-eq.false)) _ c.best_into.ensures _ _ _ c.in-Some.is _ (rw c.from.ensures at c.if-route-from.false) _ (rw c.requires.own at c.trace.ensures)
