-- The step is none where the turn may not come, and else the extra and what the turn costs.
use Rattle.std.proofs.Common.{sym, ◌∙◌}
use Rattle.walk.specs.steps.Pairs.{step_to}
use Rattle.walk.proofs.Viewed.step_to.Goals as goal

pub returns-then-not-may_step-clause-value : goal.returns-then-not-may_step-clause-value
unfolding step_to
returns-then-not-may_step-clause-value c = rw (sym c.may_step.ensures ∙ c.if-not-may_step.true)

pub returns-clause-value : goal.returns-clause-value
unfolding step_to
returns-clause-value c = rw (sym c.may_step.ensures ∙ c.if-not-may_step.false, c.turn_cost.ensures.value, c.from.ensures, c.seconds.ensures)
