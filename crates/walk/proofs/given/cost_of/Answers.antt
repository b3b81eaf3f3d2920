-- The check decides first.
use Rattle.std.proofs.Common.{sym, ◌∙◌}
use Rattle.std.proofs.lemmas.Result.{err_from_is_err_and}
use Rattle.walk.specs.Given.{cost_answer}
use Rattle.walk.proofs.given.cost_of.Goals as goal

pub returns-in_err-counts : goal.returns-in_err-counts
unfolding cost_answer
returns-in_err-counts c =
    let p = err_from_is_err_and c.from_residual.result c.from_residual.ensures.1 in
    rw (p.1, p.2, sym c.check.ensures ∙ c.in_err-counts.was)
