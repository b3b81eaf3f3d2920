-- The entry follows the one test.
use Rattle.std.proofs.Common.{sym, ◌∙◌}
use Rattle.std.proofs.lemmas.Bool.{not-true, not-false}
use Rattle.search.specs.steps.Starts.{alone_entry}
use Rattle.search.proofs.starts.alone.Goals as goal

pub returns-then-ne : goal.returns-then-ne
unfolding alone_entry
returns-then-ne c = rw (← c.link_from-from.ensures, not-true _ (sym c.ne.ensures ∙ c.if-ne.true))

pub returns : goal.returns
unfolding alone_entry
returns c = rw (← c.link_from-from.ensures, not-false _ (sym c.ne.ensures ∙ c.if-ne.false), c.link_cost.ensures.value)
