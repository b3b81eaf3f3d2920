-- The entry follows the two tests.
use Rattle.std.proofs.Common.{sym, ◌∙◌}
use Rattle.std.proofs.lemmas.Bool.{not-true, not-false}
use borrow.Author.Tests.{eq-eqb, ne_eqb}
use Rattle.search.specs.steps.Starts.{start_entry}
use Rattle.search.proofs.starts.start_of.Goals as goal

pub returns-then-view-from : goal.returns-then-view-from
unfolding start_entry
returns-then-view-from c = rw (eq-eqb _ _ (rw c.from.ensures at c.if-view-from.true))

pub returns-then-ne : goal.returns-then-ne
unfolding start_entry
returns-then-ne c = rw (← c.turn_first-first.ensures.value, ← c.link_from-from.ensures, ne_eqb _ _ (rw c.from.ensures at c.if-view-from.false), not-true _ (sym c.ne.ensures ∙ c.if-ne.true))

pub returns : goal.returns
unfolding start_entry
returns c = rw (← c.turn_first-first.ensures.value, ← c.link_from-from.ensures, ne_eqb _ _ (rw c.from.ensures at c.if-view-from.false), not-false _ (sym c.ne.ensures ∙ c.if-ne.false), c.link_cost.ensures.value, c.turn_cost.ensures.value)
