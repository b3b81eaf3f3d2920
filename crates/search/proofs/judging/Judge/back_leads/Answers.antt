-- Where each test holds, the step decides.
use Rattle.std.proofs.Common.{refl, sym, ◌∙◌}
use Rattle.std.proofs.lemmas.Bool.{not-false}
use borrow.Author.Tests.{eqb-true}
use Rattle.search.proofs.Overtaking.{leads_barred, leads_stepped}
use Rattle.search.proofs.judging.Judge.back_leads.Goals as goal

pub returns-in-None : goal.returns-in-None
returns-in-None c = leads_barred _ _ _ _ _ _ _ (rw c.from.ensures at c.if-self-from.false) (rw c.from-2.ensures at c.at-before.ensures) (sym c.limited.ensures ∙ c.if-not-limited.false) (sym c.turn_second-second.ensures.value ∙ eqb-true _ _ (not-false _ (sym c.ne.ensures ∙ c.if-ne.false)) ∙ c.turn_first-first.ensures.value) c.between_turns-stands.ensures refl (rw c.in-None.is at c.onward_to.ensures)

pub returns-in-Some : goal.returns-in-Some
returns-in-Some c =
    let offered = rw c.in-Some.is at c.onward_to.ensures in
    leads_stepped _ _ _ _ _ _ _ (rw c.from.ensures at c.if-self-from.false) (rw c.from-2.ensures at c.at-before.ensures) (sym c.limited.ensures ∙ c.if-not-limited.false) (sym c.turn_second-second.ensures.value ∙ eqb-true _ _ (not-false _ (sym c.ne.ensures ∙ c.if-ne.false)) ∙ c.turn_first-first.ensures.value) c.between_turns-stands.ensures refl offered.0 offered.1 (rw offered.2 at c.same_as.ensures)
