-- Where a test refuses nothing is written, and otherwise the counts are the checked book's.
use Rattle.std.proofs.Common.{refl, sym, ap₂, ◌∙◌}
use Rattle.std.proofs.lemmas.Result.{err_from_is_err_and}
use Rattle.search.specs.Tests.{length_test}
use Rattle.edit.specs.Edit.{refused}
use Rattle.edit.proofs.Tested.{edit_tested}
use Rattle.edit.proofs.editing.edit.Goals as goal

pub returns-in_err-counts-clause-edited : goal.returns-in_err-counts-clause-edited
returns-in_err-counts-clause-edited c =
    let p = err_from_is_err_and c.from_residual.result c.from_residual.ensures.1 in
    let lengths = c.length_test.ensures ∙ ap₂ (length_test _) c.lent.ensures c.lent-2.ensures in
    rw (p.1, p.2) (refused _ (sym (edit_tested _ _ _ _ _ _ c.check.ensures c.node_test.ensures c.turn_test-turn_tested.ensures lengths) ∙ c.in_err-counts.was) refl refl refl refl)

pub edit_judged-requires : goal.edit_judged-requires
edit_judged-requires c =
    let lengths = c.length_test.ensures ∙ ap₂ (length_test _) c.lent.ensures c.lent-2.ensures in
    sym (edit_tested _ _ _ _ _ _ c.check.ensures c.node_test.ensures c.turn_test-turn_tested.ensures lengths) ∙ c.in_ok-counts.was
