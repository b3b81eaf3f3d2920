-- What the tests refuse is one case of the contract, and true labels are the other.
use Rattle.std.proofs.Common.{refl, sym, ap₂, ◌∙◌}
use Rattle.std.proofs.lemmas.Result.{err_from_is_err_and}
use Rattle.search.specs.Search.{refused, done}
use Rattle.search.specs.Tests.{length_test}
use Rattle.search.proofs.Tested.{search_tested, search_passed}
use Rattle.search.proofs.searching.search.Goals as goal

pub returns-in_err-counts-clause-searched : goal.returns-in_err-counts-clause-searched
returns-in_err-counts-clause-searched c =
    let p = err_from_is_err_and c.from_residual.result c.from_residual.ensures.1 in
    let lengths = c.length_test.ensures ∙ ap₂ (length_test _) c.lent.ensures c.lent-2.ensures in
    rw (p.1, p.2) (refused _ (sym (search_tested _ _ _ _ c.check.ensures c.node_test-node_tested.ensures lengths) ∙ c.in_err-counts.was) refl refl refl)

pub carry-requires : goal.carry-requires
carry-requires c =
    let lengths = c.length_test.ensures ∙ ap₂ (length_test _) c.lent.ensures c.lent-2.ensures in
    (search_passed _ _ _ _ _ (sym (search_tested _ _ _ _ c.check.ensures c.node_test-node_tested.ensures lengths) ∙ c.in_ok-counts.was)).0

pub label_all-requires : goal.label_all-requires
label_all-requires c =
    let lengths = c.length_test.ensures ∙ ap₂ (length_test _) c.lent.ensures c.lent-2.ensures in
    let passed = search_passed _ _ _ _ _ (sym (search_tested _ _ _ _ c.check.ensures c.node_test-node_tested.ensures lengths) ∙ c.in_ok-counts.was) in
    rw c.carry.ensures.counts (record { turns_sized = passed.1.0; links_sized = passed.1.1 })

pub returns-clause-searched : goal.returns-clause-searched
returns-clause-searched c =
    let lengths = c.length_test.ensures ∙ ap₂ (length_test _) c.lent.ensures c.lent-2.ensures in
    done _ (sym (search_tested _ _ _ _ c.check.ensures c.node_test-node_tested.ensures lengths) ∙ c.in_ok-counts.was) refl (rw (c.carry.ensures.bytes, c.carry.ensures.counts) at c.label_all.ensures.labelled)
