-- What the tests refuse is one case of the contract, or the judge goes on.
use Rattle.std.proofs.Common.{refl, sym, ◌∙◌}
use Rattle.std.proofs.lemmas.Result.{err_from_is_err_and}
use Rattle.search.specs.Route.{refused}
use Rattle.search.proofs.Tested.{route_tested, route_passed}
use Rattle.search.proofs.routing.route.Goals as goal

pub returns-in_err-counts : goal.returns-in_err-counts
returns-in_err-counts c =
    let p = err_from_is_err_and c.from_residual.result c.from_residual.ensures.1 in
    rw (p.1, p.2) (refused _ (sym (route_tested _ _ _ _ _ c.check.ensures c.node_test.ensures c.node_test-nodes_tested.ensures c.length_test.ensures) ∙ c.in_err-counts.was) refl refl)

pub carry-requires : goal.carry-requires
carry-requires c = (route_passed _ _ _ _ _ _ (sym (route_tested _ _ _ _ _ c.check.ensures c.node_test.ensures c.node_test-nodes_tested.ensures c.length_test.ensures) ∙ c.in_ok-counts.was)).0

pub route_judged-requires : goal.route_judged-requires
route_judged-requires c = rw (c.carry.ensures.bytes, c.carry.ensures.counts) (sym (route_tested _ _ _ _ _ c.check.ensures c.node_test.ensures c.node_test-nodes_tested.ensures c.length_test.ensures) ∙ c.in_ok-counts.was)

pub returns : goal.returns
returns c = rw c.carry.ensures.bytes at c.route_judged.ensures
