-- The walks are the book's own, so each answer of the judge is one case of the contract.
use Rattle.std.proofs.Common.{ℕ, List, refl, subst}
use Rattle.walk.specs.View.{view_with}
use Rattle.walk.specs.Labels.{TrueLabels}
use Rattle.search.specs.Lent.{labels_in}
use Rattle.search.specs.Route.{untrue, onward}
use Rattle.search.specs.steps.Judging.{Tells}
use Rattle.search.proofs.OwnWalks.{front_seen}
use Rattle.search.proofs.Tested.{route_passed}
use Rattle.search.proofs.RouteLaws.{not_so, so}
use Rattle.search.proofs.routing.route_judged.Goals as goal

pub invariant_of-judged : goal.invariant_of-judged
invariant_of-judged c =
    let passed = route_passed _ _ _ _ _ _ c.requires in
    record { turns_sized = passed.1.0; links_sized = passed.1.1 }

pub all_true-requires : goal.all_true-requires
all_true-requires c = front_seen _ _ _ c.read_walks.ensures

pub returns-then-not-all_true : goal.returns-then-not-all_true
returns-then-not-all_true c =
    let told = subst (λ (seen : List ℕ). Tells c.all_true.result (TrueLabels (view_with c.args.book.bytes.now c.args.book.counts seen) c.args.origin.0 (labels_in c.args.turns) (labels_in c.args.links))) (front_seen _ _ _ c.read_walks.ensures) c.all_true.ensures in
    untrue _ c.requires (not_so c.all_true.result told c.if-not-all_true.true) refl refl

pub route_onward-requires : goal.route_onward-requires
route_onward-requires c =
    let told = subst (λ (seen : List ℕ). Tells c.all_true.result (TrueLabels (view_with c.args.book.bytes.now c.args.book.counts seen) c.args.origin.0 (labels_in c.args.turns) (labels_in c.args.links))) (front_seen _ _ _ c.read_walks.ensures) c.all_true.ensures in
    record {
      from = record { checked = c.args.book.good; turns = labels_in c.args.turns; backs = refl; labels = so c.all_true.result told c.if-not-all_true.false };
      own = front_seen _ _ _ c.read_walks.ensures;
    }

pub returns : goal.returns
returns c =
    let told = subst (λ (seen : List ℕ). Tells c.all_true.result (TrueLabels (view_with c.args.book.bytes.now c.args.book.counts seen) c.args.origin.0 (labels_in c.args.turns) (labels_in c.args.links))) (front_seen _ _ _ c.read_walks.ensures) c.all_true.ensures in
    onward _ c.requires (so c.all_true.result told c.if-not-all_true.false) c.route_onward.ensures
