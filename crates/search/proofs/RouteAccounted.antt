-- A done route is a permitted walk of the book, so its figures can be asked, and they add up to its label.
use Prim.Native.Nat.{ℕ}
use mathlib.Core.Path.{◌≡◌, refl, sym, ap, ◌∙◌, subst}
use mathlib.Core.List.{List}
use mathlib.Core.Bool.{true}
use native.Mathlib.Omega.{arith}
use lib.ListN.{take, drop, length}
use lib.Seq.{take_at}
use Rattle.book.specs.declared.Counts.{Counts}
use Rattle.std.specs.Prelude.{Ok}
use Rattle.book.specs.Check.{check_of}
use Rattle.walk.specs.View.{View, view_of, walks_of}
use Rattle.walk.specs.Walks.{permitted, cost_of, split_of}
use Rattle.walk.specs.Labels.{Table, NodeWalk, stays, enters, Route}
use Rattle.walk.specs.Given.{cost_of_walk, permitted_at}
use Rattle.walk.proofs.theory.Laws.{clash}
use Rattle.walk.proofs.GoodView.{good_view}
use Rattle.walk.proofs.SplitLaws.{adds_up, given_costed, route_adds_up}
use Rattle.search.specs.Tests.{node_test, both_nodes}
use Rattle.search.specs.Route.{no_walk, no_room, done, Routing, refused, untrue, onward, routed, RouteAnswer}
use Rattle.search.specs.Accounted.{Accounted}
use Rattle.search.proofs.Labelling.{few}
use Rattle.search.proofs.Tested.{node_passed, length_passed}
use Rattle.search.proofs.RouteRoom.{room_serves, same_figures}

goes : (U : View) (r s : ℕ) (links : List ℕ) → NodeWalk U r s links → permitted U r links ≡ true
unfolding permitted
goes U r s links (stays e here) = rw e refl
goes U r s links (enters l walk to) = walk.goes

-- what the cost of a given walk answers for the route of two nodes
module _ (book : List ℕ) (r s : ℕ) (counts : Counts) (passed : both_nodes book r s ≡ Ok counts) (links : List ℕ) (route : Route (view_of book counts) r s links) where
  pub route_checked : check_of book ≡ Ok counts
  route_checked = (node_passed (check_of book) r counts (node_passed (node_test (check_of book) r) s counts passed).0).0

  pub route_costed : cost_of_walk book r links ≡ permitted_at (cost_of (view_of book counts) links) (split_of (view_of book counts) links)
  route_costed =
      let (origin, destination) = node_passed (node_test (check_of book) r) s counts passed in
      let (checked, node) = node_passed (check_of book) r counts origin in
      given_costed book r links counts checked node (omega (arith, (room_serves book r s counts checked links route).0)) (goes (view_of book counts) r s links route.walk)

pub done_accounted : (book : List ℕ) (r s : ℕ) (turns links : Table) (buffer : List ℕ) (cost count : ℕ) (answer : RouteAnswer) (after : List ℕ) → answer ≡ routed cost count → Routing book r s turns links buffer answer after → Accounted book r links cost (take count after)
done_accounted book r s turns links buffer cost count answer after told (refused own e a b) = clash (cc (told, a))
done_accounted book r s turns links buffer cost count answer after told (untrue own e false a b) = clash (cc (told, a))
done_accounted book r s turns links buffer cost count answer after told (onward own e labels (no_walk none a b)) = clash (cc (told, a))
done_accounted book r s turns links buffer cost count answer after told (onward own e labels (no_room walk route short a b)) = clash (cc (told, a))
done_accounted book r s turns links buffer cost count answer after told (onward own e labels (done walk route fits a b)) =
    let passed = (length_passed (both_nodes book r s) turns links own e).0 in
    let checked = route_checked book r s own passed walk route in
    let (cost_same, count_same) = same_figures a told in
    let front : take count after ≡ walk = ap (take count) b ∙ take_at walk (drop (length walk) buffer) count count_same in
    subst (Accounted book r links cost) (sym front)
    (record {
      split = split_of (view_of book own) walk;
      asked = rw (← cost_same) (route_costed book r s own passed walk route);
      adds_up = adds_up (view_of book own) walk ∙ cost_same;
      label = route_adds_up (view_of book own) (good_view book own (walks_of book own) checked) (few book own checked) r s links labels.link walk route;
    })
