-- What the search and the route answer is found by the book and the nodes alone, since the label buffers have their lengths and the labels between them are the search's own.
use Prim.Native.Nat.{ℕ, ◌≤◌}
use mathlib.Core.Path.{◌≡◌, refl, subst}
use mathlib.Core.List.{List}
use native.Mathlib.Omega.{arith}
use lib.ListN.{length}
use Rattle.std.specs.Prelude.{Ok, Err}
use Rattle.book.specs.declared.Counts.{Counts}
use Rattle.book.specs.declared.Refusal.{Refusal}
use Rattle.book.specs.Check.{Checked, check_of}
use Rattle.walk.specs.View.{view_of}
use Rattle.walk.specs.Labels.{Table, TrueLabels}
use Rattle.walk.proofs.theory.Laws.{clash}
use Rattle.search.specs.Tests.{node_test, both_nodes, length_test}
use Rattle.search.specs.Search.{Search, refused as search-refused, done as search-done, Searched}
use Rattle.search.specs.Route.{no_walk as none_leads, no_room, done as routed, Routing, refused as route-refused, untrue, onward, RouteAnswer}
use Rattle.search.specs.steps.Routes.{route_room}
use Rattle.search.specs.steps.Tables.{Sized}
use Rattle.search.proofs.Determined.{true_sized}
use Rattle.search.proofs.RouteRoom.{node_leaves, room_serves}
use Rattle.search.proofs.Tested.{node_passed, length_passed, lengths_fit, search_passed, route_passed}
use Rattle.sheet.specs.steps.Planning.{Found, refused, no_walk, done}
use Rattle.sheet.proofs.TestLaws.{tests_passed}

-- where the lengths fit, a refusal is that of the tests before
before_lengths : (checked : Checked) (turns links : Table) (counts : Counts) → Sized counts.turns turns → Sized counts.links links → ((own : Counts) → checked ≡ Ok own → own ≡ counts) → (found : Refusal) → length_test checked turns links ≡ Err found → checked ≡ Err found
unfolding length_test
before_lengths (Err one) turns links counts t l same found e = e
before_lengths (Ok own) turns links counts t l same found e = clash (cc (lengths_fit (Ok own) turns links own refl (rw (← same own refl) at t) (rw (← same own refl) at l), e))

module _ (book : List ℕ) (r s : ℕ) (turns links turns-after links-after : Table) (answer : Searched) (searched : Search book r turns links answer turns-after links-after) where
  -- a search of a good book with fitting buffers refuses only its origin
  pub search_found : (counts : Counts) → check_of book ≡ Ok counts → Sized counts.turns turns → Sized counts.links links → (found : Refusal) → answer ≡ Err found → (buffer : List ℕ) → Found book r s buffer (Err found) buffer
  search_found counts good turns_sized links_sized found told buffer = by searched
    where
      own_counts : (own : Counts) → node_test (check_of book) r ≡ Ok own → own ≡ counts
      own_counts own h =
          let checked = (node_passed (check_of book) r own h).0 in
          cc (checked, good)

      by : Search book r turns links answer turns-after links-after → Found book r s buffer (Err found) buffer
      by (search-refused own e a b c) =
          let origin = before_lengths (node_test (check_of book) r) turns links counts turns_sized links_sized own_counts own e in
          refused own (node_leaves _ s own origin) (cc (told, a)) refl
      by (search-done own e a labels) = clash (cc (told, a))

  -- after a search the route meets true labels of fitting lengths, and room for every walk
  module _ (told : answer ≡ Ok tt) (buffer after : List ℕ) (serves : route_room ≤ length buffer) (routing : RouteAnswer) where
    leads : (counts : Counts) → check_of book ≡ Ok counts → TrueLabels (view_of book counts) r turns-after links-after → Routing book r s turns-after links-after buffer routing after → Found book r s buffer routing after
    leads counts checked labels (route-refused own e a b) =
        refused own (before_lengths (both_nodes book r s) turns-after links-after counts (true_sized _ _ turns-after labels.turn) (true_sized _ _ links-after labels.link) own_counts own e) a b
      where
        own_counts : (one : Counts) → both_nodes book r s ≡ Ok one → one ≡ counts
        own_counts one h =
            let passed = tests_passed book r s one h in
            cc (passed, checked)
    leads counts checked labels (untrue own e false a b) =
        let passed = (route_passed book r s turns-after links-after own e).0 in
        let same : counts ≡ own = cc (passed, checked) in
        absurd (false (subst (λ (x : Counts). TrueLabels (view_of book x) r turns-after links-after) same labels))
    leads counts checked labels (onward own e true-own (none_leads none a b)) = no_walk own (length_passed (both_nodes book r s) turns-after links-after own e).0 none a b
    leads counts checked labels (onward own e true-own (no_room walk route short a b)) =
        absurd (omega (arith, (room_serves book r s own (route_passed book r s turns-after links-after own e).0 walk route).0))
    leads counts checked labels (onward own e true-own (routed walk route fits a b)) =
        done own (length_passed (both_nodes book r s) turns-after links-after own e).0 walk route a b

    pub route_found : Routing book r s turns-after links-after buffer routing after → Found book r s buffer routing after
    route_found routed-so = by searched
      where
        by : Search book r turns links answer turns-after links-after → Found book r s buffer routing after
        by (search-refused own e a b c) = clash (cc (told, a))
        by (search-done own e a labels) = leads own (search_passed book r turns links own e).0 labels routed-so
