-- What a route answers with room for every walk settles what it answers with any other buffer, since the walk is the same and only its room differs.
use Prim.Native.Nat.{ℕ, ◌≤◌, ◌<◌}
use mathlib.Core.Path.{◌≡◌, refl, sym, ap, ◌∙◌}
use mathlib.Core.List.{List, ◌++◌, map}
use mathlib.Core.Bool.{true}
use native.Mathlib.Omega.{arith}
use lib.Dec.{ltb}
use lib.ListN.{length, take, drop, length-append}
use lib.Seq.{take_at}
use Rattle.book.specs.declared.Counts.{Counts}
use Rattle.book.specs.declared.Refusal.{Refusal}
use Rattle.std.specs.Prelude.{Ok, Err}
use Rattle.book.specs.Check.{Checked, check_of}
use Rattle.book.proofs.Limits.{both}
use Rattle.walk.specs.View.{View, view_of, walks_of}
use Rattle.walk.specs.Walks.{all, permitted, cost_of}
use Rattle.walk.specs.Labels.{Table, NodeWalk, stays, enters, Route}
use Rattle.walk.proofs.theory.Laws.{clash}
use Rattle.walk.proofs.GoodView.{good_view}
use Rattle.walk.proofs.LimitedView.{limited_view}
use Rattle.walk.proofs.ChosenLaws.{route_bounded}
use Rattle.search.specs.Tests.{node_test, length_test}
use Rattle.search.specs.Route.{no_walk, no_room, done, Routing, refused, untrue, onward, routed, RouteAnswer, route_given_back}
use Rattle.search.specs.steps.Routes.{route_room}
use Rattle.search.proofs.Tested.{route_passed}
use Rattle.book.specs.declared.Refusal.TheVariants.{NoRoom}

-- what an earlier test refuses, the later ones leave
pub node_leaves : (checked : Checked) (node : ℕ) (found : Refusal) → checked ≡ Err found → node_test checked node ≡ Err found
unfolding node_test
node_leaves checked node found e = rw e

pub length_leaves : (checked : Checked) (turns links : Table) (found : Refusal) → checked ≡ Err found → length_test checked turns links ≡ Err found
unfolding length_test
length_leaves checked turns links found e = rw e

-- every link of a permitted walk exists
pub links_exist : (U : View) (r s : ℕ) (links : List ℕ) → NodeWalk U r s links → all (map (λ l. ltb l U.links) links) ≡ true
unfolding permitted
links_exist U r s links (stays e h) = rw e refl
links_exist U r s links (enters l walk h) =
    let (rest, follow) = both _ _ walk.goes in
    let (rest, opened) = both _ _ rest in
    let (rest, listed) = both _ _ rest in
    let (rest, meet) = both _ _ rest in
    (both _ _ rest).0

-- a buffer of this room serves every route, and no route costs more
module _ (book : List ℕ) (r s : ℕ) (counts : Counts) (checked : check_of book ≡ Ok counts) (walk : List ℕ) (route : Route (view_of book counts) r s walk) where
  pub room_serves : (length walk ≤ route_room) × (cost_of (view_of book counts) walk ≤ 191728800)
  room_serves = route_bounded (view_of book counts) (good_view book counts (walks_of book counts) checked) r (limited_view book counts checked) s walk route

-- answers that are one have one cost and one number of links
pub same_figures : {answer : RouteAnswer} {cost count cost_too count_too : ℕ} → answer ≡ routed cost count → answer ≡ routed cost_too count_too → (cost ≡ cost_too) × (count ≡ count_too)
same_figures one other =
    let same = sym one ∙ other in
    (ap (λ (x : RouteAnswer). (route_given_back x).cost) same, ap (λ (x : RouteAnswer). (route_given_back x).links) same)

module _ (book : List ℕ) (r s : ℕ) (turns links : Table) (buffer : List ℕ) where
  -- what the check of the book refuses, the route refuses
  pub check_refuses : (found : Refusal) → check_of book ≡ Err found → Routing book r s turns links buffer (Err found) buffer
  check_refuses found e = refused found (length_leaves _ turns links found (node_leaves _ s found (node_leaves _ r found e))) refl refl

  -- a walk that was found with room for it is found with any buffer that has room, and is 15 with any other
  pub record Elsewhere (after : List ℕ) (counts : Counts) (cost count : ℕ) : Type 0 where
    pub within : count ≤ length after
    pub front : length (take count after) ≡ count
    pub few : count ≤ route_room
    pub exist : all (map (λ l. ltb l counts.links) (take count after)) ≡ true
    pub serves : count ≤ length buffer → Routing book r s turns links buffer (routed cost count) (take count after ++ drop count buffer)
    pub short : length buffer < count → Routing book r s turns links buffer (Err NoRoom) buffer

  module _ (room after : List ℕ) where
    -- a refusal with room for every walk is one with any buffer
    pub refused_elsewhere : (found : Refusal) (answer : RouteAnswer) → answer ≡ Err found → route_room ≤ length room → Routing book r s turns links room answer after → Routing book r s turns links buffer (Err found) buffer
    refused_elsewhere found answer told serves (refused own e a b) = refused own e (sym told ∙ a) refl
    refused_elsewhere found answer told serves (untrue counts e false a b) = untrue counts e false (sym told ∙ a) refl
    refused_elsewhere found answer told serves (onward counts e labels (no_walk none a b)) = onward counts e labels (no_walk none (sym told ∙ a) refl)
    refused_elsewhere found answer told serves (onward counts e labels (no_room walk route short a b)) =
        absurd (omega (arith, (room_serves book r s counts (route_passed book r s turns links counts e).0 walk route).0))
    refused_elsewhere found answer told serves (onward counts e labels (done walk route fits a b)) = clash (cc (told, a))

    pub found_elsewhere : (counts : Counts) → check_of book ≡ Ok counts → (cost count : ℕ) (answer : RouteAnswer) → answer ≡ routed cost count → Routing book r s turns links room answer after → Elsewhere after counts cost count
    found_elsewhere counts checked cost count answer told (refused own e a b) = clash (cc (told, a))
    found_elsewhere counts checked cost count answer told (untrue own e false a b) = clash (cc (told, a))
    found_elsewhere counts checked cost count answer told (onward own e labels (no_walk none a b)) = clash (cc (told, a))
    found_elsewhere counts checked cost count answer told (onward own e labels (no_room walk route short a b)) = clash (cc (told, a))
    found_elsewhere counts checked cost count answer told (onward own e labels (done walk route fits a b)) =
        let passed = (route_passed book r s turns links own e).0 in
        let same : own ≡ counts = cc (passed, checked) in
        let (cost_same, count_same) = same_figures a told in
        let front : take count after ≡ walk = ap (take count) b ∙ take_at walk (drop (length walk) room) count count_same in
        let few = (room_serves book r s own passed walk route).0 in
        record {
          within = omega (arith, ap length b, length-append walk (drop (length walk) room));
          front = ap length front ∙ count_same;
          few = omega arith;
          exist = rw (front, ← same) (links_exist (view_of book own) r s walk route.walk);
          serves = λ h. onward own e labels (done walk route (omega arith) (rw (cost_same, count_same)) (rw (front, count_same)));
          short = λ h. onward own e labels (no_room walk route (omega arith) refl refl);
        }
