-- Over true labels the best link into the destination is the last of the route, and its trail is the route.
use Prim.Native.Nat.{ℕ, ◌≤◌, ◌<◌}
use mathlib.Core.Path.{◌≡◌, refl, sym, ap, ◌∙◌, subst}
use mathlib.Core.Logic.{inl, inr}
use mathlib.Core.List.{List, [], ◌∷◌, reverse}
use mathlib.Core.Bool.{Bool, true, false, ◌&&◌}
use native.Mathlib.Omega.{arith}
use lib.Dec.{eqb}
use lib.ListN.{length}
use borrow.Author.Tests.{eqb-true, eqb-false}
use Rattle.book.specs.declared.Counts.{Counts}
use Rattle.book.specs.declared.LinkNumber.{LinkNumber}
use Rattle.std.specs.Prelude.{Ok, Err, Some, None, Option}
use Rattle.book.specs.Entries.{link_to}
use Rattle.book.specs.Tables.{link_table}
use Rattle.book.specs.Check.{check_of}
use Rattle.walk.specs.View.{View, view_with, view_of, walks_of}
use Rattle.walk.specs.Order.{Before}
use Rattle.walk.specs.Walks.{cost_of}
use Rattle.walk.specs.Labels.{Entry, Table, start_back, no_entry, TrueLabels, stays, Route, Better, last_or, key_of}
use Rattle.walk.proofs.theory.Laws.{clash}
use Rattle.walk.proofs.GoodView.{GoodView, good_view}
use Rattle.walk.proofs.LimitedView.{limited_view}
use Rattle.search.specs.Route.{RouteOnward, no_walk, no_room, done, routed}
use Rattle.search.specs.steps.Tables.{Sized}
use Rattle.search.specs.steps.Arriving.{best_into, arrival_if, arrival_of}
use Rattle.search.specs.steps.Judging.{every_below, turn_stands, link_stands, all_stand, Tells}
use Rattle.search.specs.steps.Trails.{LinkTrail, Traced, Written}
use Rattle.search.specs.steps.Routes.{RouteFrom}
use Rattle.search.proofs.Labelling.{few}
use Rattle.search.proofs.Arrivals.{Arrived, found, nowhere, arrives}
use Rattle.search.proofs.TrailLaws.{route_trail}
use Rattle.search.proofs.Judged.{judged}
use Rattle.book.specs.declared.Refusal.TheVariants.{NoRoom, NoWalk}
use Rattle.search.specs.declared.Arrival.{Arrival}

-- what the code asked of the judge's answer
pub not_so : {A : Type 0} (answer : Bool) → Tells answer A → answer ≡ false → A → ⊥
not_so true told asked = clash (cc)
not_so false told asked = told

pub so : {A : Type 0} (answer : Bool) → Tells answer A → answer ≡ true → A
so true told asked = told
so false told asked = clash (cc)

-- the empty walk is the route from a node to itself
module _ (U : View) (r s : ℕ) (here : r ≡ s) where
  none_better : (walk : List ℕ) → Better U walk [] → ⊥
  unfolding key_of cost_of
  none_better walk (inl (inl less)) = omega (arith, less)
  none_better walk (inl (inr less)) = omega (arith, less.1)
  none_better walk (inr tie) = by (reverse walk) tie.1
    where
      by : (links : List ℕ) → Before links [] → ⊥
      by [] before = before
      by (l ∷ rest) before = before

  pub stays_here : (buffer : List ℕ) → RouteOnward U r s buffer (routed 0 0) buffer
  unfolding cost_of
  stays_here buffer = done [] (record { walk = stays refl here; best = λ walk w better. none_better walk better }) (omega arith) refl refl

module _ (book : List ℕ) (counts : Counts) (checked : check_of book ≡ Ok counts) where
  abbrev U : View
  U = view_of book counts

  good : GoodView U
  good = good_view book counts (walks_of book counts) checked

  -- the judge's two passes over a checked book
  pub book_judged : (walks : List ℕ) → walks ≡ walks_of book counts → (r : ℕ) (turns links : Table) → Sized counts.turns turns × Sized counts.links links → {turns-answer links-answer : Bool}
      → turns-answer ≡ every_below (turn_stands (view_with book counts walks) r turns links) counts.turns → links-answer ≡ every_below (link_stands U r turns.cost turns.links links) counts.links
      → Tells (turns-answer && links-answer) (TrueLabels U r turns links)
  unfolding all_stand
  book_judged walks own r turns links (sized-turns, sized-links) {turns-answer} {links-answer} a b =
      judged U good (limited_view book counts checked) (few book counts checked) r turns links sized-turns sized-links (turns-answer && links-answer) (rw (a, b, own))

-- what an arrival says of the label that it is made from
nothing_told : (e : Entry) → arrival_of e ≡ None → e.cost ≡ no_entry.cost
unfolding arrival_of
nothing_told e h = by (eqb e.cost no_entry.cost) refl h
  where
    by : (test : Bool) → eqb e.cost no_entry.cost ≡ test → arrival_if test e ≡ None → e.cost ≡ no_entry.cost
    by true own same = eqb-true _ _ own
    by false own same = clash (cc)

abbrev label_of : LinkNumber → ℕ → ℕ → Entry
label_of link cost count = record { cost = cost; links = count; back = link.0 }

link_told : (e : Entry) (link : LinkNumber) (cost count : ℕ) → arrival_of e ≡ Some (record { link = link; cost = cost; links = count }) → (e ≡ label_of link cost count) × (cost ≡ no_entry.cost → ⊥)
unfolding arrival_of
link_told e link cost count h = by (eqb e.cost no_entry.cost) refl h
  where
    by : (test : Bool) → eqb e.cost no_entry.cost ≡ test → arrival_if test e ≡ Some (record { link = link; cost = cost; links = count }) → (e ≡ label_of link cost count) × (cost ≡ no_entry.cost → ⊥)
    by true own same = clash (cc)
    by false own same =
        let figures : ◌≡◌ {A = Arrival} (record { link = record { 0 = e.back }; cost = e.cost; links = e.links }) (record { link = link; cost = cost; links = count }) = cc in
        let costs : e.cost ≡ cost = ap (λ (x : Arrival). x.cost) figures in
        let counted : e.links ≡ count = ap (λ (x : Arrival). x.links) figures in
        let number : ◌≡◌ {A = LinkNumber} (record { 0 = e.back }) link = ap (λ (x : Arrival). x.link) figures in
        (rw (← costs, ← counted, ← number), λ unreached. eqb-false _ _ own (costs ∙ unreached))

-- to another node
module _ (book : List ℕ) (counts : Counts) (r s : ℕ) (turn-back : List ℕ) (links : Table) (from : RouteFrom book counts r turn-back links) (apart : r ≡ s → ⊥)
    (answer : Option Arrival) (best : answer ≡ arrival_of (best_into (link_to (link_table book counts)) links.cost links.links s counts.links)) where
  abbrev W : View
  W = view_of book counts

  abbrev label : Entry
  label = best_into (link_to (link_table book counts)) links.cost links.links s counts.links

  arrived : Arrived W r s label
  arrived = arrives W (good book counts from.checked) (limited_view book counts from.checked) (few book counts from.checked) r s apart links from.labels.link

  pub none_leads : answer ≡ None → (buffer : List ℕ) → RouteOnward W r s buffer (Err NoWalk) buffer
  none_leads none buffer = by arrived
    where
      by : Arrived W r s label → RouteOnward W r s buffer (Err NoWalk) buffer
      by (found walk route c n b l small) = absurd (omega (arith, nothing_told label (sym best ∙ none)))
      by (nowhere absent same) = no_walk absent refl refl

  module _ (link : LinkNumber) (cost count : ℕ) (told : answer ≡ Some (record { link = link; cost = cost; links = count })) (buffer : List ℕ) where
    abbrev own : Entry
    own = label_of link cost count

    own_arrived : Arrived W r s own
    own_arrived = subst (Arrived W r s) (link_told label link cost count (sym best ∙ told)).0 arrived

    reached : own ≡ no_entry → ⊥
    reached same = (link_told label link cost count (sym best ∙ told)).1 (ap (λ (x : Entry). x.cost) same)

    pub too_long : length buffer < count → RouteOnward W r s buffer (Err NoRoom) buffer
    too_long short = by own_arrived
      where
        by : Arrived W r s own → RouteOnward W r s buffer (Err NoRoom) buffer
        by (found walk route c n b l small) = no_room walk route (omega arith) refl refl
        by (nowhere absent same) = absurd (reached same)

    -- the trail of the best link is the route
    trail : (walk : List ℕ) → Route W r s walk → link.0 ≡ last_or start_back walk → LinkTrail W turn-back links.back link.0 walk
    trail walk route b =
        subst (λ (backs : List ℕ). LinkTrail W backs links.back link.0 walk) from.backs
        (subst (λ (l : ℕ). LinkTrail W from.turns.back links.back l walk) (sym b)
        (route_trail W (good book counts from.checked) (few book counts from.checked) r s apart from.turns links from.labels walk route))

    pub trace_asked : count ≤ length buffer → Traced (LinkTrail W turn-back links.back link.0) count (length buffer)
    trace_asked room = by own_arrived
      where
        by : Arrived W r s own → Traced (LinkTrail W turn-back links.back link.0) count (length buffer)
        by (found walk route c n b l small) = record { walk = walk; leads = trail walk route b; count = sym n; fits = room }
        by (nowhere absent same) = absurd (reached same)

    pub traced_route : count ≤ length buffer → (after : List ℕ) → Written (LinkTrail W turn-back links.back link.0) buffer after → RouteOnward W r s buffer (routed cost count) after
    traced_route room after written = by own_arrived
      where
        by : Arrived W r s own → RouteOnward W r s buffer (routed cost count) after
        by (found walk route c n b l small) = done walk route (omega arith) (rw (c, n)) (written walk (trail walk route b))
        by (nowhere absent same) = absurd (reached same)
