-- What was found for the way from r to s is its plan, and the line of it is the sheet of the input.
use Prim.Native.Nat.{ℕ, ◌≤◌}
use mathlib.Core.Path.{◌≡◌, refl, sym, ap, ◌∙◌, subst}
use mathlib.Core.List.{List, [], ◌∷◌}
use native.Mathlib.Omega.{arith}
use lib.ListN.{length, take, drop}
use lib.Seq.{take_at}
use Rattle.std.specs.Prelude.{Ok, Err, Some, Result}
use Rattle.book.specs.declared.Counts.{Counts}
use Rattle.book.specs.declared.Refusal.{Refusal}
use Rattle.book.specs.Check.{number_of, place_of, check_of}
use Rattle.book.specs.Check.{Checked}
use Rattle.book.specs.declared.Refusal.TheVariants.{NoWalk}
use Rattle.walk.specs.View.{view_of}
use Rattle.walk.specs.Walks.{cost_of}
use Rattle.walk.specs.Labels.{Route}
use Rattle.walk.specs.steps.Splits.{split_in}
use Rattle.walk.proofs.theory.Laws.{clash}
use Rattle.search.specs.Tests.{both_nodes}
use Rattle.search.proofs.RouteRoom.{node_leaves, same_figures}
use Rattle.search.proofs.RouteAccounted.{route_costed}
use Rattle.search.specs.Route.{routed, RouteAnswer}
use Rattle.sheet.specs.Line.{line}
use Rattle.sheet.specs.Sheet.{route_fields, fields_of, Planned, refused, no_walk, done, Says, longest_line, Sheet, printed}
use Rattle.sheet.specs.steps.Planning.{Found, refused as found_refused, no_walk as found_none, done as found_route}
use Rattle.sheet.specs.declared.routes.RouteFound.{RouteFound}
use Rattle.sheet.specs.steps.Routes.{asked_fields, RoutePlanned, refused as none_planned, done as one_planned}
use Rattle.sheet.specs.declared.Page.{Page}
use Rattle.sheet.specs.steps.Storing.{Put}
use Rattle.sheet.proofs.StoreLaws.{whole}
use Rattle.sheet.proofs.Longest.{longest_plan, longest_line_lem}
use Rattle.sheet.specs.steps.Asking.{LinePut}

-- the fields of a refusal
abbrev pub refusal_fields : Refusal → List ℕ
refusal_fields found = number_of found ∷ place_of found ∷ []

pub book_refused : (book : List ℕ) (r s : ℕ) (found : Refusal) → check_of book ≡ Err found → Planned book r s (refusal_fields found)
book_refused book r s found e = refused found (node_leaves _ s found (node_leaves _ r found e)) refl

-- the links are the route, of this cost
pub record Led (book : List ℕ) (r s : ℕ) (links : List ℕ) (cost : ℕ) : Type 0 where
  pub counts : Counts
  pub passed : both_nodes book r s ≡ Ok counts
  pub route : Route (view_of book counts) r s links
  pub costs : cost ≡ cost_of (view_of book counts) links

module _ (book : List ℕ) (r s : ℕ) (buffer : List ℕ) (answer : RouteAnswer) (after : List ℕ) where
  pub refusal_planned : Found book r s buffer answer after → (found : Refusal) → answer ≡ Err found → Planned book r s (refusal_fields found)
  refusal_planned (found_refused own e a left) found told =
      let same : own ≡ found = cc (told, a) in
      refused own e (ap refusal_fields (sym same))
  refusal_planned (found_none counts e none a left) found told =
      let same : NoWalk ≡ found = cc (told, a) in
      no_walk counts e none (ap refusal_fields (sym same))
  refusal_planned (found_route counts e links route a left) found told = clash (cc (told, a))

  pub route_led : (cost count : ℕ) → Found book r s buffer answer after → answer ≡ routed cost count → Led book r s (take count after) cost
  route_led cost count (found_refused own e a left) told = clash (cc (told, a))
  route_led cost count (found_none counts e none a left) told = clash (cc (told, a))
  route_led cost count (found_route counts e links route a left) told =
      let (cost_same, same) = same_figures a told in
      let links_same : take count after ≡ links = ap (take count) left ∙ take_at links (drop (length links) buffer) count same in
      record {
        counts = counts;
        passed = e;
        route = subst (Route (view_of book counts) r s) (sym links_same) route;
        costs = rw (links_same) (sym cost_same);
      }

-- what is asked for the route are its own figures
module _ {book : List ℕ} {r s : ℕ} {links : List ℕ} {cost : ℕ} (led : Led book r s links cost) where
  pub led_fields : asked_fields book r cost links ≡ route_fields (view_of book led.counts) links
  led_fields =
      let asked = route_costed book r s led.counts led.passed links led.route in
      λ i. fields_of (led.costs i) (split_in (asked i)) links

  pub led_planned : Planned book r s (asked_fields book r cost links)
  led_planned = done led.counts led.passed links led.route led_fields

-- the route that is planned starts at r
pub record LedFrom (book : List ℕ) (r s : ℕ) (route : RouteFound) : Type 0 where
  pub origin : route.origin.0 ≡ r
  pub led : Led book r s route.links.now route.cost

module _ {book : List ℕ} {r s : ℕ} {answer : Result RouteFound Refusal} where
  pub plan_refused : RoutePlanned book r s answer → (found : Refusal) → answer ≡ Err found → Planned book r s (refusal_fields found)
  plan_refused (none_planned own a plan) found told =
      let same : own ≡ found = cc (told, a) in
      rw same at plan
  plan_refused (one_planned route a counts passed from leads costs) found told = clash (cc (told, a))

  pub plan_led : RoutePlanned book r s answer → (route : RouteFound) → answer ≡ Ok route → LedFrom book r s route
  plan_led (none_planned own a plan) route told = clash (cc (told, a))
  plan_led (one_planned own a counts passed from leads costs) route told =
      let same : own ≡ route = cc (told, a) in
      subst (LedFrom book r s) same (record { origin = from; led = record { counts = counts; passed = passed; route = leads; costs = costs } })

-- a line that is put from the start, and that the input says, is the sheet of the input
pub line_said : (input text left : List ℕ) {fields : List ℕ} {before after : Page} → Put before (line fields) after → before.at ≡ 0 → before.text.now ≡ text → left ≡ after.text.now → longest_line ≤ length text → Says input fields → Sheet input text (Some after.at) left
line_said input text left {fields} put start lent kept room says =
    let (stands, end) = whole put start (rw lent (omega (arith, longest_line_lem input fields says))) in
    printed room fields says (ap Some end) (kept ∙ rw lent at stands)

-- what the check refuses has its line, and is put as the plan
pub check_line : (book : List ℕ) (answer : Checked) (found : Refusal) → answer ≡ check_of book → answer ≡ Err found → length (line (refusal_fields found)) ≤ longest_line
check_line book answer found told is = longest_plan book 0 0 _ (book_refused book 0 0 found (sym told ∙ is))

pub check_put : (book : List ℕ) (r s : ℕ) (answer : Checked) (found : Refusal) {before after : Page} → answer ≡ check_of book → answer ≡ Err found → Put before (line (refusal_fields found)) after → LinePut book r s before after
check_put book r s answer found told is put = record { fields = _; planned = book_refused book r s found (sym told ∙ is); put = put }
