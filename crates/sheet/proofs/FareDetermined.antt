-- What a fare sheet answers and leaves is fixed by the input and the text, since the plan is one and its fares are good or not.
use Prim.Native.Nat.{ℕ}
use mathlib.Core.Path.{◌≡◌, refl, sym, ap, ◌∙◌, subst}
use mathlib.Core.List.{List, [], ◌∷◌}
use native.Mathlib.Omega.{arith}
use Rattle.std.specs.Prelude.{Ok, Option}
use Rattle.book.specs.declared.Counts.{Counts}
use Rattle.walk.specs.View.{view_of}
use Rattle.walk.specs.Labels.{Route}
use Rattle.walk.proofs.theory.Laws.{clash}
use Rattle.search.specs.Tests.{both_nodes}
use Rattle.fare.specs.declared.Terms.{Terms}
use Rattle.sheet.specs.Sheet.{origin_of, destination_of, route_fields, Planned, done as planned}
use Rattle.sheet.specs.FareSheet.{book_in, table_in, terms_of, FarePlanned, refused, bad_fares, done, FareSays, short, asked, FareSheet, no_room, printed}
use Rattle.sheet.proofs.Determined.{counts_one, RouteIn, one_route, plan_one}

module _ (book : List ℕ) (r s : ℕ) where
  -- a refusal's line has two fields, and a route's has more
  not_both : (number place : ℕ) → Planned book r s (number ∷ place ∷ []) → (counts : Counts) → both_nodes book r s ≡ Ok counts → (links : List ℕ) → Route (view_of book counts) r s links → ⊥
  not_both number place plan counts e links route =
      let same : number ∷ place ∷ [] ≡ route_fields (view_of book counts) links = plan_one book r s _ _ plan (planned counts e links route refl) in
      clash (cc)

  module _ (table : List ℕ) (terms : Terms) where
    -- one way with one table has one text
    pub fare_plan_one : (lines other : List (List ℕ)) → FarePlanned book r s table terms lines → FarePlanned book r s table terms other → lines ≡ other
    fare_plan_one lines other (refused n p plan f) (refused n' p' plan' g) = f ∙ ap (λ (fields : List ℕ). fields ∷ []) (plan_one book r s _ _ plan plan') ∙ sym g
    fare_plan_one lines other (refused n p plan f) (bad_fares counts e links route bad g) = absurd (not_both n p plan counts e links route)
    fare_plan_one lines other (refused n p plan f) (done counts e links route good g) = absurd (not_both n p plan counts e links route)
    fare_plan_one lines other (bad_fares counts e links route bad f) (refused n p plan g) = absurd (not_both n p plan counts e links route)
    fare_plan_one lines other (bad_fares counts e links route bad f) (bad_fares counts' e' links' route' bad' g) = f ∙ sym g
    fare_plan_one lines other (bad_fares counts e links route bad f) (done counts' e' links' route' good g) =
        let same : counts' ≡ counts = counts_one book r s counts counts' e e' in
        clash (cc)
    fare_plan_one lines other (done counts e links route good f) (refused n p plan g) = absurd (not_both n p plan counts e links route)
    fare_plan_one lines other (done counts e links route good f) (bad_fares counts' e' links' route' bad g) =
        let same : counts' ≡ counts = counts_one book r s counts counts' e e' in
        clash (cc)
    fare_plan_one lines other (done counts e links route good f) (done counts' e' links' route' good' g) =
        let same : counts' ≡ counts = counts_one book r s counts counts' e e' in
        let links_same : links ≡ links' = one_route book r s counts e links links' route (subst (RouteIn book r s links') same route') in
        f ∙ rw (← same, links_same) (sym g)

-- one input has one text
pub fare_says_one : (input : List ℕ) (lines other : List (List ℕ)) → FareSays input lines → FareSays input other → lines ≡ other
fare_says_one input lines other (short l f) (short m g) = f ∙ sym g
fare_says_one input lines other (short l f) (asked m plan) = absurd (omega arith)
fare_says_one input lines other (asked l plan) (short m g) = absurd (omega arith)
fare_says_one input lines other (asked l plan) (asked m plan') = fare_plan_one (book_in input) (origin_of input) (destination_of input) (table_in input) (terms_of input) lines other plan plan'

-- two outcomes that the contract of a fare sheet allows for one input and text are equal
pub fare_sheet_determined : (input text : List ℕ) (one other : Option ℕ) (after after-other : List ℕ) → FareSheet input text one after → FareSheet input text other after-other → (one ≡ other) × (after ≡ after-other)
fare_sheet_determined input text one other after after' (no_room h a b) (no_room h' a' b') = (a ∙ sym a', b ∙ sym b')
fare_sheet_determined input text one other after after' (no_room h a b) (printed h' lines says a' b') = absurd (omega arith)
fare_sheet_determined input text one other after after' (printed h lines says a b) (no_room h' a' b') = absurd (omega arith)
fare_sheet_determined input text one other after after' (printed h lines says a b) (printed h' lines' says' a' b') =
    let same : lines ≡ lines' = fare_says_one input lines lines' says says' in
    (a ∙ rw (same) (sym a'), b ∙ rw (same) (sym b'))
