-- What a sheet answers and leaves is fixed by the input and the text, since the tests have one answer and a good book has one route.
use Prim.Native.Nat.{ℕ}
use mathlib.Core.Path.{◌≡◌, sym, ◌∙◌, subst}
use mathlib.Core.List.{List}
use native.Mathlib.Omega.{arith}
use Rattle.std.specs.Prelude.{Ok, Option}
use Rattle.book.specs.declared.Counts.{Counts}
use Rattle.walk.specs.View.{view_of, walks_of}
use Rattle.walk.specs.Labels.{Route}
use Rattle.walk.proofs.theory.Laws.{clash}
use Rattle.walk.proofs.GoodView.{good_view}
use Rattle.walk.proofs.LabelLaws.{route_one}
use Rattle.search.specs.Tests.{both_nodes}
use Rattle.sheet.specs.Sheet.{origin_of, destination_of, book_of, Planned, refused, no_walk, done, Says, short, asked, Sheet, no_room, printed}
use Rattle.sheet.proofs.TestLaws.{tests_passed}

module _ (book : List ℕ) (r s : ℕ) where
  pub counts_one : (counts other : Counts) → both_nodes book r s ≡ Ok counts → both_nodes book r s ≡ Ok other → other ≡ counts
  counts_one counts other a b = cc

  abbrev pub RouteIn : List ℕ → Counts → Type 0
  RouteIn links counts = Route (view_of book counts) r s links

  pub one_route : (counts : Counts) → both_nodes book r s ≡ Ok counts → (links other : List ℕ) → RouteIn links counts → RouteIn other counts → links ≡ other
  one_route counts h links other a b = route_one (view_of book counts) (good_view book counts (walks_of book counts) (tests_passed book r s counts h)) r s links other a b

  -- one way through one book has one line
  pub plan_one : (fields other : List ℕ) → Planned book r s fields → Planned book r s other → fields ≡ other
  plan_one fields other (refused found e f) (refused found' e' g) = cc
  plan_one fields other (refused found e f) (no_walk counts e' none g) = clash (cc)
  plan_one fields other (refused found e f) (done counts e' links route g) = clash (cc)
  plan_one fields other (no_walk counts e none f) (refused found e' g) = clash (cc)
  plan_one fields other (no_walk counts e none f) (no_walk counts' e' none' g) = f ∙ sym g
  plan_one fields other (no_walk counts e none f) (done counts' e' links route g) = absurd (none links (subst (RouteIn links) (counts_one counts counts' e e') route).walk)
  plan_one fields other (done counts e links route f) (refused found e' g) = clash (cc)
  plan_one fields other (done counts e links route f) (no_walk counts' e' none g) = absurd (none links (subst (RouteIn links) (counts_one counts' counts e' e) route).walk)
  plan_one fields other (done counts e links route f) (done counts' e' links' route' g) =
      let same : counts' ≡ counts = counts_one counts counts' e e' in
      let links_same : links ≡ links' = one_route counts e links links' route (subst (RouteIn links') same route') in
      cc

-- one input has one line
pub says_one : (input fields other : List ℕ) → Says input fields → Says input other → fields ≡ other
says_one input fields other (short l f) (short m g) = f ∙ sym g
says_one input fields other (short l f) (asked m plan) = absurd (omega arith)
says_one input fields other (asked l plan) (short m g) = absurd (omega arith)
says_one input fields other (asked l plan) (asked m plan') = plan_one (book_of input) (origin_of input) (destination_of input) fields other plan plan'

-- two outcomes that the contract of a sheet allows for one input and text are equal
pub sheet_determined : (input text : List ℕ) (one other : Option ℕ) (after after-other : List ℕ) → Sheet input text one after → Sheet input text other after-other → (one ≡ other) × (after ≡ after-other)
sheet_determined input text one other after after' (no_room h a b) (no_room h' a' b') = (a ∙ sym a', b ∙ sym b')
sheet_determined input text one other after after' (no_room h a b) (printed h' fields says a' b') = absurd (omega arith)
sheet_determined input text one other after after' (printed h fields says a b) (no_room h' a' b') = absurd (omega arith)
sheet_determined input text one other after after' (printed h fields says a b) (printed h' fields' says' a' b') =
    let same : fields ≡ fields' = says_one input fields fields' says says' in
    (a ∙ rw (same) (sym a'), b ∙ rw (same) (sym b'))
