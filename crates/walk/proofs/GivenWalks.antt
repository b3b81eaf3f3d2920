-- A given walk is followed link by link: so far it is permitted, with the four figures so far, and where a step is barred no walk that begins so is permitted.
use Prim.Native.Nat.{ℕ, ◌+◌, ◌-◌, ◌*◌, ◌≤◌, ◌<◌}
use mathlib.Core.Path.{◌≡◌, refl, sym, ap, ◌∙◌, subst}
use mathlib.Core.List.{List, [], ◌∷◌, ◌++◌, reverse, reverse-append, reverse-reverse}
use mathlib.Core.Bool.{Bool, true, false}
use native.Mathlib.Omega.{arith}
use native.Mathlib.Numerals.{add-one}
use lib.ListN.{length, get_or, take, drop, take-append-drop}
use lib.Seq.{take-suc, take_all}
use borrow.Author.Tests.{lt-ltb, eq-eqb, ltb-true, eqb-true}
use Rattle.book.specs.declared.Counts.{Counts}
use Rattle.std.specs.Prelude.{Option, Some, None, Ok, Err, IfSome}
use Rattle.book.specs.declared.TurnNumber.{TurnNumber}
use Rattle.book.specs.Check.{check_of}
use Rattle.book.proofs.Limits.{both}
use Rattle.walk.specs.declared.Split.{Split}
use Rattle.walk.specs.declared.NoCost.TheVariants.{NotPermitted}
use Rattle.walk.specs.declared.Added.{Added}
use Rattle.walk.specs.Given.{Answer, permitted_at}
use Rattle.walk.specs.View.{View, view_with, walks_of}
use Rattle.walk.specs.Walks.{turn_of, permitted, cost_of, split_of, total}
use Rattle.walk.specs.steps.Splits.{no_split, link_split, together}
use Rattle.walk.specs.steps.Backwards.{turns_back, permitted_back, split_back, step_permitted, step_split}
use Rattle.walk.specs.steps.Onward.{numbered, turns_so_far, advanced, one_more, walk_answer}
use Rattle.walk.proofs.theory.Laws.{refuted}
use Rattle.walk.proofs.Backwards.{permitted_reverse, split_reverse}
use Rattle.walk.proofs.GoodView.{turn_links}
use Rattle.walk.proofs.Growth.{and_true, total_together, permitted_more, split_more, permitted_one, split_one, step_tests}
use Rattle.walk.proofs.ChosenLaws.{Limited}
use Rattle.walk.proofs.LimitedView.{limited_view}
use Rattle.walk.proofs.StepLimit.{step_limit}

-- of the turns so far a step asks the last alone
abbrev last_turn : List ℕ → List ℕ
last_turn [] = []
last_turn (p ∷ rest) = p ∷ []

-- after k of the links: the last of them, the turn before, and the four figures
pub record Along (U : View) (r : ℕ) (links : List ℕ) (last : ℕ) (before : Option TurnNumber) (split : Split) (k : ℕ) : Type 0 where
  pub earlier : List ℕ
  pub so_far : reverse (take k links) ≡ last ∷ earlier
  pub goes : permitted_back U r (last ∷ earlier) ≡ true
  pub figures : split ≡ split_back U (last ∷ earlier)
  pub turn : turns_so_far before ≡ last_turn (turns_back U (last ∷ earlier))
  pub listed : IfSome before (λ p. p.0 < U.turns)
  pub within : k ≤ length links
  pub limit : total split ≤ 46800 * k

onward_says : (goes : Bool) (t : ℕ) (s : Split) {added : Added} → advanced goes t s ≡ Some added → (goes ≡ true) × (added.turn ≡ numbered t) × (added.split ≡ s)
onward_says true t s e = (refl, cc, cc)
onward_says false t s e = (cc, cc, cc)

stopped_says : (goes : Bool) (t : ℕ) (s : Split) → advanced goes t s ≡ None → goes ≡ false
stopped_says true t s e = cc
stopped_says false t s e = refl

one_more_link : (links : List ℕ) (k : ℕ) → k < length links → reverse (take (k + 1) links) ≡ get_or links k 0 ∷ reverse (take k links)
one_more_link links k h = rw (add-one, take-suc links k 0 h) (reverse-append (take k links) (get_or links k 0 ∷ []))

module _ (U : View) where
  step_last : (b a : ℕ) (turns : List ℕ) → step_permitted U b a turns ≡ step_permitted U b a (last_turn turns)
  unfolding step_permitted
  step_last b a [] = refl
  step_last b a (p ∷ rest) = refl

  step_split_last : (b a : ℕ) (turns : List ℕ) → step_split U b a turns ≡ step_split U b a (last_turn turns)
  unfolding step_split
  step_split_last b a [] = refl
  step_split_last b a (p ∷ rest) = refl

  module _ (r : ℕ) where
    permitted_back_lem : (links : List ℕ) → permitted U r links ≡ permitted_back U r (reverse links)
    permitted_back_lem links = ap (permitted U r) (sym (reverse-reverse links)) ∙ permitted_reverse U r (reverse links)

    split_back_lem : (links : List ℕ) → split_of U links ≡ split_back U (reverse links)
    split_back_lem links = ap (split_of U) (sym (reverse-reverse links)) ∙ split_reverse U (reverse links)

    -- a permitted walk is permitted up to each of its links
    up_to : (later : List ℕ) (a : ℕ) (earlier : List ℕ) → permitted_back U r (later ++ (a ∷ earlier)) ≡ true → permitted_back U r (a ∷ earlier) ≡ true
    up_to [] a earlier h = h
    up_to (b ∷ []) a earlier h = (both _ _ (sym (permitted_more U r b a earlier) ∙ h)).0
    up_to (b ∷ c ∷ later) a earlier h = up_to (c ∷ later) a earlier (both _ _ (sym (permitted_more U r b c (later ++ (a ∷ earlier))) ∙ h)).0

    pub permitted_so_far : (links : List ℕ) (k a : ℕ) (earlier : List ℕ) → reverse (take k links) ≡ a ∷ earlier → permitted U r links ≡ true → permitted_back U r (a ∷ earlier) ≡ true
    permitted_so_far links k a earlier e h =
        let whole : reverse links ≡ reverse (drop k links) ++ (a ∷ earlier) = ap reverse (sym (take-append-drop k links)) ∙ reverse-append (take k links) (drop k links) ∙ ap (λ (l : List ℕ). reverse (drop k links) ++ l) e in
        up_to (reverse (drop k links)) a earlier (ap (permitted_back U r) (sym whole) ∙ sym (permitted_back_lem links) ∙ h)

    pub no_links : (links : List ℕ) → length links ≡ 0 → permitted_at 0 no_split ≡ walk_answer U r links
    unfolding walk_answer permitted cost_of
    no_links [] e = refl
    no_links (l ∷ rest) e = absurd (omega arith)

    not_permitted : (links : List ℕ) → (permitted U r links ≡ true → ⊥) → Err NotPermitted ≡ walk_answer U r links
    unfolding walk_answer
    not_permitted links h = rw (refuted (permitted U r links) h)

    -- the first link does not exist or leaves another node
    pub no_start : (links : List ℕ) → 0 < length links → ((get_or links 0 0 < U.links) × (U.from (get_or links 0 0) ≡ r) → ⊥) → Err NotPermitted ≡ walk_answer U r links
    no_start links h n =
        not_permitted links (λ p.
        let (exists, leaves) = both _ _ (sym (permitted_one U r (get_or links 0 0)) ∙ permitted_so_far links 1 (get_or links 0 0) [] (one_more_link links 0 h) p) in
        n (ltb-true _ _ exists, eqb-true _ _ leaves))

-- the walk of a checked book with its own walks
module _ (book : List ℕ) (counts : Counts) (walks : List ℕ) (checked : check_of book ≡ Ok counts) (own : walks ≡ walks_of book counts) (links : List ℕ) where
  abbrev U : View
  U = view_with book counts walks

  limited : Limited U
  limited = subst (λ (seen : List ℕ). Limited (view_with book counts seen)) (sym own) (limited_view book counts checked)

  pub set_out : (split : Split) → 0 < length links → get_or links 0 0 < counts.links → split ≡ link_split U (get_or links 0 0) → Along U (U.from (get_or links 0 0)) links (get_or links 0 0) None split 1
  set_out split h l e =
      record {
        earlier = [];
        so_far = one_more_link links 0 h;
        goes = permitted_one U (U.from (get_or links 0 0)) (get_or links 0 0) ∙ and_true (lt-ltb _ _ l) (eq-eqb (U.from (get_or links 0 0)) (U.from (get_or links 0 0)) refl);
        figures = e ∙ sym (split_one U (U.from (get_or links 0 0)) (get_or links 0 0));
        turn = refl;
        listed = tt;
        within = omega arith;
        limit = omega (arith, ap total e, limited.link (get_or links 0 0) l);
      }

  module _ (r : ℕ) {last : ℕ} {before : Option TurnNumber} {split : Split} {k : ℕ} (along : Along U r links last before split k) where
    pub arrived : length links ≤ k → permitted_at (total split) split ≡ walk_answer U r links
    unfolding walk_answer cost_of
    arrived h =
        let e : reverse links ≡ last ∷ along.earlier = ap reverse (sym (take_all k links h)) ∙ along.so_far in
        let p : permitted U r links ≡ true = permitted_back_lem U r links ∙ ap (permitted_back U r) e ∙ along.goes in
        let s : split_of U links ≡ split = split_back_lem U r links ∙ ap (split_back U) e ∙ sym along.figures in
        rw p (ap (λ (own : Split). permitted_at (total own) own) (sym s))

    module _ (h : k < length links) {b : ℕ} (link : b ≡ get_or links k 0) {result : Option Added} (found : result ≡ one_more U before last b) where
      grown : reverse (take (k + 1) links) ≡ b ∷ last ∷ along.earlier
      grown = one_more_link links k h ∙ rw (← link, along.so_far)

      abbrev turns : List ℕ
      turns = turns_back U (last ∷ along.earlier)

      goes_as : step_permitted U b last turns ≡ step_permitted U b last (turns_so_far before)
      goes_as = step_last U b last turns ∙ ap (step_permitted U b last) (sym along.turn)

      adds_as : step_split U b last turns ≡ step_split U b last (turns_so_far before)
      adds_as = step_split_last U b last turns ∙ ap (step_split U b last) (sym along.turn)

      pub barred_on : result ≡ None → Err NotPermitted ≡ walk_answer U r links
      unfolding one_more
      barred_on e =
          not_permitted U r links (λ p.
          let stops : step_permitted U b last (turns_so_far before) ≡ false = stopped_says _ _ _ (sym found ∙ e) in
          let goes : step_permitted U b last turns ≡ true = (both (permitted_back U r (last ∷ along.earlier)) (step_permitted U b last turns) (sym (permitted_more U r b last along.earlier) ∙ permitted_so_far U r links (k + 1) b (last ∷ along.earlier) grown p)).1 in
          let z : ◌≡◌ {A = ℕ} 0 1 = cc (goes_as) in
          omega arith)

      pub goes_on : {added : Added} → result ≡ Some added → (total added.split ≤ 46800) × Along U r links b (Some added.turn) (together split added.split) (k + 1)
      unfolding one_more
      goes_on {added} e =
          let (goes, which, adds) = onward_says _ _ _ (sym found ∙ e) in
          let step : step_permitted U b last turns ≡ true = goes_as ∙ goes in
          let adds-up : added.split ≡ step_split U b last turns = adds ∙ sym adds_as in
          let limit : total added.split ≤ 46800 = omega (arith, ap total adds, step_limit U limited before along.listed b last goes) in
          let tested = step_tests U r b last turns step in
          let listed : turn_of U last b < counts.turns = ltb-true _ _ tested.listed in
          let known : added.turn.0 < counts.turns = rw which listed in (
            limit,
            record {
              earlier = last ∷ along.earlier;
              so_far = grown;
              goes = permitted_more U r b last along.earlier ∙ and_true along.goes step;
              figures = rw (along.figures, adds-up) (sym (split_more U r b last along.earlier (turn_links U last b listed).1));
              turn = ap (λ (t : TurnNumber). t.0 ∷ []) which;
              listed = known;
              within = omega arith;
              limit = omega (arith, along.limit, total_together split added.split);
            },
          )

-- what is followed after the first link is all the rest
pub onward_all : (view : View) (r first : ℕ) {followed rest : List ℕ} {answer : Answer} → answer ≡ walk_answer view r (first ∷ followed) → followed ≡ rest → answer ≡ walk_answer view r (first ∷ rest)
onward_all view r first told same = rw same at told

-- a part from the first place on is all there is
pub all_followed : (k : ℕ) (rest : List ℕ) → k ≡ 0 → take (length rest - k) (drop k rest) ≡ rest
all_followed k rest none = rw none (take_all (length rest - 0) (drop 0 rest) (omega arith))
