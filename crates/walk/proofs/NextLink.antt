-- The step to the turn that one more link makes is permitted, and adds to the four figures, as the rules for one more link say.
use Prim.Native.Nat.{ℕ, ◌≤◌, ◌<◌}
use mathlib.Core.Path.{◌≡◌, refl, sym, ◌∙◌}
use mathlib.Core.List.{List, [], ◌∷◌}
use mathlib.Core.Bool.{Bool, true, false}
use lib.Dec.{ltb}
use borrow.Author.Tests.{lt-ltb, le-ltb, eq-eqb, ltb-true, ltb-false}
use Rattle.book.specs.declared.Counts.{Counts}
use Rattle.std.specs.Prelude.{Option, Some, None, Ok}
use Rattle.book.specs.declared.TurnNumber.{TurnNumber}
use Rattle.book.specs.Check.{check_of}
use Rattle.walk.specs.declared.Between.{Between}
use Rattle.walk.specs.declared.Split.{Split}
use Rattle.walk.specs.View.{View, view_with, view_of}
use Rattle.walk.specs.Walks.{turn_of, allowed, seconds}
use Rattle.walk.specs.steps.Splits.{turn_split}
use Rattle.walk.specs.steps.Backwards.{may_come, extra_after, step_permitted, step_split}
use Rattle.walk.specs.steps.Pairs.{may_step}
use Rattle.walk.specs.steps.Onward.{numbered, some_if, turn_found, turns_so_far, stands_after, advanced, one_more}
use Rattle.walk.proofs.GoodView.{GoodView, good_view, turn_links}
use Rattle.walk.proofs.Growth.{step_tests}

stopped : (goes : Bool) (turn : ℕ) (more : Split) → goes ≡ false → None ≡ advanced goes turn more
stopped goes turn more e = rw e

onward : (goes : Bool) (turn : ℕ) (more : Split) → goes ≡ true → Some (record { turn = numbered turn; split = more }) ≡ advanced goes turn more
onward goes turn more e = rw e

-- what the search for a turn found
found_some : (listed : Bool) (turn : ℕ) {t : TurnNumber} → Some t ≡ some_if listed turn → (listed ≡ true) × (t.0 ≡ turn)
found_some true turn e = (refl, cc)
found_some false turn e = (cc, cc)

found_none : (listed : Bool) (turn : ℕ) → None ≡ some_if listed turn → listed ≡ false
found_none true turn e = cc
found_none false turn e = refl

module _ (U : View) where
  may_come_lem : (t : ℕ) (turns : List ℕ) → may_come U t turns ≡ allowed (stands_after U t turns)
  may_come_lem t [] = refl
  may_come_lem t (p ∷ rest) = refl

  extra_comes : (t : ℕ) (turns : List ℕ) → extra_after U t turns ≡ seconds (stands_after U t turns)
  extra_comes t [] = refl
  extra_comes t (p ∷ rest) = refl

  module _ (good : GoodView U) (a b : ℕ) (turns : List ℕ) where
    step_goes : turn_of U a b < U.turns → may_step U (stands_after U (turn_of U a b) turns) (turn_of U a b) ≡ step_permitted U b a turns
    unfolding step_permitted
    step_goes h =
        let (first, second) = turn_links U a b h in
        let exists : b < U.links = rw second at (good.second (turn_of U a b) h) in
        let meets : U.to a ≡ U.from b = rw (first, second) at (good.meet (turn_of U a b) h) in
        rw (lt-ltb b U.links exists, eq-eqb (U.to a) (U.from b) meets, lt-ltb (turn_of U a b) U.turns h, may_come_lem (turn_of U a b) turns)

    no_turn : U.turns ≤ turn_of U a b → step_permitted U b a turns ≡ false
    no_turn h = by (step_permitted U b a turns) refl
      where
        by : (t : Bool) → step_permitted U b a turns ≡ t → step_permitted U b a turns ≡ false
        by true e =
            let listed : ltb (turn_of U a b) U.turns ≡ true = (step_tests U 0 b a turns e).listed in
            let missing : ltb (turn_of U a b) U.turns ≡ false = le-ltb _ _ h in
            cc
        by false e = e

-- what the code finds of one more link
module _ (book : List ℕ) (counts : Counts) (walks : List ℕ) (checked : check_of book ≡ Ok counts) (before : Option TurnNumber) (a b : ℕ) where
  abbrev U : View
  U = view_with book counts walks

  good : GoodView U
  good = good_view book counts walks checked

  -- the walks have no part in it
  same_found : turn_found (view_of book counts) a b ≡ turn_found U a b
  unfolding turn_of
  same_found = refl

  pub missing_stops : None ≡ turn_found (view_of book counts) a b → None ≡ one_more U before a b
  unfolding one_more
  missing_stops found = rw (no_turn U good a b (turns_so_far before) (ltb-false _ _ (found_none _ _ (found ∙ same_found))))

  module _ {t : TurnNumber} (found : Some t ≡ turn_found (view_of book counts) a b) {goes : Bool} {stands : Between} (stood : stands ≡ stands_after U t.0 (turns_so_far before)) (stepping : goes ≡ may_step U stands t.0) where
    turn : t.0 ≡ turn_of U a b
    turn = (found_some _ _ (found ∙ same_found)).1

    as_permitted : goes ≡ step_permitted U b a (turns_so_far before)
    as_permitted = stepping ∙ rw (stood, turn) (step_goes U good a b (turns_so_far before) (ltb-true _ _ (found_some _ _ (found ∙ same_found)).0))

    pub barred_stops : goes ≡ false → None ≡ one_more U before a b
    unfolding one_more
    barred_stops e = stopped (step_permitted U b a (turns_so_far before)) _ _ (sym as_permitted ∙ e)

    -- what the turn adds, by what stands before it
    as_split : turn_split U (seconds stands) t.0 ≡ step_split U b a (turns_so_far before)
    unfolding step_split
    as_split = rw (stood, turn, extra_comes U (turn_of U a b) (turns_so_far before))

    pub goes_onward : {more : Split} → goes ≡ true → more ≡ turn_split U (seconds stands) t.0 → Some (record { turn = t; split = more }) ≡ one_more U before a b
    unfolding one_more
    goes_onward e m = rw (m, as_split, turn) (onward (step_permitted U b a (turns_so_far before)) _ _ (sym as_permitted ∙ e))
