-- A walk grows by one link: it stays permitted exactly where the step is, and each of its figures grows by the step's.
use Prim.Native.Nat.{ℕ, ◌+◌}
use mathlib.Core.Path.{◌≡◌, refl, sym, ap, ◌∙◌}
use mathlib.Core.List.{List, [], ◌∷◌, map}
use mathlib.Core.Bool.{Bool, true, false, not, ◌&&◌}
use native.Mathlib.Omega.{arith}
use lib.Dec.{ltb, eqb}
use Rattle.book.specs.Entries.{barred}
use Rattle.book.proofs.Limits.{both}
use Rattle.walk.specs.declared.Split.{Split}
use Rattle.walk.specs.View.{View}
use Rattle.walk.specs.Walks.{twos, all, sum, turn_of, between, allowed, seconds, total}
use Rattle.walk.specs.steps.Costs.{link_cost, turn_cost}
use Rattle.walk.specs.steps.Splits.{link_split, together}
use Rattle.walk.specs.steps.Backwards.{turns_back, leaves_back, permitted_back, split_back, cost_back, may_come, extra_after, step_permitted, step_cost, step_split}

pub and_true : {a b : Bool} → a ≡ true → b ≡ true → (a && b) ≡ true
and_true p q = rw (p, q)

pub same_test : (a b : Bool) → (a ≡ true → b ≡ true) → (b ≡ true → a ≡ true) → a ≡ b
same_test true b f g = sym (f refl)
same_test false true f g = g refl
same_test false false f g = refl

-- the six tests of a permitted walk
pub record Tests (U : View) (r : ℕ) (links : List ℕ) : Type 0 where
  pub exist : all (map (λ l. ltb l U.links) links) ≡ true
  pub leave : leaves_back U r links ≡ true
  pub meet : all (twos (λ b a. eqb (U.to a) (U.from b)) links) ≡ true
  pub listed : all (map (λ t. ltb t U.turns) (turns_back U links)) ≡ true
  pub opened : all (map (λ t. not (eqb (U.walk t) barred)) (turns_back U links)) ≡ true
  pub follow : all (twos (λ t p. allowed (between U p t)) (turns_back U links)) ≡ true

-- the five tests of one more link
pub record StepTests (U : View) (b a : ℕ) (turns : List ℕ) : Type 0 where
  pub exist : ltb b U.links ≡ true
  pub meet : eqb (U.to a) (U.from b) ≡ true
  pub listed : ltb (turn_of U a b) U.turns ≡ true
  pub opened : not (eqb (U.walk (turn_of U a b)) barred) ≡ true
  pub follow : may_come U (turn_of U a b) turns ≡ true

pub same_split : {a b : Split} → a.ride ≡ b.ride → a.wait ≡ b.wait → a.walk ≡ b.walk → a.extra ≡ b.extra → a ≡ b
same_split ride wait walk extra = λ i. record { ride = ride i; wait = wait i; walk = walk i; extra = extra i }

pub total_together : (a b : Split) → total (together a b) ≡ total a + total b
total_together a b = omega arith

module _ (U : View) (r : ℕ) where
  pub tests : (links : List ℕ) → permitted_back U r links ≡ true → Tests U r links
  unfolding permitted_back
  tests links h =
      let (rest, follow) = both _ _ h in
      let (rest, opened) = both _ _ rest in
      let (rest, listed) = both _ _ rest in
      let (rest, meet) = both _ _ rest in
      let (exist, leave) = both _ _ rest in
      record { exist = exist; leave = leave; meet = meet; listed = listed; opened = opened; follow = follow }

  pub tested : (links : List ℕ) → Tests U r links → permitted_back U r links ≡ true
  unfolding permitted_back
  tested links h = rw (h.exist, h.leave, h.meet, h.listed, h.opened, h.follow)

  pub step_tests : (b a : ℕ) (turns : List ℕ) → step_permitted U b a turns ≡ true → StepTests U b a turns
  unfolding step_permitted
  step_tests b a turns h =
      let (rest, follow) = both _ _ h in
      let (rest, opened) = both _ _ rest in
      let (rest, listed) = both _ _ rest in
      let (exist, meet) = both _ _ rest in
      record { exist = exist; meet = meet; listed = listed; opened = opened; follow = follow }

  pub step_tested : (b a : ℕ) (turns : List ℕ) → StepTests U b a turns → step_permitted U b a turns ≡ true
  unfolding step_permitted
  step_tested b a turns h = rw (h.exist, h.meet, h.listed, h.opened, h.follow)

  -- one more turn at the head
  follow_more : (t : ℕ) (turns : List ℕ) → all (twos (λ t p. allowed (between U p t)) (t ∷ turns)) ≡ (may_come U t turns && all (twos (λ t p. allowed (between U p t)) turns))
  follow_more t [] = refl
  follow_more t (p ∷ rest) = refl

  -- a step costs its extra and what its turn adds
  pub step_cost_lem : (b a : ℕ) (turns : List ℕ) → step_cost U b a turns ≡ extra_after U (turn_of U a b) turns + turn_cost U (turn_of U a b)
  unfolding step_split turn_cost
  step_cost_lem b a turns = omega arith

  extra_more : (t : ℕ) (turns : List ℕ) → sum (twos (λ t p. seconds (between U p t)) (t ∷ turns)) ≡ extra_after U t turns + sum (twos (λ t p. seconds (between U p t)) turns)
  extra_more t [] = refl
  extra_more t (p ∷ rest) = refl

  module _ (b a : ℕ) (rest : List ℕ) where
    grown : Tests U r (a ∷ rest) → StepTests U b a (turns_back U (a ∷ rest)) → Tests U r (b ∷ a ∷ rest)
    grown h s =
        record {
          exist = and_true s.exist h.exist;
          leave = h.leave;
          meet = and_true s.meet h.meet;
          listed = and_true s.listed h.listed;
          opened = and_true s.opened h.opened;
          follow = follow_more (turn_of U a b) (turns_back U (a ∷ rest)) ∙ and_true s.follow h.follow;
        }

    shorter : Tests U r (b ∷ a ∷ rest) → Tests U r (a ∷ rest) × StepTests U b a (turns_back U (a ∷ rest))
    shorter h =
        let (e, exist) = both _ _ h.exist in
        let (m, meet) = both _ _ h.meet in
        let (l, listed) = both _ _ h.listed in
        let (o, opened) = both _ _ h.opened in
        let (f, follow) = both _ _ (sym (follow_more (turn_of U a b) (turns_back U (a ∷ rest))) ∙ h.follow) in
        (record { exist = exist; leave = h.leave; meet = meet; listed = listed; opened = opened; follow = follow }, record { exist = e; meet = m; listed = l; opened = o; follow = f })

    pub permitted_more : permitted_back U r (b ∷ a ∷ rest) ≡ (permitted_back U r (a ∷ rest) && step_permitted U b a (turns_back U (a ∷ rest)))
    permitted_more =
        same_test (permitted_back U r (b ∷ a ∷ rest)) (permitted_back U r (a ∷ rest) && step_permitted U b a (turns_back U (a ∷ rest)))
        (λ h.
        let (now, step) = shorter (tests (b ∷ a ∷ rest) h) in
        and_true (tested (a ∷ rest) now) (step_tested b a (turns_back U (a ∷ rest)) step))
        (λ h.
        let (now, step) = both _ _ h in
        tested (b ∷ a ∷ rest) (grown (tests (a ∷ rest) now) (step_tests b a (turns_back U (a ∷ rest)) step)))

    -- where the turn's second link is the link itself, as in every turn of the table
    pub split_more : U.second (turn_of U a b) ≡ b → split_back U (b ∷ a ∷ rest) ≡ together (split_back U (a ∷ rest)) (step_split U b a (turns_back U (a ∷ rest)))
    unfolding split_back step_split
    split_more second =
        same_split
        (omega (arith, ap U.ride second))
        (omega arith)
        (omega arith)
        (omega (arith, extra_more (turn_of U a b) (turns_back U (a ∷ rest))))

    pub cost_more : U.second (turn_of U a b) ≡ b → cost_back U (b ∷ a ∷ rest) ≡ cost_back U (a ∷ rest) + step_cost U b a (turns_back U (a ∷ rest))
    cost_more second =
        ap total (split_more second) ∙ total_together (split_back U (a ∷ rest)) (step_split U b a (turns_back U (a ∷ rest)))

  pub permitted_one : (l : ℕ) → permitted_back U r (l ∷ []) ≡ (ltb l U.links && eqb (U.from l) r)
  unfolding permitted_back
  permitted_one l = by (ltb l U.links) (eqb (U.from l) r)
    where
      by : (a b : Bool) → ((((((a && true) && b) && true) && true) && true) && true) ≡ (a && b)
      by true true = refl
      by true false = refl
      by false true = refl
      by false false = refl

  pub split_one : (l : ℕ) → split_back U (l ∷ []) ≡ link_split U l
  unfolding split_back
  split_one l = same_split (omega arith) (omega arith) refl refl

  pub cost_one : (l : ℕ) → cost_back U (l ∷ []) ≡ link_cost U l
  cost_one l = ap total (split_one l)
