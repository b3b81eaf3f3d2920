-- The walks of document 01, read backwards, are the walks of the net: each is built turn by turn, with the same key and the same back.
use Prim.Native.Nat.{ℕ, suc, ◌+◌, ◌<◌}
use mathlib.Core.Path.{◌≡◌, refl, sym, ap, ap₂, ◌∙◌, subst}
use mathlib.Core.List.{List, [], ◌∷◌}
use mathlib.Core.Bool.{Bool, true, false, ◌&&◌}
use native.Mathlib.Omega.{arith}
use lib.Dec.{T, ltb, eqb}
use lib.ListN.{length}
use borrow.Author.Tests.{lt-ltb, ltb-true, eq-eqb, eqb-true}
use Rattle.book.proofs.Limits.{both}
use Rattle.walk.specs.View.{View}
use Rattle.walk.specs.Walks.{turn_of, between, allowed, seconds}
use Rattle.walk.specs.steps.Costs.{link_cost, turn_cost}
use Rattle.walk.specs.Labels.{Key}
use Rattle.walk.specs.steps.Backwards.{turns_back, permitted_back, cost_back, may_come, extra_after, step_permitted, step_cost}
use Rattle.walk.specs.steps.Net.{Back, start, via, Walk, two, more}
use Rattle.walk.specs.steps.ViewNet.{net, key, is_open, may_follow}
use Rattle.walk.proofs.Growth.{and_true, StepTests, step_tests, step_tested, permitted_more, cost_more, permitted_one, cost_one, step_cost_lem}
use Rattle.walk.proofs.GoodView.{GoodView, turn_of_lem, turn_links}

pub holds : (test : Bool) → T test → test ≡ true
holds true h = refl
holds false h = absurd h

pub shown : {test : Bool} → test ≡ true → T test
shown e = rw e tt

-- what was before the last turn: nothing, or that turn and more
abbrev pub BackIs : Back → List ℕ → Type 0
BackIs start turns = turns ≡ []
BackIs (via p) turns = (more : List ℕ) × (turns ≡ p ∷ more)

module _ (U : View) (good : GoodView U) (r : ℕ) where
  pub record Built (t : ℕ) (links : List ℕ) (k : Key) (back : Back) : Type 0 where
    pub goes : permitted_back U r links ≡ true
    pub cost : cost_back U links ≡ k.cost
    pub count : length links ≡ k.links
    pub within : t < U.turns
    pub before : List ℕ
    pub ends : links ≡ U.second t ∷ U.first t ∷ before
    pub turns : List ℕ
    pub last : turns_back U links ≡ t ∷ turns
    pub backed : BackIs back turns

  -- the tests of the step by turn t, from link a that it begins with
  turn_step : (t a : ℕ) (turns : List ℕ) → t < U.turns → a ≡ U.first t → is_open U t ≡ true → may_come U t turns ≡ true
      → StepTests U (U.second t) a turns
  turn_step t a turns h e o m =
      let same : turn_of U a (U.second t) ≡ t = ap (λ (l : ℕ). turn_of U l (U.second t)) e ∙ turn_of_lem U good t h in
      record {
        exist = lt-ltb _ _ (good.second t h);
        meet = eq-eqb _ _ (ap U.to e ∙ good.meet t h);
        listed = rw same (lt-ltb _ _ h);
        opened = rw same o;
        follow = rw same m;
      }

  turn_cost_lem : (t a : ℕ) (turns : List ℕ) → t < U.turns → a ≡ U.first t
      → step_cost U (U.second t) a turns ≡ extra_after U t turns + turn_cost U t
  turn_cost_lem t a turns h e =
      let same : turn_of U a (U.second t) ≡ t = ap (λ (l : ℕ). turn_of U l (U.second t)) e ∙ turn_of_lem U good t h in
      step_cost_lem U r (U.second t) a turns ∙ ap (λ (turn : ℕ). extra_after U turn turns + turn_cost U turn) same

  built_two : (t : ℕ) → t < U.turns → (is_open U t && eqb (U.from (U.first t)) r) ≡ true
      → Built t (U.second t ∷ U.first t ∷ []) (key (link_cost U (U.first t) + turn_cost U t) 2) start
  built_two t h s =
      let (o, l) = both (is_open U t) (eqb (U.from (U.first t)) r) s in
      record {
        goes =
            permitted_more U r (U.second t) (U.first t) []
            ∙ and_true (permitted_one U r (U.first t) ∙ and_true (lt-ltb _ _ (good.first t h)) l) (step_tested U r (U.second t) (U.first t) [] (turn_step t (U.first t) [] h refl o refl));
        cost = cost_more U r (U.second t) (U.first t) [] (ap U.second (turn_of_lem U good t h)) ∙ omega (arith, cost_one U r (U.first t), turn_cost_lem t (U.first t) [] h refl);
        count = refl;
        within = h;
        before = [];
        ends = refl;
        turns = [];
        last = ap (λ (n : ℕ). n ∷ []) (turn_of_lem U good t h);
        backed = refl;
      }

  module _ (p t : ℕ) (links : List ℕ) (k : Key) (back : Back) (b : Built p links k back) (h : t < U.turns) (f : may_follow U p t ≡ true) where
    joint : U.second p ≡ U.first t
    joint = eqb-true _ _ (both (eqb (U.second p) (U.first t)) (is_open U t && allowed (between U p t)) f).0

    may : (is_open U t ≡ true) × (allowed (between U p t) ≡ true)
    may = both (is_open U t) (allowed (between U p t)) (both (eqb (U.second p) (U.first t)) (is_open U t && allowed (between U p t)) f).1

    -- the turns of the links as they end
    turns_so_far : turns_back U (U.second p ∷ U.first p ∷ b.before) ≡ p ∷ b.turns
    turns_so_far = sym (ap (turns_back U) b.ends) ∙ b.last

    built_more : Built t (U.second t ∷ links) (key (k.cost + (seconds (between U p t) + turn_cost U t)) (suc k.links)) (via p)
    built_more =
        record {
          goes =
              ap (λ (l : List ℕ). permitted_back U r (U.second t ∷ l)) b.ends
              ∙ permitted_more U r (U.second t) (U.second p) (U.first p ∷ b.before)
              ∙ and_true (sym (ap (permitted_back U r) b.ends) ∙ b.goes)
              (ap (step_permitted U (U.second t) (U.second p)) turns_so_far ∙ step_tested U r (U.second t) (U.second p) (p ∷ b.turns) (turn_step t (U.second p) (p ∷ b.turns) h joint may.0 may.1));
          cost =
              ap (λ (l : List ℕ). cost_back U (U.second t ∷ l)) b.ends
              ∙ cost_more U r (U.second t) (U.second p) (U.first p ∷ b.before) (ap U.second (ap (λ (l : ℕ). turn_of U l (U.second t)) joint ∙ turn_of_lem U good t h))
              ∙ omega (
                arith,
                sym (ap (cost_back U) b.ends) ∙ b.cost,
                ap (step_cost U (U.second t) (U.second p)) turns_so_far ∙ turn_cost_lem t (U.second p) (p ∷ b.turns) h joint,
              );
          count = ap suc b.count;
          within = h;
          before = U.first p ∷ b.before;
          ends = ap (λ (l : List ℕ). U.second t ∷ l) (b.ends ∙ ap (λ (n : ℕ). n ∷ U.first p ∷ b.before) joint);
          turns = p ∷ b.turns;
          last =
              ap (λ (l : List ℕ). turns_back U (U.second t ∷ l)) b.ends
              ∙ ap (λ (l : List ℕ). turn_of U (U.second p) (U.second t) ∷ l) turns_so_far
              ∙ ap (λ (n : ℕ). n ∷ p ∷ b.turns) (ap (λ (l : ℕ). turn_of U l (U.second t)) joint ∙ turn_of_lem U good t h);
          backed = (b.turns, refl);
        }

  pub built : {t : ℕ} {links : List ℕ} {k : Key} {back : Back} → Walk Key (net U r) t links k back → Built t links k back
  built (two t h s) = built_two t h (holds _ s)
  built (more p t {q = links} {k = k} {b = back} w h f) = built_more p t links k back (built w) h (holds _ f)

  -- the other way: a permitted list of links is a walk of the net
  module _ (a b : ℕ) (turns : List ℕ) (step : StepTests U b a turns) where
    step_turn : (turn_of U a b < U.turns) × (U.first (turn_of U a b) ≡ a) × (U.second (turn_of U a b) ≡ b)
    step_turn =
        let h = ltb-true _ _ step.listed in
        let (f, s) = turn_links U a b h in
        (h, f, s)

  pub walked : (b a : ℕ) (rest : List ℕ) → permitted_back U r (b ∷ a ∷ rest) ≡ true
      → (k : Key) × (back : Back) × Walk Key (net U r) (turn_of U a b) (b ∷ a ∷ rest) k back
  walked b a [] h =
      let (one, step) = both _ _ (sym (permitted_more U r b a []) ∙ h) in
      let tests = step_tests U r b a [] step in
      let (within, first, second) = step_turn a b [] tests in
      let leave = (both (ltb a U.links) (eqb (U.from a) r) (sym (permitted_one U r a) ∙ one)).1 in
      let begin : (is_open U (turn_of U a b) && eqb (U.from (U.first (turn_of U a b))) r) ≡ true = and_true tests.opened (ap (λ (l : ℕ). eqb (U.from l) r) first ∙ leave) in
      (_, _, subst (λ (l : List ℕ). Walk Key (net U r) (turn_of U a b) l ((net U r).begin (turn_of U a b)) start) (ap₂ (λ (x y : ℕ). x ∷ y ∷ []) second first) (two (turn_of U a b) within (shown begin)))
  walked b a (z ∷ rest) h =
      let (so_far, step) = both _ _ (sym (permitted_more U r b a (z ∷ rest)) ∙ h) in
      let tests = step_tests U r b a (turns_back U (a ∷ z ∷ rest)) step in
      let (within, first, second) = step_turn a b (turns_back U (a ∷ z ∷ rest)) tests in
      let (k, back, w) = walked a z rest so_far in
      let before = built w in
      let meets : eqb (U.second (turn_of U z a)) (U.first (turn_of U a b)) ≡ true = eq-eqb _ _ ((turn_links U z a before.within).1 ∙ sym first) in
      (_, _, subst (λ (l : ℕ). Walk Key (net U r) (turn_of U a b) (l ∷ a ∷ z ∷ rest) ((net U r).extend (turn_of U z a) (turn_of U a b) k) (via (turn_of U z a))) second (more (turn_of U z a) (turn_of U a b) w within (shown (and_true meets (and_true tests.opened tests.follow)))))
