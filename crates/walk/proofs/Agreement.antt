-- Views that agree within their tables have the same walks, so the same true entries.
use Prim.Native.Nat.{ℕ, suc, ◌+◌, ◌<◌}
use mathlib.Core.Path.{◌≡◌, refl, sym, ap, ap₂, ◌∙◌, subst}
use mathlib.Core.Logic.{inl, inr}
use mathlib.Core.List.{List, reverse, reverse-reverse}
use mathlib.Core.Bool.{◌&&◌}
use lib.Dec.{T, eqb}
use Rattle.walk.specs.View.{View}
use Rattle.walk.specs.Walks.{between, allowed, seconds, half, link_wait, boarding, paid_if, turn_wait, total}
use Rattle.walk.specs.steps.Costs.{link_cost, turn_cost}
use Rattle.walk.specs.Labels.{Key, Less, key_of, Better, Chosen, Route, Entry, start_back, TrueTurn, TrueLink}
use Rattle.walk.specs.steps.Net.{Walks, Back}
use Rattle.walk.specs.steps.ViewNet.{net, key, is_open, may_follow}
use Rattle.walk.proofs.theory.Walks.{below, link_head}
use Rattle.walk.proofs.theory.SameNets.{Within, WithinNodes, node_in, turn_same, link_same}
use Rattle.walk.proofs.Growth.{same_split}
use Rattle.walk.proofs.GoodView.{GoodView}
use Rattle.walk.proofs.KeyLaws.{laws}
use Rattle.walk.proofs.TrueEntries.{Matches, node_matches}
use Rattle.walk.proofs.LabelLaws.{turn_inside, turn_outside, link_inside, link_outside}

-- two views say the same within their tables
pub record Agree (U other : View) : Type 0 where
  pub nodes : U.nodes ≡ other.nodes
  pub links : U.links ≡ other.links
  pub turns : U.turns ≡ other.turns
  pub from : (l : ℕ) → l < U.links → U.from l ≡ other.from l
  pub to : (l : ℕ) → l < U.links → U.to l ≡ other.to l
  pub ride : (l : ℕ) → l < U.links → U.ride l ≡ other.ride l
  pub line : (l : ℕ) → l < U.links → U.line l ≡ other.line l
  pub headway : (l : ℕ) → l < U.links → U.headway (U.line l) ≡ other.headway (other.line l)
  pub first : (t : ℕ) → t < U.turns → U.first t ≡ other.first t
  pub second : (t : ℕ) → t < U.turns → U.second t ≡ other.second t
  pub walk : (t : ℕ) → t < U.turns → U.walk t ≡ other.walk t
  pub listed : (p t : ℕ) → p < U.turns → t < U.turns → U.listed p t ≡ other.listed p t
  pub carry_over : U.carry_over ≡ other.carry_over

module _ (U other : View) (good : GoodView U) (agree : Agree U other) where
  pub back : Agree other U
  back =
      record {
        nodes = sym agree.nodes;
        links = sym agree.links;
        turns = sym agree.turns;
        from = λ l h. sym (agree.from l (rw agree.links h));
        to = λ l h. sym (agree.to l (rw agree.links h));
        ride = λ l h. sym (agree.ride l (rw agree.links h));
        line = λ l h. sym (agree.line l (rw agree.links h));
        headway = λ l h. sym (agree.headway l (rw agree.links h));
        first = λ t h. sym (agree.first t (rw agree.turns h));
        second = λ t h. sym (agree.second t (rw agree.turns h));
        walk = λ t h. sym (agree.walk t (rw agree.turns h));
        listed = λ p t h g. sym (agree.listed p t (rw agree.turns h) (rw agree.turns g));
        carry_over = sym agree.carry_over;
      }

  link_cost_lem : (l : ℕ) → l < U.links → link_cost U l ≡ link_cost other l
  link_cost_lem l h = rw (agree.ride l h, agree.headway l h)

  between_same : (p t : ℕ) → p < U.turns → t < U.turns → between U p t ≡ between other p t
  between_same p t hp ht = rw (agree.listed p t hp ht, agree.carry_over, agree.walk p hp, agree.walk t ht)

  open_same : (t : ℕ) → t < U.turns → is_open U t ≡ is_open other t
  open_same t h = rw (agree.walk t h)

  -- a figure of a turn's first link, or of its second
  of_first : (f g : ℕ → ℕ) → ((l : ℕ) → l < U.links → f l ≡ g l) → (t : ℕ) → t < U.turns → f (U.first t) ≡ g (other.first t)
  of_first f g same t h = same (U.first t) (good.first t h) ∙ ap g (agree.first t h)

  of_second : (f g : ℕ → ℕ) → ((l : ℕ) → l < U.links → f l ≡ g l) → (t : ℕ) → t < U.turns → f (U.second t) ≡ g (other.second t)
  of_second f g same t h = same (U.second t) (good.second t h) ∙ ap g (agree.second t h)

  wait_same : (t : ℕ) → t < U.turns → turn_wait U t ≡ turn_wait other t
  wait_same t h =
      let before = of_first U.line other.line agree.line t h in
      let next = of_second U.line other.line agree.line t h in
      let wait = of_second (link_wait U) (link_wait other) (λ l m. ap half (agree.headway l m)) t h in
      λ i. paid_if (boarding (agree.walk t h i) (before i) (next i)) (wait i)

  turn_cost_lem : (t : ℕ) → t < U.turns → turn_cost U t ≡ turn_cost other t
  unfolding turn_cost
  turn_cost_lem t h = ap total (same_split (of_second U.ride other.ride agree.ride t h) (wait_same t h) (agree.walk t h) refl)

  from_same : (t : ℕ) → t < U.turns → U.from (U.first t) ≡ other.from (other.first t)
  from_same = of_first U.from other.from agree.from

  begins_same : (r t : ℕ) → t < U.turns → (is_open U t && eqb (U.from (U.first t)) r) ≡ (is_open other t && eqb (other.from (other.first t)) r)
  begins_same r t h = ap₂ ◌&&◌ (open_same t h) (ap (λ (n : ℕ). eqb n r) (from_same t h))

  follows_same : (p t : ℕ) → p < U.turns → t < U.turns → may_follow U p t ≡ may_follow other p t
  follows_same p t hp ht = ap₂ ◌&&◌ (ap₂ eqb (agree.second p hp) (agree.first t ht)) (ap₂ ◌&&◌ (open_same t ht) (ap allowed (between_same p t hp ht)))

  step_same : (p t : ℕ) → p < U.turns → t < U.turns → seconds (between U p t) + turn_cost U t ≡ seconds (between other p t) + turn_cost other t
  step_same p t hp ht = ap₂ ◌+◌ (ap seconds (between_same p t hp ht)) (turn_cost_lem t ht)

  pub within : (r : ℕ) → Within Key (net U r) (net other r)
  within r =
      record {
        turns_in = λ t h. rw agree.turns at h;
        links_in = λ l h. rw agree.links at h;
        first_same = agree.first;
        second_same = agree.second;
        leaves_in = λ l h s. (subst T (ap (λ (n : ℕ). eqb n r) (agree.from l h)) s, ap (λ (n : ℕ). key n 1) (link_cost_lem l h));
        begins_in = λ t h s. (subst T (begins_same r t h) s, ap (λ (n : ℕ). key n 2) (ap₂ ◌+◌ (of_first (link_cost U) (link_cost other) link_cost_lem t h) (turn_cost_lem t h)));
        follows_in = λ p t {q} {k} {b} w h f.
            let hp = below Key (net U r) w in
            (subst T (follows_same p t hp h) f, ap (λ (n : ℕ). key (k.cost + n) (suc k.links)) (step_same p t hp h));
      }

  pub nodes : (r : ℕ) → WithinNodes Key (net U r) (net other r)
  nodes r = record { within = within r; empty_same = refl; enters_same = λ l w. agree.to l (link_head Key (net U r) (laws U good r) w).0 }

module _ (U other : View) (good : GoodView U) (good' : GoodView other) (few : U.turns < start_back) (agree : Agree U other) (r : ℕ) where
  few' : other.turns < start_back
  few' = rw agree.turns at few

  -- agreeing views have the same true entries
  pub turn_agrees : (t : ℕ) (e : Entry) → TrueTurn U r t e → TrueTurn other r t e
  turn_agrees t e h =
      turn_outside other good' few' r t e
      (turn_same Key (net U r) (net other r) (λ a b l. l) (within U other good agree r) (within other U good' (back U other good agree) r) (turn_inside U good few r t h))

  pub link_agrees : (l : ℕ) (e : Entry) → TrueLink U r l e → TrueLink other r l e
  link_agrees l e h =
      link_outside other good' few' r l e
      (link_same Key (net U r) (net other r) (λ a b g. g) (within U other good agree r) (within other U good' (back U other good agree) r) (link_inside U good few r l h))

-- the chosen walk of the walks of one view is that of the same walks of another
module _ (U other : View) (r : ℕ) (W W' : List ℕ → Type 0) (mark mark' : List ℕ → ℕ) (inner inner' : Walks Key)
    (m : Matches U r W mark inner) (m' : Matches other r W' mark' inner')
    (there : (q : List ℕ) (k : Key) (b : Back) → inner q k b → inner' q k b) (here : (q : List ℕ) (k : Key) (b : Back) → inner' q k b → inner q k b) where
  over : (links : List ℕ) → W links → W' links × (key_of U links ≡ key_of other links)
  over links w =
      let (k, b, w') = m.inward links w in
      let (o, e, _) = m.outward w' in
      let (o', e', _) = m'.outward (there (reverse links) k b w') in
      (subst W' (reverse-reverse links) o', ap (key_of U) (sym (reverse-reverse links)) ∙ e ∙ sym e' ∙ ap (key_of other) (reverse-reverse links))

  back_over : (links : List ℕ) → W' links → W links
  back_over links w =
      let (k, b, w') = m'.inward links w in
      subst W (reverse-reverse links) (m.outward (here (reverse links) k b w')).0

  chosen_agrees : (links : List ℕ) → Chosen U W links → Chosen other W' links
  chosen_agrees links c =
      record {
        walk = (over links c.walk).0;
        best = λ x w better. c.best x (back_over x w) (by x (over links c.walk).1 (over x (back_over x w)).1 better);
      }
    where
      by : (x : List ℕ) → key_of U links ≡ key_of other links → key_of U x ≡ key_of other x → Better other x links → Better U x links
      by x e f (inl h) = inl (subst (λ (a : Key). Less a (key_of U links)) (sym f) (subst (λ (a : Key). Less (key_of other x) a) (sym e) h))
      by x e f (inr h) = inr (f ∙ h.0 ∙ sym e, h.1)

pub route_agrees : (U other : View) → GoodView U → GoodView other → Agree U other → (r s : ℕ) (links : List ℕ) → Route U r s links → Route other r s links
route_agrees U other good good' agree r s links c =
    chosen_agrees U other r _ _ _ _ _ _ (node_matches U good r s) (node_matches other good' r s)
    (λ q k b w. node_in Key (net U r) (net other r) (nodes U other good agree r) w)
    (λ q k b w. node_in Key (net other r) (net U r) (nodes other U good' (back U other good agree) r) w)
    links c
