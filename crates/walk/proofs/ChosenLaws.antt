-- A chosen walk uses no turn twice, so its links and its cost are bounded; and without its last link it is the chosen walk of its back.
use Prim.Native.Nat.{ℕ, suc, ◌+◌, ◌*◌, ◌≤◌, ◌<◌}
use mathlib.Core.Path.{◌≡◌, refl, sym, ap, ◌∙◌, subst}
use mathlib.Core.List.{List, [], ◌∷◌, ◌++◌, reverse, drop_last, reverse-cons, reverse-reverse}
use mathlib.Core.Bool.{true, ◌&&◌}
use native.Mathlib.Omega.{arith}
use lib.Dec.{eqb}
use lib.ListN.{length, get_or, length-append}
use Rattle.book.proofs.Limits.{both}
use Rattle.walk.specs.View.{View}
use Rattle.walk.specs.Walks.{turn_of, turns_of, between, allowed, seconds, cost_of}
use Rattle.walk.specs.steps.Costs.{link_cost, turn_cost}
use Rattle.walk.specs.Labels.{Key, key_of, Chosen, TurnWalk, LinkWalk, Route, turn_back, start_back}
use Rattle.walk.specs.steps.Backwards.{turns_back}
use Rattle.walk.specs.steps.Net as net-walks
use Rattle.walk.specs.steps.Net.{Back, start, via, Walk, two, more}
use Rattle.walk.specs.steps.ViewNet.{net, is_open, back_number}
use Rattle.walk.proofs.theory.Laws.{clash}
use Rattle.walk.proofs.theory.Walks.{turn_sized, start_link, start_node}
use Rattle.walk.proofs.theory.Twice as twice
use Rattle.walk.proofs.theory.Backs.{back_turn, link_back_lem}
use Rattle.walk.proofs.theory.Destination.{route_last}
use Rattle.walk.proofs.Lists.{drop_last_lem}
use Rattle.walk.proofs.Backwards.{turns_reverse}
use Rattle.walk.proofs.GoodView.{GoodView}
use Rattle.walk.proofs.KeyLaws.{laws}
use Rattle.walk.proofs.NetWalks.{holds, built}
use Rattle.walk.proofs.TrueEntries.{Matches, chosen_inward, chosen_outward, turn_matches, link_matches, node_matches}
use Rattle.walk.proofs.Existence.{turn_inside, link_inside, turns_inside, links_inside}

-- no number stands twice in a list
abbrev pub NoneTwice : List ℕ → Type 0
NoneTwice list = (i j : ℕ) → i < j → j < length list → get_or list i 0 ≡ get_or list j 0 → ⊥

-- the figures of a view within document 01's limits
pub record Limited (U : View) : Type 0 where
  pub link : (l : ℕ) → l < U.links → link_cost U l ≤ 39600
  pub turn : (t : ℕ) → t < U.turns → is_open U t ≡ true → turn_cost U t ≤ 43200
  pub extra : (p t : ℕ) → p < U.turns → t < U.turns → allowed (between U p t) ≡ true → seconds (between U p t) ≤ 3600
  pub turns : U.turns ≤ 4096

module _ (U : View) (good : GoodView U) (r : ℕ) where
  turns_same : {t : ℕ} {q : List ℕ} {k : Key} {b : Back} (w : Walk Key (net U r) t q k b) → twice.turns_of Key (net U r) w ≡ turns_back U q
  unfolding twice.turns_of
  turns_same (two t h s) =
      let whole = built U good r (two t h s) in
      sym (whole.last ∙ ap (λ (l : List ℕ). t ∷ l) whole.backed)
  turns_same (more p t {q = q} w h f) =
      let whole = built U good r (more p t w h f) in
      let part = built U good r w in
      let one : ℕ = turn_of U (U.second p) (U.second t) in
      let opened : turns_back U (U.second t ∷ q) ≡ one ∷ turns_back U q = ap (λ (l : List ℕ). turns_back U (U.second t ∷ l)) part.ends ∙ ap (λ (l : List ℕ). one ∷ turns_back U l) (sym part.ends) in
      let same : one ≡ t = cc (opened, whole.last) in
      ap (λ (l : List ℕ). t ∷ l) (turns_same w) ∙ ap (λ (n : ℕ). n ∷ turns_back U q) (sym same) ∙ sym opened

  turn_once : {t : ℕ} {q : List ℕ} {k : Key} {b : Back} → net-walks.Chosen Key (net U r) (Walk Key (net U r) t) q k b → NoneTwice (turns_back U q)
  turn_once c = subst NoneTwice (turns_same c.walk) (λ i j h l e. twice.no_turn_twice Key (net U r) (laws U good r) c i j h l e)

  link_once : {l : ℕ} {q : List ℕ} {k : Key} (b : Back) → net-walks.Chosen Key (net U r) (net-walks.LinkWalk Key (net U r) l) q k b → NoneTwice (turns_back U q)
  link_once start c = subst (λ (x : List ℕ). NoneTwice (turns_back U x)) (sym (start_link Key (net U r) c.walk refl)) (λ i j h l e. absurd (omega arith))
  link_once (via t) c =
      let (b, (inside, entry)) = link_back_lem Key (net U r) (laws U good r) (turn_inside U good r) (turns_inside U good r) c in
      turn_once inside

  node_once : {s : ℕ} {q : List ℕ} {k : Key} (b : Back) → net-walks.Chosen Key (net U r) (net-walks.NodeWalk Key (net U r) r s) q k b → NoneTwice (turns_back U q)
  node_once start c = subst (λ (x : List ℕ). NoneTwice (turns_back U x)) (sym (start_node Key (net U r) c.walk refl)) (λ i j h l e. absurd (omega arith))
  node_once {s = s} (via l) c =
      let (b, (inside, entry)) = route_last Key (net U r) (laws U good r) (link_inside U good r) (links_inside U good r) r s c in
      link_once b inside

  turns_from_last : (links : List ℕ) → turns_back U (reverse links) ≡ reverse (turns_of U links)
  turns_from_last links = sym (reverse-reverse (turns_back U (reverse links))) ∙ ap reverse (sym (turns_reverse U (reverse links)) ∙ ap (turns_of U) (reverse-reverse links))

  -- no chosen walk uses a turn twice; its turns are read from the last
  pub turn_none_twice : (t : ℕ) (links : List ℕ) → Chosen U (TurnWalk U r t) links → NoneTwice (reverse (turns_of U links))
  turn_none_twice t links c =
      let (k, b, inside) = chosen_inward U r _ _ _ (turn_matches U good r t) links c in
      subst NoneTwice (turns_from_last links) (turn_once inside)

  pub link_none_twice : (l : ℕ) (links : List ℕ) → Chosen U (LinkWalk U r l) links → NoneTwice (reverse (turns_of U links))
  link_none_twice l links c =
      let (k, b, inside) = chosen_inward U r _ _ _ (link_matches U good r l) links c in
      subst NoneTwice (turns_from_last links) (link_once b inside)

  pub route_none_twice : (s : ℕ) (links : List ℕ) → Route U r s links → NoneTwice (reverse (turns_of U links))
  route_none_twice s links c =
      let (k, b, inside) = chosen_inward U r _ _ _ (node_matches U good r s) links c in
      subst NoneTwice (turns_from_last links) (node_once b inside)

  -- the back of a turn's entry leads to the chosen walk's earlier part, which has one link less
  pub back_leads : U.turns < start_back → (t p : ℕ) (links : List ℕ) → Chosen U (TurnWalk U r t) links → turn_back U links ≡ p → p < U.turns
      → Chosen U (TurnWalk U r p) (drop_last links) × (length links ≡ suc (length (drop_last links)))
  back_leads few t p links c e h =
      let (k, b, inside) = chosen_inward U r _ _ _ (turn_matches U good r t) links c in
      let same = ap (turn_back U) (sym (reverse-reverse links)) ∙ ((turn_matches U good r t).outward inside.walk).2 in
      by k b inside (sym same ∙ e)
    where
      by : (k : Key) (b : Back) → net-walks.Chosen Key (net U r) (Walk Key (net U r) t) (reverse links) k b → back_number b ≡ p
          → Chosen U (TurnWalk U r p) (drop_last links) × (length links ≡ suc (length (drop_last links)))
      by k start inside z = absurd (omega arith)
      by k (via p') inside z =
          let (q, k', b', before, entry, whole, step) = back_turn Key (net U r) (laws U good r) (turn_inside U good r) (turns_inside U good r) inside in
          let forth : links ≡ reverse q ++ (U.second t ∷ []) = sym (reverse-reverse links) ∙ ap reverse whole ∙ reverse-cons (U.second t) q in
          let part : drop_last links ≡ reverse q = ap drop_last forth ∙ drop_last_lem (reverse q) (U.second t) in (
            subst (λ (x : List ℕ). Chosen U (TurnWalk U r p) x) (sym part) (subst (λ (x : ℕ). Chosen U (TurnWalk U r x) (reverse q)) z (chosen_outward U r _ _ _ (turn_matches U good r p') before)),
            ap length forth ∙ length-append (reverse q) (U.second t ∷ []) ∙ omega (arith, ap length part),
          )

  module _ (limited : Limited U) where
    cost_most : {t : ℕ} {q : List ℕ} {k : Key} {b : Back} → Walk Key (net U r) t q k b → k.cost + 10800 ≤ 46800 * k.links
    cost_most (two t h s) =
        let (o, leave) = both (is_open U t) (eqb (U.from (U.first t)) r) (holds _ s) in
        omega (arith, limited.link (U.first t) (good.first t h), limited.turn t h o)
    cost_most (more p t w h f) =
        let (j, rest) = both (eqb (U.second p) (U.first t)) (is_open U t && allowed (between U p t)) (holds _ f) in
        let (o, a) = both (is_open U t) (allowed (between U p t)) rest in
        omega (arith, cost_most w, limited.turn t h o, limited.extra p t (built U good r w).within h a)

    -- the bounds of a chosen walk of the net, to a turn and to a link
    turn_bounds : {t : ℕ} {q : List ℕ} {k : Key} {b : Back} → net-walks.Chosen Key (net U r) (Walk Key (net U r) t) q k b → (k.links ≤ 4097) × (k.cost ≤ 191728800)
    turn_bounds c =
        let short = twice.chosen_short Key (net U r) (laws U good r) c in
        let sized = turn_sized Key (net U r) (laws U good r) c.walk in
        let most = cost_most c.walk in
        let turns = limited.turns in
        (omega arith, omega arith)

    link_bounds : {l : ℕ} {q : List ℕ} {k : Key} (b : Back) → net-walks.Chosen Key (net U r) (net-walks.LinkWalk Key (net U r) l) q k b → (k.links ≤ 4097) × (k.cost ≤ 191728800)
    link_bounds start c = one_link c.walk refl
      where
        one_link : {l : ℕ} {q : List ℕ} {k : Key} {b : Back} → net-walks.LinkWalk Key (net U r) l q k b → b ≡ start → (k.links ≤ 4097) × (k.cost ≤ 191728800)
        one_link (net-walks.one l h s) e = (omega arith, omega (arith, limited.link l h))
        one_link (net-walks.last t w) e = clash (cc)
    link_bounds (via t) c =
        let (b, (c', e)) = link_back_lem Key (net U r) (laws U good r) (turn_inside U good r) (turns_inside U good r) c in
        turn_bounds c'

    node_bounds : {s : ℕ} {q : List ℕ} {k : Key} (b : Back) → net-walks.Chosen Key (net U r) (net-walks.NodeWalk Key (net U r) r s) q k b → (k.links ≤ 4097) × (k.cost ≤ 191728800)
    node_bounds start c = stays c.walk refl
      where
        stays : {s : ℕ} {q : List ℕ} {k : Key} {b : Back} → net-walks.NodeWalk Key (net U r) r s q k b → b ≡ start → (k.links ≤ 4097) × (k.cost ≤ 191728800)
        stays (net-walks.stay h) e = (omega arith, omega arith)
        stays (net-walks.into l w h) e = clash (cc)
    node_bounds {s = s} (via l) c =
        let (b, (c', e)) = route_last Key (net U r) (laws U good r) (link_inside U good r) (links_inside U good r) r s c in
        link_bounds b c'

    -- at most 4,097 links, and a cost of at most 191,728,800
    abbrev pub Bounded : List ℕ → Type 0
    Bounded links = (length links ≤ 4097) × (cost_of U links ≤ 191728800)

    bounded : (links : List ℕ) (k : Key) → key_of U links ≡ k → (k.links ≤ 4097) × (k.cost ≤ 191728800) → Bounded links
    unfolding key_of
    bounded links k e (l, c) =
        let links_same = ap (λ (x : Key). x.links) e in
        let cost_same = ap (λ (x : Key). x.cost) e in
        (omega arith, omega arith)

    key_same : (W : List ℕ → Type 0) (back : List ℕ → ℕ) (inner : net-walks.Walks Key) → Matches U r W back inner → (links : List ℕ) {k : Key} {b : Back} → inner (reverse links) k b → key_of U links ≡ k
    key_same W back inner m links w = ap (key_of U) (sym (reverse-reverse links)) ∙ (m.outward w).1

    pub turn_bounded : (t : ℕ) (links : List ℕ) → Chosen U (TurnWalk U r t) links → Bounded links
    turn_bounded t links c =
        let (k, b, inside) = chosen_inward U r _ _ _ (turn_matches U good r t) links c in
        bounded links k (key_same _ _ _ (turn_matches U good r t) links inside.walk) (turn_bounds inside)

    pub link_bounded : (l : ℕ) (links : List ℕ) → Chosen U (LinkWalk U r l) links → Bounded links
    link_bounded l links c =
        let (k, b, inside) = chosen_inward U r _ _ _ (link_matches U good r l) links c in
        bounded links k (key_same _ _ _ (link_matches U good r l) links inside.walk) (link_bounds b inside)

    pub route_bounded : (s : ℕ) (links : List ℕ) → Route U r s links → Bounded links
    route_bounded s links c =
        let (k, b, inside) = chosen_inward U r _ _ _ (node_matches U good r s) links c in
        bounded links k (key_same _ _ _ (node_matches U good r s) links inside.walk) (node_bounds b inside)
