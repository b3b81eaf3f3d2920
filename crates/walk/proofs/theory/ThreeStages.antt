-- Turns come after turns, links after turns and a destination after links: three stages of one kind.
use mathlib.Core.Path.{◌≡◌, refl, sym, ap, ◌∙◌}
use mathlib.Core.Logic.{inl, inr, ◌↔◌}
use mathlib.Core.List.{List, [], ◌∷◌}
use Prim.Native.Nat.{ℕ, ◌<◌}
use native.Mathlib.Omega.{arith}
use lib.Dec.{T}
use lib.ListN.{length}
use Rattle.walk.specs.Order.{Before}
use Rattle.walk.specs.steps.Net.{Net, Back, Table, Walk, two, more, LinkWalk, one, last, NodeWalk, stay, into, Cand, fresh, through}
use Rattle.walk.specs.steps.Net.{LinkCand, alone, ends, NodeCand, here, enter}
use Rattle.walk.proofs.theory.Laws.{Laws}
use Rattle.walk.proofs.theory.Order.{beats_extend}
use Rattle.walk.proofs.theory.Walks.{below, two_or_more, turn_before, turn_regular, link_head, link_sized, link_regular}
use Rattle.walk.proofs.theory.Walks.{node_regular}
use Rattle.walk.proofs.theory.Stage.{Stage, Stepped, at_once, after, Offered, begun, handed, Staged}

module _ (K : Type 0) (N : Net K) where
  abbrev pub turn_stage : ℕ → Stage K
  turn_stage t = record {
    begins = T (N.begins t);
    links = N.second t ∷ N.first t ∷ [];
    key = N.begin t;
    passes = λ p. T (N.follows p t);
    onward = λ q. N.second t ∷ q;
    step = λ p. N.extend p t;
  }

  abbrev pub link_stage : ℕ → Stage K
  link_stage l = record {
    begins = T (N.leaves l);
    links = l ∷ [];
    key = N.alone l;
    passes = λ t. N.second t ≡ l;
    onward = λ q. q;
    step = λ t k. k;
  }

  abbrev pub node_stage : ℕ → ℕ → Stage K
  node_stage r s = record {
    begins = r ≡ s;
    links = [];
    key = N.empty;
    passes = λ l. N.enters l ≡ s;
    onward = λ q. q;
    step = λ l k. k;
  }

  -- ---- what a stage is offered are the candidates

  offered_cand : {tab : Table K} {t : ℕ} {k : K} {b : Back} → Offered (turn_stage t) N.turns tab k b → Cand K N tab t k b
  offered_cand (begun s) = fresh s
  offered_cand (handed p h f e) = through p h f e

  cand_offered : {tab : Table K} {t : ℕ} {k : K} {b : Back} → Cand K N tab t k b → Offered (turn_stage t) N.turns tab k b
  cand_offered (fresh s) = begun s
  cand_offered (through p h f e) = handed p h f e

  pub turn_cands : {tab : Table K} {t : ℕ} (k : K) (b : Back) → Offered (turn_stage t) N.turns tab k b ↔ Cand K N tab t k b
  turn_cands k b = (offered_cand, cand_offered)

  offered_link : {tab : Table K} {l : ℕ} {k : K} {b : Back} → Offered (link_stage l) N.turns tab k b → LinkCand K N tab l k b
  offered_link (begun s) = alone s
  offered_link (handed t h e i) = ends t h e i

  link_offered : {tab : Table K} {l : ℕ} {k : K} {b : Back} → LinkCand K N tab l k b → Offered (link_stage l) N.turns tab k b
  link_offered (alone s) = begun s
  link_offered (ends t h e i) = handed t h e i

  pub link_cands : {tab : Table K} {l : ℕ} (k : K) (b : Back) → Offered (link_stage l) N.turns tab k b ↔ LinkCand K N tab l k b
  link_cands k b = (offered_link, link_offered)

  offered_node : {ltab : Table K} {r s : ℕ} {k : K} {b : Back} → Offered (node_stage r s) N.links ltab k b → NodeCand K N ltab r s k b
  offered_node (begun e) = here e
  offered_node (handed l h e i) = enter l h e i

  node_offered : {ltab : Table K} {r s : ℕ} {k : K} {b : Back} → NodeCand K N ltab r s k b → Offered (node_stage r s) N.links ltab k b
  node_offered (here e) = begun e
  node_offered (enter l h e i) = handed l h e i

  pub node_cands : {ltab : Table K} {r s : ℕ} (k : K) (b : Back) → Offered (node_stage r s) N.links ltab k b ↔ NodeCand K N ltab r s k b
  node_cands k b = (offered_node, node_offered)

  -- ---- the walks of a stage are those of the stage before, one step on

  turn_walked : {t : ℕ} → t < N.turns → {q : List ℕ} {k : K} {b : Back} → Stepped (turn_stage t) (Walk K N) q k b → Walk K N t q k b
  turn_walked {t} h (at_once s) = two t h s
  turn_walked {t} h (after p w f) = more p t w h f

  turn_parted : {t : ℕ} {q : List ℕ} {k : K} {b : Back} → Walk K N t q k b → Stepped (turn_stage t) (Walk K N) q k b
  turn_parted (two t h s) = at_once s
  turn_parted (more p t w h f) = after p w f

  link_walked : {l : ℕ} → l < N.links → {q : List ℕ} {k : K} {b : Back} → Stepped (link_stage l) (Walk K N) q k b → LinkWalk K N l q k b
  link_walked {l} h (at_once s) = one l h s
  link_walked {l} h (after t w e) = rw (← e) (last t w)

  link_parted : {l : ℕ} {q : List ℕ} {k : K} {b : Back} → LinkWalk K N l q k b → Stepped (link_stage l) (Walk K N) q k b
  link_parted (one l h s) = at_once s
  link_parted (last t w) = after t w refl

  node_walked : {r s : ℕ} {q : List ℕ} {k : K} {b : Back} → Stepped (node_stage r s) (LinkWalk K N) q k b → NodeWalk K N r s q k b
  node_walked (at_once e) = stay e
  node_walked (after l w e) = into l w e

  node_parted : {r s : ℕ} {q : List ℕ} {k : K} {b : Back} → NodeWalk K N r s q k b → Stepped (node_stage r s) (LinkWalk K N) q k b
  node_parted (stay e) = at_once e
  node_parted (into l w e) = after l w e

module _ (K : Type 0) (N : Net K) (L : Laws K N) where
  pub turn_staged : (t : ℕ) → t < N.turns → Staged K N (turn_stage K N t) N.turns (Walk K N) (Walk K N t)
  turn_staged t h = record {
    regular = turn_regular K N L t;
    regular_before = turn_regular K N L;
    inside = below K N;
    walked = λ w. turn_walked K N h w;
    parted = turn_parted K N;
    apart = λ {p} {q} {k} w f e. omega (arith, two_or_more K N L w, L.size_begin t, L.size_extend p t k, ap N.size e);
    ordered = λ {p} {p'} w w' f f' i. inr (refl, turn_before K N L w w' (L.joint p t f ∙ sym (L.joint p' t f')) i);
    respects = λ p o. beats_extend K N L p t (N.second t) o;
  }

  pub link_staged : (l : ℕ) → l < N.links → Staged K N (link_stage K N l) N.turns (Walk K N) (LinkWalk K N l)
  link_staged l h = record {
    regular = link_regular K N L l;
    regular_before = turn_regular K N L;
    inside = below K N;
    walked = λ w. link_walked K N h w;
    parted = link_parted K N;
    apart = λ w f e. omega (arith, two_or_more K N L w, L.size_alone l, ap N.size e);
    ordered = λ w w' e e' i. turn_before K N L w w' (e ∙ sym e') i;
    respects = λ p o. o;
  }

  -- the smaller of two last links stands before
  link_before : {l l' : ℕ} {q q' : List ℕ} {k k' : K} {b b' : Back} → LinkWalk K N l q k b → LinkWalk K N l' q' k' b' → l < l' → Before q q'
  link_before w w' h = let (g, (x, u)) = link_head K N L w in let (g', (x', u')) = link_head K N L w' in rw (u, u') (inl h)

  one_or_more : {l : ℕ} {q : List ℕ} {k : K} {b : Back} → LinkWalk K N l q k b → ¬ (N.empty ≡ k)
  one_or_more w e = let (g, (x, u)) = link_head K N L w in omega (arith, L.size_empty, ap N.size e, link_sized K N L w, ap length u)

  pub node_staged : (r s : ℕ) → Staged K N (node_stage K N r s) N.links (LinkWalk K N) (NodeWalk K N r s)
  node_staged r s = record {
    regular = node_regular K N L r s;
    regular_before = link_regular K N L;
    inside = λ w. (link_head K N L w).0;
    walked = node_walked K N;
    parted = node_parted K N;
    apart = λ w f e. one_or_more w e;
    ordered = λ w w' e e' i. link_before w w' i;
    respects = λ p o. o;
  }
