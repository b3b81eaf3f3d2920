-- A walk's links say all of it: its last turn or link, how many links its key counts, and its back.
use mathlib.Core.Path.{◌≡◌, refl, sym, ap, ◌∙◌}
use mathlib.Core.Logic.{inl, inr}
use mathlib.Core.List.{List, [], ◌∷◌}
use Prim.Native.Nat.{ℕ, suc, ◌≤◌, ◌<◌}
use native.Mathlib.Omega.{arith}
use lib.ListN.{length}
use Rattle.walk.specs.Order.{Before}
use Rattle.walk.specs.steps.Net.{Net, Back, start, via, Walks, Walk, two, more, LinkWalk, one, last, NodeWalk, stay, into}
use Rattle.walk.proofs.theory.Laws.{Compared, Laws, clash, lt_tri}

module _ (K : Type 0) (N : Net K) where
  -- walks whose key counts their links and whose links decide their back
  pub record Regular (W : Walks K) : Type 0 where
    pub sized : {q : List ℕ} {k : K} {b : Back} → W q k b → N.size k ≡ length q
    pub decided : {q q' : List ℕ} {k k' : K} {b b' : Back} → W q k b → W q' k' b' → q ≡ q' → b ≡ b'

  pub below : {t : ℕ} {q : List ℕ} {k : K} {b : Back} → Walk K N t q k b → t < N.turns
  below (two t h s) = h
  below (more p t w h f) = h

  -- ---- the links of a walk without a back

  pub start_turn : {t : ℕ} {q : List ℕ} {k : K} {b : Back} → Walk K N t q k b → b ≡ start → q ≡ N.second t ∷ N.first t ∷ []
  start_turn (two t h s) e = refl
  start_turn (more p t w h f) e = cc

  pub start_link : {l : ℕ} {q : List ℕ} {k : K} {b : Back} → LinkWalk K N l q k b → b ≡ start → q ≡ l ∷ []
  start_link (one l h s) e = refl
  start_link (last t w) e = cc

  pub start_node : {r s : ℕ} {q : List ℕ} {k : K} {b : Back} → NodeWalk K N r s q k b → b ≡ start → q ≡ []
  start_node (stay e) i = refl
  start_node (into l w e) i = cc

module _ (K : Type 0) (N : Net K) (L : Laws K N) where
  -- a walk's last two links are its turn
  pub shape : {t : ℕ} {q : List ℕ} {k : K} {b : Back} → Walk K N t q k b → (r : List ℕ) × (q ≡ N.second t ∷ N.first t ∷ r)
  shape (two t h s) = ([], refl)
  shape (more p t w h f) = let (r, e) = shape w in (N.first p ∷ r, cc (L.joint p t f))

  pub turn_sized : {t : ℕ} {q : List ℕ} {k : K} {b : Back} → Walk K N t q k b → N.size k ≡ length q
  turn_sized (two t h s) = L.size_begin t
  turn_sized (more p t {k = k} w h f) = L.size_extend p t k ∙ ap suc (turn_sized w)

  pub two_or_more : {t : ℕ} {q : List ℕ} {k : K} {b : Back} → Walk K N t q k b → 2 ≤ N.size k
  two_or_more w = let (r, e) = shape w in omega (arith, turn_sized w, ap length e)

  -- a turn is known by its links
  pub same_turn : (p t : ℕ) → p < N.turns → t < N.turns → N.second p ≡ N.second t → N.first p ≡ N.first t → p ≡ t
  same_turn p t hp ht e f = go (lt_tri p t)
    where
      go : Compared ◌<◌ p t → p ≡ t
      go (inl h) = omega (arith, L.ascend p t hp ht e h)
      go (inr (inl h)) = h
      go (inr (inr h)) = omega (arith, L.ascend t p ht hp (sym e) h)

  -- a walk's links decide its turn, its key and its back
  pub turn_decided : {t t' : ℕ} {q q' : List ℕ} {k k' : K} {b b' : Back} → Walk K N t q k b → Walk K N t' q' k' b' → q ≡ q'
      → (t ≡ t') × (k ≡ k') × (b ≡ b')
  turn_decided (two t h s) (two t' h' s') e = let u : t ≡ t' = same_turn t t' h h' (cc) (cc) in (u, cc, refl)
  turn_decided (two t h s) (more p' t' w' h' f') e = let (r, i) = shape w' in clash (cc)
  turn_decided (more p t w h f) (two t' h' s') e = let (r, i) = shape w in clash (cc)
  turn_decided (more p t w h f) (more p' t' w' h' f') e =
      let (i, j, m) = turn_decided w w' (cc) in
      let u : t ≡ t' = same_turn t t' h h' (cc) (cc (L.joint p t f, L.joint p' t' f')) in
      (u, cc, cc)

  -- of two turns into one link, the smaller one's walks stand before
  pub turn_before : {p p' : ℕ} {q q' : List ℕ} {k k' : K} {b b' : Back} → Walk K N p q k b → Walk K N p' q' k' b'
      → N.second p ≡ N.second p' → p < p' → Before q q'
  turn_before {p} {p'} w w' e h =
      let (r, i) = shape w in
      let (r', i') = shape w' in
      rw (i, i') (inr (e, inl (L.ascend p p' (below K N w) (below K N w') e h)))

  pub turn_regular : (t : ℕ) → Regular K N (Walk K N t)
  turn_regular t = record { sized = turn_sized; decided = λ w w' e. (turn_decided w w' e).2 }

  -- ---- walks to a link

  -- a walk to a link ends with it, and it is one
  pub link_head : {l : ℕ} {q : List ℕ} {k : K} {b : Back} → LinkWalk K N l q k b → (l < N.links) × ((r : List ℕ) × (q ≡ l ∷ r))
  link_head (one l h s) = (h, ([], refl))
  link_head (last t w) = let (r, e) = shape w in (L.second_in t (below K N w), (_, e))

  pub link_sized : {l : ℕ} {q : List ℕ} {k : K} {b : Back} → LinkWalk K N l q k b → N.size k ≡ length q
  link_sized (one l h s) = L.size_alone l
  link_sized (last t w) = turn_sized w

  pub link_decided : {l l' : ℕ} {q q' : List ℕ} {k k' : K} {b b' : Back} → LinkWalk K N l q k b → LinkWalk K N l' q' k' b' → q ≡ q' → b ≡ b'
  link_decided (one l h s) (one l' h' s') e = refl
  link_decided (one l h s) (last t w) e = let (r, i) = shape w in cc
  link_decided (last t w) (one l h s) e = let (r, i) = shape w in cc
  link_decided (last t w) (last t' w') e = ap via (turn_decided w w' e).0

  pub link_regular : (l : ℕ) → Regular K N (LinkWalk K N l)
  link_regular l = record { sized = link_sized; decided = link_decided }

  -- ---- walks to a node

  pub node_sized : {r s : ℕ} {q : List ℕ} {k : K} {b : Back} → NodeWalk K N r s q k b → N.size k ≡ length q
  node_sized (stay e) = L.size_empty
  node_sized (into l w e) = link_sized w

  pub node_decided : {r s : ℕ} {q q' : List ℕ} {k k' : K} {b b' : Back} → NodeWalk K N r s q k b → NodeWalk K N r s q' k' b' → q ≡ q'
      → b ≡ b'
  node_decided (stay e) (stay e') i = refl
  node_decided (stay e) (into l w e') i = let (h, (x, j)) = link_head w in cc
  node_decided (into l w e') (stay e) i = let (h, (x, j)) = link_head w in cc
  node_decided (into l w e) (into l' w' e') i = let (h, (x, j)) = link_head w in let (h', (x', j')) = link_head w' in cc

  pub node_regular : (r s : ℕ) → Regular K N (NodeWalk K N r s)
  node_regular r s = record { sized = node_sized; decided = node_decided }
