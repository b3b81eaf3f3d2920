-- Two nets whose walks are the same have the same true entries, as two readings of one book do.
use mathlib.Core.Path.{◌≡◌, sym, ◌∙◌}
use mathlib.Core.Logic.{inl, inr}
use mathlib.Core.List.{List}
use Prim.Native.Nat.{ℕ, ◌<◌}
use lib.Dec.{T}
use Rattle.walk.specs.steps.Net.{Net, Back, Entry, Walks, Walk, two, more, LinkWalk, one, last, NodeWalk, stay, into, Better, True}
use Rattle.walk.specs.steps.Net.{chosen, absent, TrueTurn, TrueLink, TrueRoute}
use Rattle.walk.proofs.theory.Walks.{below}

module _ (K : Type 0) (N N' : Net K) where
  -- every walk of N is one of N': asked only within the tables, and of turns that a walk reaches
  pub record Within : Type 0 where
    pub turns_in : (t : ℕ) → t < N.turns → t < N'.turns
    pub links_in : (l : ℕ) → l < N.links → l < N'.links
    pub first_same : (t : ℕ) → t < N.turns → N.first t ≡ N'.first t
    pub second_same : (t : ℕ) → t < N.turns → N.second t ≡ N'.second t
    pub leaves_in : (l : ℕ) → l < N.links → T (N.leaves l) → T (N'.leaves l) × (N.alone l ≡ N'.alone l)
    pub begins_in : (t : ℕ) → t < N.turns → T (N.begins t) → T (N'.begins t) × (N.begin t ≡ N'.begin t)
    pub follows_in : (p t : ℕ) {q : List ℕ} {k : K} {b : Back} → Walk K N p q k b → t < N.turns → T (N.follows p t)
        → T (N'.follows p t) × (N.extend p t k ≡ N'.extend p t k)

  -- and so is every walk to a node
  pub record WithinNodes : Type 0 where
    pub within : Within
    pub empty_same : N.empty ≡ N'.empty
    pub enters_same : (l : ℕ) {q : List ℕ} {k : K} {b : Back} → LinkWalk K N l q k b → N.enters l ≡ N'.enters l

  pub walk_in : Within → {t : ℕ} {q : List ℕ} {k : K} {b : Back} → Walk K N t q k b → Walk K N' t q k b
  walk_in I (two t h s) =
      let (s', e) = I.begins_in t h s in
      rw (I.first_same t h, I.second_same t h, e) (two t (I.turns_in t h) s')
  walk_in I (more p t w h f) =
      let (f', e) = I.follows_in p t w h f in
      rw (I.second_same t h, e) (more p t (walk_in I w) (I.turns_in t h) f')

  pub link_in : Within → {l : ℕ} {q : List ℕ} {k : K} {b : Back} → LinkWalk K N l q k b → LinkWalk K N' l q k b
  link_in I (one l h s) = let (s', e) = I.leaves_in l h s in rw e (one l (I.links_in l h) s')
  link_in I (last t w) = rw (I.second_same t (below K N w)) (last t (walk_in I w))

  pub node_in : WithinNodes → {r s : ℕ} {q : List ℕ} {k : K} {b : Back} → NodeWalk K N r s q k b → NodeWalk K N' r s q k b
  node_in I (stay e) = rw I.empty_same (stay e)
  node_in I (into l w e) = into l (link_in I.within w) (sym (I.enters_same l w) ∙ e)

  -- one set of walks under two orders, where the second says no more than the first
  pub true_same : ((a b : K) → N'.lt a b → N.lt a b) → (W W' : Walks K) → ((q : List ℕ) (k : K) (b : Back) → W q k b → W' q k b)
      → ((q : List ℕ) (k : K) (b : Back) → W' q k b → W q k b) → {e : Entry K} → True K N W e → True K N' W' e
  true_same order W W' f g (absent n) = absent (λ q k b w. n q k b (g q k b w))
  true_same order W W' f g (chosen q {k} {b} c) =
      chosen q (record { walk = f q k b c.walk; best = λ {q'} {k'} {b'} w x. c.best (g q' k' b' w) (on q' k' x) })
    where
      on : (q' : List ℕ) (k' : K) → Better K N' k' q' k q → Better K N k' q' k q
      on q' k' (inl h) = inl (order k' k h)
      on q' k' (inr h) = inr h

-- ---- true entries of one net are true in the other

module _ (K : Type 0) (N N' : Net K) (order : (a b : K) → N'.lt a b → N.lt a b) where
  pub turn_same : Within K N N' → Within K N' N → {t : ℕ} {e : Entry K} → TrueTurn K N t e → TrueTurn K N' t e
  turn_same I I' {t} =
      true_same K N N' order (Walk K N t) (Walk K N' t) (λ q k b w. walk_in K N N' I w) (λ q k b w. walk_in K N' N I' w)

  pub link_same : Within K N N' → Within K N' N → {l : ℕ} {e : Entry K} → TrueLink K N l e → TrueLink K N' l e
  link_same I I' {l} =
      true_same K N N' order (LinkWalk K N l) (LinkWalk K N' l) (λ q k b w. link_in K N N' I w) (λ q k b w. link_in K N' N I' w)

  pub route_same : WithinNodes K N N' → WithinNodes K N' N → {r s : ℕ} {e : Entry K} → TrueRoute K N r s e → TrueRoute K N' r s e
  route_same I I' {r} {s} =
      true_same K N N' order (NodeWalk K N r s) (NodeWalk K N' r s) (λ q k b w. node_in K N N' I w) (λ q k b w. node_in K N' N I' w)
