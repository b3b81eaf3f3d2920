-- Walks over a net, built turn by turn, the entry that is true of them, and the local equations that a table of entries may satisfy.
use Rattle.std.specs.Prelude.{◌≡◌, ◌⊎◌, Bool, List, [], ◌∷◌, ℕ, zero, suc, ◌<◌, T}
use Rattle.walk.specs.Order.{Before}

-- what a search looks at: one origin's view of one book; K is what walks are compared by before their links
pub record Net (K : Type 0) : Type 1 where
  pub lt : K → K → Type 0
  -- how many links a key counts
  pub size : K → ℕ
  pub links : ℕ
  pub turns : ℕ
  pub first : ℕ → ℕ
  pub second : ℕ → ℕ
  -- the link leaves the origin; the key of the walk that is this link alone
  pub leaves : ℕ → Bool
  pub alone : ℕ → K
  -- the turn is open and its first link leaves the origin; the key of the walk that is its two links
  pub begins : ℕ → Bool
  pub begin : ℕ → K
  -- turn t is open and may follow turn p; the key of a walk that ends in p, after t
  pub follows : ℕ → ℕ → Bool
  pub extend : ℕ → ℕ → K → K
  -- the key of the empty walk
  pub empty : K
  -- the node that a link enters
  pub enters : ℕ → ℕ

-- what a walk had before its last part: nothing, or the turn (for a destination the link) of that number
pub data Back : Type 0 where
  start : Back
  via : ℕ → Back

-- no back goes before every back
abbrev pub rank : Back → ℕ
rank start = zero
rank (via p) = suc p

pub data Entry (K : Type 0) : Type 0 where
  unreached : Entry K
  reached : K → Back → Entry K

abbrev pub Table : Type 0 → Type 0
Table K = ℕ → Entry K

-- a set of walks: the links from the last to the first, the key, the back
abbrev pub Walks : Type 0 → Type 1
Walks K = List ℕ → K → Back → Type 0

-- a set of candidates for an entry
abbrev pub Candidates : Type 0 → Type 1
Candidates K = K → Back → Type 0

module _ (K : Type 0) (N : Net K) where
  -- a permitted walk from the origin whose last two links are the turn t; its back is the turn before t
  pub data Walk : ℕ → List ℕ → K → Back → Type 0 where
    two : (t : ℕ) → t < N.turns → T (N.begins t) → Walk t (N.second t ∷ N.first t ∷ []) (N.begin t) start
    more : (p t : ℕ) {q : List ℕ} {k : K} {b : Back} → Walk p q k b → t < N.turns → T (N.follows p t)
        → Walk t (N.second t ∷ q) (N.extend p t k) (via p)

  -- a permitted walk from the origin whose last link is l; its back is the turn that it ends with
  pub data LinkWalk : ℕ → List ℕ → K → Back → Type 0 where
    one : (l : ℕ) → l < N.links → T (N.leaves l) → LinkWalk l (l ∷ []) (N.alone l) start
    last : (t : ℕ) {q : List ℕ} {k : K} {b : Back} → Walk t q k b → LinkWalk (N.second t) q k (via t)

  -- a permitted walk from the origin r to the node s; its back is its last link
  pub data NodeWalk (r s : ℕ) : List ℕ → K → Back → Type 0 where
    stay : r ≡ s → NodeWalk r s [] N.empty start
    into : (l : ℕ) {q : List ℕ} {k : K} {b : Back} → LinkWalk l q k b → N.enters l ≡ s → NodeWalk r s q k (via l)

  -- the first walk is better
  abbrev pub Better : K → List ℕ → K → List ℕ → Type 0
  Better k q k' q' = N.lt k k' ⊎ ((k ≡ k') × Before q q')

  -- of the walks W this one is chosen: none is better
  pub record Chosen (W : Walks K) (q : List ℕ) (k : K) (b : Back) : Type 0 where
    pub walk : W q k b
    pub best : {q' : List ℕ} {k' : K} {b' : Back} → W q' k' b' → ¬ Better k' q' k q

  -- the true entry over the walks W
  pub data True (W : Walks K) : Entry K → Type 0 where
    chosen : (q : List ℕ) {k : K} {b : Back} → Chosen W q k b → True W (reached k b)
    absent : ((q : List ℕ) (k : K) (b : Back) → ¬ W q k b) → True W unreached

  abbrev pub TrueTurn : ℕ → Entry K → Type 0
  TrueTurn t e = True (Walk t) e

  abbrev pub TrueLink : ℕ → Entry K → Type 0
  TrueLink l e = True (LinkWalk l) e

  abbrev pub TrueRoute : ℕ → ℕ → Entry K → Type 0
  TrueRoute r s e = True (NodeWalk r s) e

  abbrev pub TrueTurns : Table K → Type 0
  TrueTurns tab = (t : ℕ) → t < N.turns → TrueTurn t (tab t)

  abbrev pub TrueLinks : Table K → Type 0
  TrueLinks ltab = (l : ℕ) → l < N.links → TrueLink l (ltab l)

  -- document 004, equations 4 and 5: what t's entry may be, by the entries of the turns before it
  pub data Cand (tab : Table K) (t : ℕ) : K → Back → Type 0 where
    fresh : T (N.begins t) → Cand tab t (N.begin t) start
    through : (p : ℕ) {k : K} {b : Back} → p < N.turns → T (N.follows p t) → tab p ≡ reached k b
        → Cand tab t (N.extend p t k) (via p)

  -- document 000, equation 2, over turns: what l's entry may be
  pub data LinkCand (tab : Table K) (l : ℕ) : K → Back → Type 0 where
    alone : T (N.leaves l) → LinkCand tab l (N.alone l) start
    ends : (t : ℕ) {k : K} {b : Back} → t < N.turns → N.second t ≡ l → tab t ≡ reached k b → LinkCand tab l k (via t)

  -- what the entry of the way from r to s may be, by the entries of the links
  pub data NodeCand (ltab : Table K) (r s : ℕ) : K → Back → Type 0 where
    here : r ≡ s → NodeCand ltab r s N.empty start
    enter : (l : ℕ) {k : K} {b : Back} → l < N.links → N.enters l ≡ s → ltab l ≡ reached k b → NodeCand ltab r s k (via l)

  -- smaller key, then smaller back
  abbrev pub Ahead : K → Back → K → Back → Type 0
  Ahead k b k' b' = N.lt k k' ⊎ ((k ≡ k') × (rank b < rank b'))

  -- the least of the candidates C, or unreached where there is none
  pub data Least (C : Candidates K) : Entry K → Type 0 where
    least : {k : K} {b : Back} → C k b → ((k' : K) (b' : Back) → C k' b' → ¬ Ahead k' b' k b) → Least C (reached k b)
    nothing : ((k : K) (b : Back) → ¬ C k b) → Least C unreached

  abbrev pub Local : Table K → Type 0
  Local tab = (t : ℕ) → t < N.turns → Least (Cand tab t) (tab t)

  abbrev pub LocalLinks : Table K → Table K → Type 0
  LocalLinks tab ltab = (l : ℕ) → l < N.links → Least (LinkCand tab l) (ltab l)
