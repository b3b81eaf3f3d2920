-- Document 01, "Labels": which walk is chosen, and the entry that stands for it in the buffers.
use Rattle.std.specs.Prelude.{ℕ, ◌<◌, ◌≡◌, ◌⊎◌, true, length, get_or}
use mathlib.Core.List.{List, [], ◌∷◌, ◌++◌, reverse, drop_last}
use Rattle.walk.specs.View.{View}
use Rattle.walk.specs.Order.{Before}
use Rattle.walk.specs.Walks.{permitted, cost_of, turns_of}

-- what walks are compared by before their link numbers: least cost, then fewest links
pub record Key : Type 0 where
  pub cost : ℕ
  pub links : ℕ

abbrev pub Less : Key → Key → Type 0
Less a b = (a.cost < b.cost) ⊎ ((a.cost ≡ b.cost) × (a.links < b.links))

unfoldable pub key_of : View → List ℕ → Key
key_of U links = record { cost = cost_of U links; links = length links }

-- then the smaller link number at the first difference, read from the last link towards the first
abbrev pub Better : View → List ℕ → List ℕ → Type 0
Better U one other = Less (key_of U one) (key_of U other) ⊎ ((key_of U one ≡ key_of U other) × Before (reverse one) (reverse other))

-- of all walks W the chosen one: none is better
pub record Chosen (U : View) (W : List ℕ → Type 0) (links : List ℕ) : Type 0 where
  pub walk : W links
  pub best : (other : List ℕ) → W other → Better U other links → ⊥

-- permitted walks from r whose last two links are turn t
pub record TurnWalk (U : View) (r t : ℕ) (links : List ℕ) : Type 0 where
  pub goes : permitted U r links ≡ true
  pub within : t < U.turns
  pub before : List ℕ
  pub ends : links ≡ before ++ (U.first t ∷ U.second t ∷ [])

-- non-empty permitted walks from r whose last link is l
pub record LinkWalk (U : View) (r l : ℕ) (links : List ℕ) : Type 0 where
  pub goes : permitted U r links ≡ true
  pub before : List ℕ
  pub ends : links ≡ before ++ (l ∷ [])

-- permitted walks from r to s; the empty walk is permitted from r to r only
pub data NodeWalk (U : View) (r s : ℕ) (links : List ℕ) : Type 0 where
  stays : links ≡ [] → r ≡ s → NodeWalk U r s links
  enters : (l : ℕ) → LinkWalk U r l links → U.to l ≡ s → NodeWalk U r s links

-- cost, number of links, and back
pub record Entry : Type 0 where
  pub cost : ℕ
  pub links : ℕ
  pub back : ℕ

abbrev pub start_back : ℕ
start_back = 65534

abbrev pub no_entry : Entry
no_entry = record { cost = 4294967295; links = 0; back = 65535 }

abbrev pub last_or : ℕ → List ℕ → ℕ
last_or none [] = none
last_or none (n ∷ rest) = last_or n rest

-- a link's back: the turn that the walk ends with, or 65,534 for a walk of one link
abbrev pub link_back : View → List ℕ → ℕ
link_back U links = last_or start_back (turns_of U links)

-- a turn's back: the turn before it, or 65,534 if there is none
abbrev pub turn_back : View → List ℕ → ℕ
turn_back U links = link_back U (drop_last links)

-- the entry for the walks W is the figures of the chosen one, or of none where there is none
pub data True (U : View) (W : List ℕ → Type 0) (back : List ℕ → ℕ) (entry : Entry) : Type 0 where
  chosen : (links : List ℕ) → Chosen U W links → entry ≡ record { cost = cost_of U links; links = length links; back = back links } → True U W back entry
  absent : ((links : List ℕ) → W links → ⊥) → entry ≡ no_entry → True U W back entry

abbrev pub TrueTurn : View → ℕ → ℕ → Entry → Type 0
TrueTurn U r t entry = True U (TurnWalk U r t) (turn_back U) entry

abbrev pub TrueLink : View → ℕ → ℕ → Entry → Type 0
TrueLink U r l entry = True U (LinkWalk U r l) (link_back U) entry

-- the route: the best by the same order over all links entering the destination
abbrev pub Route : View → ℕ → ℕ → List ℕ → Type 0
Route U r s links = Chosen U (NodeWalk U r s) links

-- labels lie in lent buffers: cost, links and back, one of each an entry
pub record Table : Type 0 where
  pub cost : List ℕ
  pub links : List ℕ
  pub back : List ℕ

-- the table of three buffers
abbrev pub three : List ℕ → List ℕ → List ℕ → Table
three cost links back = record { cost = cost; links = links; back = back }

abbrev pub entry_at : Table → ℕ → Entry
entry_at table k = record { cost = get_or table.cost k 0; links = get_or table.links k 0; back = get_or table.back k 0 }

-- each buffer is as long as the book's count, and every entry is the true one
pub record TrueTable (count : ℕ) (TrueAt : ℕ → Entry → Type 0) (table : Table) : Type 0 where
  pub costs : length table.cost ≡ count
  pub counts : length table.links ≡ count
  pub backs : length table.back ≡ count
  pub entry : (k : ℕ) → k < count → TrueAt k (entry_at table k)

-- the labels of a view from r: a table for its turns and one for its links
pub record TrueLabels (U : View) (r : ℕ) (turns links : Table) : Type 0 where
  pub turn : TrueTable U.turns (TrueTurn U r) turns
  pub link : TrueTable U.links (TrueLink U r) links
