-- Document 01, "Book A": the marked cases P1 to P10, with P11 of document 02, request 1, and what each says of walks.
use Rattle.std.specs.Prelude.{ℕ, ◌<◌, ◌≡◌, List, [], ◌∷◌, length, get_or, Ok}
use Rattle.book.specs.declared.Counts.{Counts}
use Rattle.book.specs.Number.{with_number}
use Rattle.book.specs.Entries.{barred}
use Rattle.book.specs.Check.{check_of}
use Rattle.book.specs.BookA.{book_a, counts_a}
use Rattle.book.specs.Changes.{Change, with_changes}
use Rattle.walk.specs.View.{View, view_of}
use Rattle.walk.specs.Walks.{cost_of}
use Rattle.walk.specs.Labels.{Entry, TrueTurn, TrueLink, NodeWalk, Route, no_entry, start_back}
use Rattle.walk.specs.Counting.{differing}

-- changes of walks
abbrev pub set_to : ℕ → ℕ → Change
set_to turn walk = record { turn = turn; walk = walk }

abbrev pub closed : ℕ → Change
closed turn = set_to turn barred

abbrev pub changed_a : List Change → List ℕ
changed_a changes = with_changes book_a counts_a changes

abbrev pub entry : ℕ → ℕ → ℕ → Entry
entry cost links back = record { cost = cost; links = links; back = back }

pub data Claim : Type 0 where
  turns_are : List Entry → Claim
  links_are : List Entry → Claim
  -- to a destination: its cost and its links in travel order
  route_is : ℕ → ℕ → List ℕ → Claim
  route_costs : ℕ → ℕ → Claim
  no_route : ℕ → Claim
  -- turn entries and link entries that differ from those of the case's book as given
  counts_are : ℕ → ℕ → Claim

-- a good book, walks that are then changed in it, and what is claimed
pub record Case : Type 0 where
  pub book : List ℕ
  pub counts : Counts
  pub changes : List Change
  pub claims : List Claim

-- of book A
abbrev pub after : List Change → List Claim → Case
after changes claims = record { book = book_a; counts = counts_a; changes = changes; claims = claims }

-- book A with line 0's headway at 80, where a wait at every link would give 482 by 4 2
abbrev pub long_headway_a : List ℕ
long_headway_a = with_number book_a 17 80

abbrev pub seated : List Claim → Case
seated claims = record { book = long_headway_a; counts = counts_a; changes = []; claims = claims }

-- the labels of book A from 0
abbrev pub turn_entries_a : List Entry
turn_entries_a = entry 90 2 start_back ∷ entry 342 5 3 ∷ entry 153 3 0 ∷ entry 207 4 2 ∷ entry 442 2 start_back ∷ []

abbrev pub link_entries_a : List Entry
link_entries_a = entry 40 1 start_back ∷ entry 90 2 0 ∷ entry 342 5 1 ∷ entry 153 3 2 ∷ entry 403 1 start_back ∷ []

-- P1 to P11, in this order
abbrev pub cases : List Case
cases =
    after [] (turns_are turn_entries_a ∷ [])
    ∷ after [] (links_are link_entries_a ∷ [])
    ∷ after [] (route_is 3 342 (0 ∷ 1 ∷ 3 ∷ 1 ∷ 2 ∷ []) ∷ [])
    ∷ after [] (route_is 0 0 [] ∷ [])
    ∷ after (closed 3 ∷ []) (counts_are 2 1 ∷ route_is 3 442 (4 ∷ 2 ∷ []) ∷ [])
    ∷ after (closed 3 ∷ closed 4 ∷ []) (no_route 3 ∷ [])
    ∷ after (set_to 3 0 ∷ []) (route_costs 3 238 ∷ [])
    ∷ after (set_to 3 103 ∷ []) (route_is 3 441 (0 ∷ 1 ∷ 3 ∷ 1 ∷ 2 ∷ []) ∷ [])
    ∷ after (set_to 3 104 ∷ []) (route_is 3 442 (4 ∷ 2 ∷ []) ∷ [])
    ∷ after (set_to 0 10 ∷ []) (counts_are 4 3 ∷ route_costs 3 352 ∷ [])
    ∷ seated (turns_are (entry 130 2 start_back ∷ entry 462 5 3 ∷ entry 193 3 0 ∷ entry 287 4 2 ∷ entry 482 2 start_back ∷ []) ∷ route_is 3 462 (0 ∷ 1 ∷ 3 ∷ 1 ∷ 2 ∷ []) ∷ [])
    ∷ []

pub record Table (count : ℕ) (TrueAt : ℕ → Entry → Type 0) (rows : List Entry) : Type 0 where
  pub as_long : length rows ≡ count
  pub each : (k : ℕ) → k < count → TrueAt k (get_or rows k no_entry)

pub record RouteIs (U : View) (s cost : ℕ) (links : List ℕ) : Type 0 where
  pub route : Route U 0 s links
  pub costs : cost_of U links ≡ cost

pub record CountsAre (U changed : View) (turns links : ℕ) : Type 0 where
  pub turn_before : ℕ → Entry
  pub turn_after : ℕ → Entry
  pub link_before : ℕ → Entry
  pub link_after : ℕ → Entry
  pub true_turn_before : (t : ℕ) → t < U.turns → TrueTurn U 0 t (turn_before t)
  pub true_turn_after : (t : ℕ) → t < changed.turns → TrueTurn changed 0 t (turn_after t)
  pub true_link_before : (l : ℕ) → l < U.links → TrueLink U 0 l (link_before l)
  pub true_link_after : (l : ℕ) → l < changed.links → TrueLink changed 0 l (link_after l)
  pub turn_count : differing turn_before turn_after U.turns ≡ turns
  pub link_count : differing link_before link_after U.links ≡ links

-- what a claim says, of the book as given and of the changed one
abbrev pub Says : View → View → Claim → Type 0
Says U changed (turns_are rows) = Table changed.turns (TrueTurn changed 0) rows
Says U changed (links_are rows) = Table changed.links (TrueLink changed 0) rows
Says U changed (route_is s cost links) = RouteIs changed s cost links
Says U changed (route_costs s cost) = (links : List ℕ) × RouteIs changed s cost links
Says U changed (no_route s) = (links : List ℕ) → NodeWalk changed 0 s links → ⊥
Says U changed (counts_are turns links) = CountsAre U changed turns links

abbrev pub All : {A : Type 0} → (A → Type 0) → List A → Type 0
All P [] = Unit {0}
All P (a ∷ rest) = P a × All P rest

abbrev pub view_a : List Change → View
view_a changes = view_of (changed_a changes) counts_a

abbrev pub changed_in : Case → List ℕ
changed_in c = with_changes c.book c.counts c.changes

-- the changed book is good, and every claim of the case holds
abbrev pub Holds : Case → Type 0
Holds c = (check_of (changed_in c) ≡ Ok c.counts) × All (Says (view_of c.book c.counts) (view_of (changed_in c) c.counts)) c.claims
