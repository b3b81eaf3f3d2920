-- Document 01, the route printer: what the one line says for every input, and what is left in the text that was lent for it.
use Rattle.std.specs.Prelude.{ℕ, ◌≤◌, ◌<◌, ◌≡◌, List, [], ◌∷◌, ◌++◌, length, drop, Ok, Err, Some, None, Option}
use Rattle.book.specs.declared.Counts.{Counts}
use Rattle.book.specs.declared.Refusal.{Refusal}
use Rattle.book.specs.Check.{number_of, place_of}
use Rattle.book.specs.Number.{number_at}
use Rattle.walk.specs.declared.Split.{Split}
use Rattle.walk.specs.View.{View, view_of}
use Rattle.walk.specs.Walks.{cost_of, split_of, figures_of}
use Rattle.walk.specs.Labels.{NodeWalk, Route}
use Rattle.search.specs.Tests.{both_nodes}
use Rattle.sheet.specs.Line.{line}

-- origin, destination (two bytes each), then the book
abbrev pub before_book : ℕ
before_book = 4

abbrev pub origin_of : List ℕ → ℕ
origin_of input = number_at input 0

abbrev pub destination_of : List ℕ → ℕ
destination_of input = number_at input 2

abbrev pub book_of : List ℕ → List ℕ
book_of input = drop before_book input

-- a route's fields: 0, cost, where the minutes go (document 02, request 5), number of links, then the links
abbrev pub fields_of : ℕ → Split → List ℕ → List ℕ
fields_of cost split links = 0 ∷ cost ∷ (figures_of split ++ (length links ∷ links))

abbrev pub route_fields : View → List ℕ → List ℕ
route_fields U links = fields_of (cost_of U links) (split_of U links) links

-- the fields for the way from r to s: a refusal's number and place, or the route's
pub data Planned (book : List ℕ) (r s : ℕ) (fields : List ℕ) : Type 0 where
  refused : (found : Refusal) → both_nodes book r s ≡ Err found → fields ≡ number_of found ∷ place_of found ∷ [] → Planned book r s fields
  no_walk : (counts : Counts) → both_nodes book r s ≡ Ok counts → ((links : List ℕ) → NodeWalk (view_of book counts) r s links → ⊥) → fields ≡ 14 ∷ 0 ∷ [] → Planned book r s fields
  done : (counts : Counts) → both_nodes book r s ≡ Ok counts → (links : List ℕ) → Route (view_of book counts) r s links → fields ≡ route_fields (view_of book counts) links → Planned book r s fields

-- the fields for an input: fewer than 4 bytes print 1 and 0
pub data Says (input fields : List ℕ) : Type 0 where
  short : length input < before_book → fields ≡ 1 ∷ 0 ∷ [] → Says input fields
  asked : before_book ≤ length input → Planned (book_of input) (origin_of input) (destination_of input) fields → Says input fields

-- a 0, five figures of 9 digits, a count of 4, up to 4,097 links of 4, a blank before each but the first, and the newline
abbrev pub longest_line : ℕ
longest_line = 20542

-- what a sheet answers, and leaves in the text that it was lent: a text shorter than the longest line is left as it was
pub data Sheet (input text : List ℕ) (answer : Option ℕ) (after : List ℕ) : Type 0 where
  no_room : length text < longest_line → answer ≡ None → after ≡ text → Sheet input text answer after
  printed : longest_line ≤ length text → (fields : List ℕ) → Says input fields → answer ≡ Some (length (line fields)) → after ≡ line fields ++ drop (length (line fields)) text → Sheet input text answer after
