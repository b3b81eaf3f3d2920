-- Document 02, request 3, for the fare printer: the lines for every input, and what is left in the text that was lent for them.
use Rattle.std.specs.Prelude.{ℕ, ◌+◌, ◌*◌, ◌/◌, ◌%◌, ◌≤◌, ◌<◌, ◌≡◌, List, [], ◌∷◌, ◌++◌, Bool, true, false, ◌&&◌, eqb, length, take, drop, Ok, Some, None, Option}
use Rattle.book.specs.declared.Counts.{Counts}
use Rattle.book.specs.Number.{number_at}
use Rattle.walk.specs.View.{up_to, view_of}
use Rattle.walk.specs.Labels.{Route}
use Rattle.search.specs.Tests.{both_nodes}
use Rattle.fare.specs.declared.Terms.{Terms}
use Rattle.fare.specs.Amounts.{in_metres, in_won}
use Rattle.fare.specs.Fares.{fares_of, fares_good}
use Rattle.fare.specs.Fare.{fare_of}
use Rattle.sheet.specs.Line.{line}
use Rattle.sheet.specs.Sheet.{origin_of, destination_of, route_fields, Planned}

-- a number of four bytes, low byte first
unfoldable pub long_at : List ℕ → ℕ → ℕ
long_at bytes at = number_at bytes at + 65536 * number_at bytes (at + 2)

-- origin, destination (two bytes each), then basic distance, step, premium and the book's number of bytes (four each), then the book
abbrev pub before_fare_book : ℕ
before_fare_book = 20

abbrev pub terms_of : List ℕ → Terms
terms_of input = record { distance = in_metres (long_at input 4); step = in_metres (long_at input 8); premium = in_won (long_at input 12) }

abbrev pub book_bytes : List ℕ → ℕ
book_bytes input = long_at input 16

-- where the input ends before that, the book is what there is of it
abbrev pub book_in : List ℕ → List ℕ
book_in input = take (book_bytes input) (drop before_fare_book input)

-- then the fare table, to the end of the input
abbrev pub table_in : List ℕ → List ℕ
table_in input = drop (before_fare_book + book_bytes input) input

-- the bytes of an entry
abbrev pub entry_bytes : ℕ
entry_bytes = 4

abbrev pub entries_of : List ℕ → List ℕ
entries_of bytes = up_to (length bytes / entry_bytes) (λ k. long_at bytes (entry_bytes * k))

-- a table that ends within an entry is of another length
unfoldable pub bytes_good : Counts → List ℕ → Terms → Bool
bytes_good counts bytes terms = eqb (length bytes % entry_bytes) 0 && fares_good counts (entries_of bytes) terms

-- the lines for the way from r to s: the printer's own and, after a route's, its fare in won alone; 17 and 0 where there is a route but the fares are not good
pub data FarePlanned (book : List ℕ) (r s : ℕ) (table : List ℕ) (terms : Terms) (lines : List (List ℕ)) : Type 0 where
  refused : (number place : ℕ) → Planned book r s (number ∷ place ∷ []) → lines ≡ (number ∷ place ∷ []) ∷ [] → FarePlanned book r s table terms lines
  bad_fares : (counts : Counts) → both_nodes book r s ≡ Ok counts → (links : List ℕ) → Route (view_of book counts) r s links
      → bytes_good counts table terms ≡ false → lines ≡ (17 ∷ 0 ∷ []) ∷ [] → FarePlanned book r s table terms lines
  done : (counts : Counts) → both_nodes book r s ≡ Ok counts → (links : List ℕ) → Route (view_of book counts) r s links
      → bytes_good counts table terms ≡ true
      → lines ≡ route_fields (view_of book counts) links ∷ ((fare_of (fares_of (view_of book counts) (entries_of table) terms) links).0 ∷ []) ∷ []
      → FarePlanned book r s table terms lines

-- the lines for an input: fewer than 20 bytes print 1 and 0
pub data FareSays (input : List ℕ) (lines : List (List ℕ)) : Type 0 where
  short : length input < before_fare_book → lines ≡ (1 ∷ 0 ∷ []) ∷ [] → FareSays input lines
  asked : before_fare_book ≤ length input → FarePlanned (book_in input) (origin_of input) (destination_of input) (table_in input) (terms_of input) lines → FareSays input lines

-- one line after the other
unfoldable pub text_of : List (List ℕ) → List ℕ
text_of [] = []
text_of (fields ∷ rest) = line fields ++ text_of rest

-- the longest line, then a fare of 14 digits with its newline
abbrev pub longest_text : ℕ
longest_text = 20557

-- what a fare sheet answers, and leaves in the text that it was lent: a text shorter than the longest is left as it was
pub data FareSheet (input text : List ℕ) (answer : Option ℕ) (after : List ℕ) : Type 0 where
  no_room : length text < longest_text → answer ≡ None → after ≡ text → FareSheet input text answer after
  printed : longest_text ≤ length text → (lines : List (List ℕ)) → FareSays input lines → answer ≡ Some (length (text_of lines)) → after ≡ text_of lines ++ drop (length (text_of lines)) text → FareSheet input text answer after
