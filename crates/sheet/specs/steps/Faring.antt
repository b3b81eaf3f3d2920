-- What stands between the route that was found, its fares, and the lines that are put.
use Rattle.std.specs.Prelude.{ℕ, ◌+◌, ◌*◌, ◌≤◌, ◌≡◌, ◌⊎◌, List, [], ◌∷◌, Bool, true, false, cond, eqb, length, Ok}
use Rattle.book.specs.declared.Counts.{Counts}
use Rattle.book.specs.Check.{check_of}
use Rattle.walk.specs.View.{view_of}
use Rattle.search.specs.steps.Routes.{route_room}
use Rattle.fare.specs.declared.Terms.{Terms}
use Rattle.fare.specs.Fares.{fares_of}
use Rattle.fare.specs.Fare.{fare_of}
use Rattle.fare.specs.steps.Reckoning.{LinksGiven}
use Rattle.sheet.specs.declared.Page.{Page}
use Rattle.sheet.specs.Line.{line}
use Rattle.sheet.specs.Sheet.{longest_line}
use Rattle.sheet.specs.FareSheet.{entry_bytes, entries_of, bytes_good, text_of}
use Rattle.sheet.specs.steps.Storing.{Put}
use Rattle.sheet.specs.steps.Routes.{asked_fields}

-- the entries are read where they take as many bytes as there are; else the table is left as it was
abbrev pub read_into : List ℕ → List ℕ → List ℕ
read_into bytes table = cond (eqb (length bytes) (entry_bytes * length table)) (entries_of bytes) table

-- whether the fares are good, and what is left in the table that was lent for them
pub record FaresRead (counts : Counts) (bytes : List ℕ) (terms : Terms) (table : List ℕ) (answer : Bool) (after : List ℕ) : Type 0 where
  pub tells : answer ≡ bytes_good counts bytes terms
  pub left : after ≡ read_into bytes table

-- few enough links of a good book, whose line from r is no longer than the longest
pub record RouteToFare (book : List ℕ) (counts : Counts) (r cost : ℕ) (links : List ℕ) : Type 0 where
  pub checked : check_of book ≡ Ok counts
  pub given : LinksGiven counts links
  pub few : length links ≤ route_room
  pub fits : length (line (asked_fields book r cost links)) ≤ longest_line

-- the lines for a route from r of these links: its own and its fare, or 17 and 0
pub data FareTold (book : List ℕ) (counts : Counts) (table : List ℕ) (terms : Terms) (r cost : ℕ) (links : List ℕ) (lines : List (List ℕ)) : Type 0 where
  bad_fares : bytes_good counts table terms ≡ false → lines ≡ (17 ∷ 0 ∷ []) ∷ [] → FareTold book counts table terms r cost links lines
  done : bytes_good counts table terms ≡ true → lines ≡ asked_fields book r cost links ∷ ((fare_of (fares_of (view_of book counts) (entries_of table) terms) links).0 ∷ []) ∷ [] → FareTold book counts table terms r cost links lines

-- lines of which this holds
pub record LinesPut (Told : List (List ℕ) → Type 0) (before after : Page) : Type 0 where
  pub lines : List (List ℕ)
  pub told : Told lines
  pub put : Put before (text_of lines) after

-- the part of an input from `from` up to this place is its first so many bytes from there on, or all that there are
pub record BookEnd (from bytes end place : ℕ) : Type 0 where
  pub after : from ≤ place
  pub within : place ≤ end
  pub part : (place ≡ from + bytes) ⊎ ((place ≡ end) × (end ≤ from + bytes))
