-- Document 01, "Habits that give a neat wrong sheet": what each habit, and each slip beside them, would give, on book A or on the smallest book that shows it.
use Rattle.std.specs.Prelude.{ℕ, ◌≡◌, List, [], ◌∷◌, ◌++◌, Ok}
use Rattle.book.specs.declared.Counts.{Counts}
use Rattle.book.specs.Number.{with_number}
use Rattle.book.specs.Check.{check_of}
use Rattle.book.specs.BookA.{book_a, counts_a, written}
use Rattle.walk.specs.View.{View, view_of}
use Rattle.walk.specs.Labels.{Entry, no_entry, start_back, TrueTurn, TrueLink, Route}
use Rattle.walk.specs.Cases.{set_to, closed, changed_a, entry, long_headway_a}

pub data Sheet : Type 0 where
  -- a turn's entry, a link's entry
  turn_entry : ℕ → Entry → Sheet
  link_entry : ℕ → Entry → Sheet
  -- the route to a destination
  route_to : ℕ → List ℕ → Sheet

-- a good book, and a sheet of it
pub record Row : Type 0 where
  pub book : List ℕ
  pub counts : Counts
  pub sheet : Sheet

abbrev pub of_book : List ℕ → Counts → Sheet → Row
of_book book counts sheet = record { book = book; counts = counts; sheet = sheet }

-- two stops, a link each way, and no cost anywhere
abbrev pub circle : List ℕ
circle =
    76 ∷ 84 ∷ 66 ∷ written (1 ∷ 2 ∷ 1 ∷ 2 ∷ 2 ∷ 0 ∷ 0 ∷ [])
    ++ written (0 ∷ [])
    ++ written (0 ∷ 1 ∷ 0 ∷ 0 ∷ [])
    ++ written (1 ∷ 0 ∷ 0 ∷ 0 ∷ [])
    ++ written (0 ∷ 1 ∷ 0 ∷ [])
    ++ written (1 ∷ 0 ∷ 0 ∷ [])

abbrev pub counts_of_circle : Counts
counts_of_circle = record { nodes = 2; lines = 1; links = 2; turns = 2; pairs = 0; carry_over = 0 }

-- two ways of equal cost and links: 0 3 4, and 1 2 4, which has the smaller link at the last difference
abbrev pub diamond : List ℕ
diamond =
    76 ∷ 84 ∷ 66 ∷ written (1 ∷ 5 ∷ 1 ∷ 5 ∷ 4 ∷ 0 ∷ 0 ∷ [])
    ++ written (0 ∷ [])
    ++ written (0 ∷ 1 ∷ 0 ∷ 0 ∷ [])
    ++ written (0 ∷ 2 ∷ 0 ∷ 0 ∷ [])
    ++ written (2 ∷ 3 ∷ 0 ∷ 0 ∷ [])
    ++ written (1 ∷ 3 ∷ 0 ∷ 0 ∷ [])
    ++ written (3 ∷ 4 ∷ 0 ∷ 0 ∷ [])
    ++ written (0 ∷ 3 ∷ 0 ∷ [])
    ++ written (1 ∷ 2 ∷ 0 ∷ [])
    ++ written (2 ∷ 4 ∷ 0 ∷ [])
    ++ written (3 ∷ 4 ∷ 0 ∷ [])

abbrev pub counts_of_diamond : Counts
counts_of_diamond = record { nodes = 5; lines = 1; links = 5; turns = 4; pairs = 0; carry_over = 0 }

-- book A with its pair listed at 0 seconds and a walk of 10 in turn 0
abbrev pub listed_at_zero : List ℕ
listed_at_zero = with_number (with_number book_a 95 0) 65 10

abbrev pub sheets : List Row
sheets =
    -- one label per link keeps link 1 at 90 and loses the loop
    of_book book_a counts_a (route_to 3 (4 ∷ 2 ∷ []))
    ∷ of_book book_a counts_a (turn_entry 1 no_entry)
    ∷ of_book book_a counts_a (link_entry 2 (entry 442 2 4))
    -- a price of 900 in place of a ban gives a banned walk a cost
    ∷ of_book (changed_a (closed 3 ∷ closed 4 ∷ [])) counts_a (turn_entry 1 (entry 1025 3 0))
    ∷ of_book (changed_a (closed 3 ∷ closed 4 ∷ [])) counts_a (route_to 3 (0 ∷ 1 ∷ 2 ∷ []))
    -- backs chosen by cost alone run in a circle
    ∷ of_book circle counts_of_circle (turn_entry 0 (entry 0 2 1))
    ∷ of_book circle counts_of_circle (turn_entry 0 (entry 0 4 1))
    -- a closing that wipes its own entry only still leads through the closed turn
    ∷ of_book (changed_a (closed 3 ∷ [])) counts_a (turn_entry 1 (entry 342 5 3))
    -- the carry-over on top of a listed extra
    ∷ of_book listed_at_zero counts_a (turn_entry 1 (entry 235 3 0))
    -- ties settled by the first link, not by the last difference
    ∷ of_book diamond counts_of_diamond (route_to 4 (0 ∷ 3 ∷ 4 ∷ []))
    -- a closed turn passed at 65,535 seconds
    ∷ of_book (changed_a (closed 3 ∷ [])) counts_a (turn_entry 3 (entry 65738 4 2))
    -- half a headway of 5 rounded down
    ∷ of_book book_a counts_a (link_entry 4 (entry 402 1 start_back))
    -- of walks of equal cost, as in P9, the one with more links
    ∷ of_book (changed_a (set_to 3 104 ∷ [])) counts_a (route_to 3 (0 ∷ 1 ∷ 3 ∷ 1 ∷ 2 ∷ []))
    -- a wait at every link; none after a walk within a line; none after a change of line without a walk
    ∷ of_book long_headway_a counts_a (route_to 3 (4 ∷ 2 ∷ []))
    ∷ of_book long_headway_a counts_a (turn_entry 1 (entry 422 5 3))
    ∷ of_book book_a counts_a (turn_entry 2 (entry 150 3 0))
    ∷ []

abbrev pub Denied : View → Sheet → Type 0
Denied U (turn_entry t e) = TrueTurn U 0 t e → ⊥
Denied U (link_entry l e) = TrueLink U 0 l e → ⊥
Denied U (route_to s links) = Route U 0 s links → ⊥

-- the book is good and the sheet is not its
abbrev pub Refused : Row → Type 0
Refused row = (check_of row.book ≡ Ok row.counts) × Denied (view_of row.book row.counts) row.sheet
