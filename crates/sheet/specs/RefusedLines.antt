-- What wrong printers would print of book A's route from 0 to 3, byte for byte.
use Rattle.std.specs.Prelude.{ℕ, ◌≤◌, List, [], ◌∷◌, ◌++◌, length, drop, Some}
use Rattle.book.specs.BookA.{written, book_a}
use Rattle.walk.specs.Cases.{All}
use Rattle.walk.specs.Labelled.{RightAlone}
use Rattle.sheet.specs.Sheet.{longest_line, Sheet}
use Rattle.sheet.specs.FareSheet.{longest_text, FareSheet}

-- nodes 0 and 3, then the book
abbrev pub input_a : List ℕ
input_a = written (0 ∷ 3 ∷ []) ++ book_a

-- 0 342, then 230 3 9 100, then 5 0 1 3 1 2, without what ends the line
abbrev pub cost_part : List ℕ
cost_part = 48 ∷ 32 ∷ 51 ∷ 52 ∷ 50 ∷ []

abbrev pub split_part : List ℕ
split_part = 32 ∷ 50 ∷ 51 ∷ 48 ∷ 32 ∷ 51 ∷ 32 ∷ 57 ∷ 32 ∷ 49 ∷ 48 ∷ 48 ∷ []

abbrev pub links_part : List ℕ
links_part = 32 ∷ 53 ∷ 32 ∷ 48 ∷ 32 ∷ 49 ∷ 32 ∷ 51 ∷ 32 ∷ 49 ∷ 32 ∷ 50 ∷ []

abbrev pub route_a : List ℕ
route_a = cost_part ++ split_part ++ links_part

abbrev pub line_a : List ℕ
line_a = route_a ++ (10 ∷ [])

abbrev pub wrong_lines : List (List ℕ)
wrong_lines =
    -- a blank in place of the newline
    (route_a ++ (32 ∷ []))
    -- 230 9 3 100: wait and walk exchanged
    ∷ (cost_part ++ (32 ∷ 50 ∷ 51 ∷ 48 ∷ 32 ∷ 57 ∷ 32 ∷ 51 ∷ 32 ∷ 49 ∷ 48 ∷ 48 ∷ []) ++ links_part ++ (10 ∷ []))
    -- 230 3 109 0: the carry-over counted as walk
    ∷ (cost_part ++ (32 ∷ 50 ∷ 51 ∷ 48 ∷ 32 ∷ 51 ∷ 32 ∷ 49 ∷ 48 ∷ 57 ∷ 32 ∷ 48 ∷ []) ++ links_part ++ (10 ∷ []))
    -- the line without the four figures; the four after the number of links
    ∷ (cost_part ++ links_part ++ (10 ∷ []))
    ∷ (cost_part ++ (32 ∷ 53 ∷ []) ++ split_part ++ drop 2 links_part ++ (10 ∷ []))
    -- 0 0 0 0 0 0 0: the destination stands for the origin too
    ∷ (48 ∷ 32 ∷ 48 ∷ 32 ∷ 48 ∷ 32 ∷ 48 ∷ 32 ∷ 48 ∷ 32 ∷ 48 ∷ 32 ∷ 48 ∷ 10 ∷ [])
    -- 14 0: no permitted walk
    ∷ (49 ∷ 52 ∷ 32 ∷ 48 ∷ 10 ∷ [])
    ∷ []

-- the contract allows these bytes at the front of the text, and the rest as it was
abbrev pub Prints : List ℕ → List ℕ → Type 0
Prints text bytes = Sheet input_a text (Some (length bytes)) (bytes ++ drop (length bytes) text)

abbrev pub LinesRefused : Type 0
LinesRefused = (text : List ℕ) → longest_line ≤ length text → All (RightAlone (Prints text) line_a) wrong_lines

-- metres of five links, the last of 70,000, and the basic fares of two lines: numbers of four bytes, in halves
abbrev pub table_a : List ℕ
table_a = written (3000 ∷ 0 ∷ 4001 ∷ 0 ∷ 2500 ∷ 0 ∷ 3500 ∷ 0 ∷ 4464 ∷ 1 ∷ 550 ∷ 0 ∷ 800 ∷ 0 ∷ [])

-- nodes 0 and 3, then 10,000 and 5,000 metres, 100 won and the book's 97 bytes
abbrev pub fare_input_a : List ℕ
fare_input_a = written (0 ∷ 3 ∷ 10000 ∷ 0 ∷ 5000 ∷ 0 ∷ 100 ∷ 0 ∷ 97 ∷ 0 ∷ []) ++ book_a ++ table_a

-- 1000 on a second line
abbrev pub fare_a : List ℕ
fare_a = 49 ∷ 48 ∷ 48 ∷ 48 ∷ 10 ∷ []

abbrev pub text_a : List ℕ
text_a = line_a ++ fare_a

abbrev pub wrong_texts : List (List ℕ)
wrong_texts =
    -- 17 0: the table is read from where the book begins
    (49 ∷ 55 ∷ 32 ∷ 48 ∷ 10 ∷ [])
    -- 10800: the premium is read from the step's place
    ∷ (line_a ++ (49 ∷ 48 ∷ 56 ∷ 48 ∷ 48 ∷ 10 ∷ []))
    -- the first line without the four figures
    ∷ (cost_part ++ links_part ++ (10 ∷ []) ++ fare_a)
    -- the route's line alone
    ∷ line_a
    ∷ []

abbrev pub FarePrints : List ℕ → List ℕ → Type 0
FarePrints text bytes = FareSheet fare_input_a text (Some (length bytes)) (bytes ++ drop (length bytes) text)

abbrev pub TextsRefused : Type 0
TextsRefused = (text : List ℕ) → longest_text ≤ length text → All (RightAlone (FarePrints text) text_a) wrong_texts
