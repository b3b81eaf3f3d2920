-- Document 01, "Book A": its 97 bytes.
use Rattle.std.specs.Prelude.{ℕ, ◌/◌, ◌%◌, List, [], ◌∷◌, ◌++◌}
use Rattle.book.specs.declared.Counts.{Counts}
use Rattle.book.specs.Entries.{barred}

-- numbers as they stand in a book
abbrev pub written : List ℕ → List ℕ
written [] = []
written (n ∷ rest) = n % 256 ∷ n / 256 ∷ written rest

-- mark, version, then nodes, lines, links, turns, listed pairs, carry-over
abbrev header_a : List ℕ
header_a = 76 ∷ 84 ∷ 66 ∷ written (1 ∷ 4 ∷ 2 ∷ 5 ∷ 5 ∷ 1 ∷ 100 ∷ [])

-- headways
abbrev lines_a : List ℕ
lines_a = written (0 ∷ 5 ∷ [])

-- from, to, line, ride
abbrev links_a : List ℕ
links_a =
    written (0 ∷ 1 ∷ 0 ∷ 40 ∷ [])
    ++ written (1 ∷ 2 ∷ 0 ∷ 50 ∷ [])
    ++ written (2 ∷ 3 ∷ 0 ∷ 30 ∷ [])
    ++ written (2 ∷ 1 ∷ 1 ∷ 60 ∷ [])
    ++ written (0 ∷ 2 ∷ 1 ∷ 400 ∷ [])

-- first link, second link, walk
abbrev turns_a : List ℕ
turns_a =
    written (0 ∷ 1 ∷ 0 ∷ [])
    ++ written (1 ∷ 2 ∷ 5 ∷ [])
    ++ written (1 ∷ 3 ∷ 0 ∷ [])
    ++ written (3 ∷ 1 ∷ 4 ∷ [])
    ++ written (4 ∷ 2 ∷ 9 ∷ [])

-- first turn, second turn, extra
abbrev pairs_a : List ℕ
pairs_a = written (0 ∷ 1 ∷ barred ∷ [])

abbrev pub book_a : List ℕ
book_a = header_a ++ lines_a ++ links_a ++ turns_a ++ pairs_a

abbrev pub counts_a : Counts
counts_a = record { nodes = 4; lines = 2; links = 5; turns = 5; pairs = 1; carry_over = 100 }
