-- Document 01, "The day book": four tables follow from byte 17; each is a part of the book that begins where the one before it ends.
use Rattle.std.specs.Prelude.{ℕ, ◌+◌, ◌-◌, ◌*◌, List, take, drop}
use Rattle.book.specs.declared.Counts.{Counts}
use Rattle.book.specs.Header.{header_bytes}

-- the bytes of an entry of each table; a join is a turn or a pair, which have one shape
abbrev pub line_bytes : ℕ
line_bytes = 2

abbrev pub link_bytes : ℕ
link_bytes = 8

abbrev pub join_bytes : ℕ
join_bytes = 6

-- where each table begins, and where the book ends
abbrev pub lines_at : ℕ
lines_at = header_bytes

abbrev pub links_at : Counts → ℕ
links_at counts = lines_at + line_bytes * counts.lines

abbrev pub turns_at : Counts → ℕ
turns_at counts = links_at counts + link_bytes * counts.links

abbrev pub pairs_at : Counts → ℕ
pairs_at counts = turns_at counts + join_bytes * counts.turns

abbrev pub book_end : Counts → ℕ
book_end counts = pairs_at counts + join_bytes * counts.pairs

-- the bytes from `start` up to `end`
abbrev pub part : List ℕ → ℕ → ℕ → List ℕ
part book start end = take (end - start) (drop start book)

abbrev pub line_table : List ℕ → Counts → List ℕ
line_table book counts = part book lines_at (links_at counts)

abbrev pub link_table : List ℕ → Counts → List ℕ
link_table book counts = part book (links_at counts) (turns_at counts)

abbrev pub turn_table : List ℕ → Counts → List ℕ
turn_table book counts = part book (turns_at counts) (pairs_at counts)

abbrev pub pair_table : List ℕ → Counts → List ℕ
pair_table book counts = part book (pairs_at counts) (book_end counts)
