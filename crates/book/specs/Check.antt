-- Document 01, "Numbers given back": what a check answers. Tests run in the order of the numbers, and the first that finds something gives its own.
use Rattle.std.specs.Prelude.{ℕ, List, Bool, true, false, Result, Ok, Err, length, leb, eqb}
use Rattle.book.specs.declared.Counts.{Counts}
use Rattle.book.specs.declared.Refusal.{Refusal}
use Rattle.book.specs.declared.Refusal.TheVariants.{TooShort, Mark, Version, Limit, Length, Line, Link, Turn, Pair, NoNode, BadChange, LabelLength, UntrueLabel, NoWalk, NoRoom, Fares}
use Rattle.book.specs.declared.GivenBack.{GivenBack}
use Rattle.book.specs.Header.{header_bytes, mark_good, version_good, counts_of, counts_good}
use Rattle.book.specs.Tables.{book_end, line_table, link_table, turn_table, pair_table}
use Rattle.book.specs.Entries.{line_good, link_good, turn_good, pair_good}
use Rattle.book.specs.FirstBad.{first_bad}

-- the counts of a good book, or why it is refused
abbrev pub Checked : Type 0
Checked = Result Counts Refusal

-- the number of each refusal
abbrev pub number_of : Refusal → ℕ
number_of TooShort = 1
number_of Mark = 2
number_of Version = 3
number_of Limit = 4
number_of Length = 5
number_of (Line k) = 6
number_of (Link k) = 7
number_of (Turn k) = 8
number_of (Pair k) = 9
number_of NoNode = 10
number_of BadChange = 11
number_of LabelLength = 12
number_of UntrueLabel = 13
number_of NoWalk = 14
number_of NoRoom = 15
number_of Fares = 17

-- 6 to 9: the place is the number of the first bad entry, from 0 in its own table; the place of every other is 0
abbrev pub place_of : Refusal → ℕ
place_of TooShort = 0
place_of Mark = 0
place_of Version = 0
place_of Limit = 0
place_of Length = 0
place_of (Line k) = k
place_of (Link k) = k
place_of (Turn k) = k
place_of (Pair k) = k
place_of NoNode = 0
place_of BadChange = 0
place_of LabelLength = 0
place_of UntrueLabel = 0
place_of NoWalk = 0
place_of NoRoom = 0
place_of Fares = 0

-- where the test holds, go on; else the refusal
abbrev pub unless : Bool → Refusal → Checked → Checked
unless true found rest = rest
unless false found rest = Err found

-- the first of `count` entries that is bad is refused
abbrev pub unless_all_good : (ℕ → Refusal) → (ℕ → Bool) → ℕ → Checked → Checked
unless_all_good bad good count rest = unless (leb count (first_bad good count)) (bad (first_bad good count)) rest

-- 6, 7, 8, 9: a line, link, turn, pair breaks a rule, of tables with these counts
unfoldable pub tables_of : List ℕ → List ℕ → List ℕ → List ℕ → Counts → Checked
tables_of lines links turns pairs counts =
    unless_all_good Line (line_good lines) counts.lines
    (unless_all_good Link (link_good counts.nodes counts.lines links) counts.links
    (unless_all_good Turn (turn_good counts.links links turns) counts.turns
    (unless_all_good Pair (pair_good counts.turns turns pairs) counts.pairs
    (Ok counts))))

abbrev pub tables_in : List ℕ → Counts → Checked
tables_in book counts = tables_of (line_table book counts) (link_table book counts) (turn_table book counts) (pair_table book counts) counts

-- 1: under 17 bytes; 2: mark; 3: version; 4: a count or the carry-over above its limit; 5: length differs from what the counts give
unfoldable pub check_of : List ℕ → Checked
check_of book =
    unless (leb header_bytes (length book)) TooShort
    (unless (mark_good book) Mark
    (unless (version_good book) Version
    (unless (counts_good (counts_of book)) Limit
    (unless (eqb (length book) (book_end (counts_of book))) Length
    (tables_in book (counts_of book))))))

abbrev pub given : ℕ → ℕ → GivenBack
given number place = record { number = number; place = place }

-- number and place of each case of an answer: 0 and 0 where it is done
abbrev pub given_back : {A : Type 0} → Result A Refusal → GivenBack
given_back (Ok done) = given 0 0
given_back (Err found) = given (number_of found) (place_of found)
