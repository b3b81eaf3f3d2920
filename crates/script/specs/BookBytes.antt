-- The bytes of the day book on the desk, and what its header counts.
use Rattle.std.specs.Prelude.{ℕ, ◌+◌, ◌-◌, ◌*◌, List, [], ◌∷◌, ◌++◌, length, take, min, replicate}
use Rattle.script.specs.declared.books.DayBook.{DayBook}
use Rattle.script.specs.declared.books.TheConstants.{BOOK_ROOM, MARK_AND_VERSION}

-- the book's room: its bytes, and what lies behind them
abbrev pub room_of : DayBook → List ℕ
room_of book = book.bytes

-- the first so many bytes, and noughts to the end of the room
abbrev pub laid : ℕ → List ℕ → List ℕ
laid count bytes = take count bytes ++ replicate (BOOK_ROOM - count) 0

-- how many bytes there are
abbrev pub byte_length : List ℕ → ℕ
byte_length bytes = length bytes

-- the book's bytes
abbrev pub bytes_in : DayBook → List ℕ
bytes_in book = take (min book.length BOOK_ROOM) book.bytes

-- how many bytes the book has
abbrev pub byte_count : DayBook → ℕ
byte_count book = length (bytes_in book)

-- a book of noughts behind mark and version
abbrev pub new_book : ℕ → List ℕ
new_book count = take count (laid 4 MARK_AND_VERSION.now)

-- the two-byte number that these bytes begin with, or 0 where there are not two
abbrev pub first_number : List ℕ → ℕ
first_number [] = 0
first_number (_ ∷ []) = 0
first_number (low ∷ high ∷ _) = low + 256 * high
