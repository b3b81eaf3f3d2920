-- Document 01, "The day book": the fields of an entry of each table, and the rules that a good entry keeps.
use Rattle.std.specs.Prelude.{ℕ, ◌+◌, ◌-◌, ◌*◌, List, Bool, not, ◌&&◌, ◌||◌, ltb, leb, eqb}
use Rattle.book.specs.Number.{number_at}
use Rattle.book.specs.Tables.{line_bytes, link_bytes, join_bytes}

-- the number at byte `offset` of entry k, in a table whose entries have `size` bytes
abbrev pub field : ℕ → ℕ → List ℕ → ℕ → ℕ
field size offset table k = number_at table (size * k + offset)

-- Line, 2 bytes: headway
abbrev pub line_headway : List ℕ → ℕ → ℕ
line_headway table k = field line_bytes 0 table k

abbrev pub most_headway : ℕ
most_headway = 7200

unfoldable pub line_good : List ℕ → ℕ → Bool
line_good table k = leb (line_headway table k) most_headway

-- Link, 8 bytes: from node, to node, line, ride
abbrev pub link_from : List ℕ → ℕ → ℕ
link_from table k = field link_bytes 0 table k

abbrev pub link_to : List ℕ → ℕ → ℕ
link_to table k = field link_bytes 2 table k

abbrev pub link_line : List ℕ → ℕ → ℕ
link_line table k = field link_bytes 4 table k

abbrev pub link_ride : List ℕ → ℕ → ℕ
link_ride table k = field link_bytes 6 table k

abbrev pub most_ride : ℕ
most_ride = 36000

-- nodes and line must exist; from and to differ
unfoldable pub link_good : ℕ → ℕ → List ℕ → ℕ → Bool
link_good nodes lines table k =
    ltb (link_from table k) nodes
    && ltb (link_to table k) nodes
    && ltb (link_line table k) lines
    && leb (link_ride table k) most_ride
    && not (eqb (link_from table k) (link_to table k))

-- Turn and pair, 6 bytes: first, second, and the seconds of the walk or the extra. They have one shape, called a join here
abbrev pub join_first : List ℕ → ℕ → ℕ
join_first table k = field join_bytes 0 table k

abbrev pub join_second : List ℕ → ℕ → ℕ
join_second table k = field join_bytes 2 table k

abbrev pub join_seconds : List ℕ → ℕ → ℕ
join_seconds table k = field join_bytes 4 table k

abbrev pub most_seconds : ℕ
most_seconds = 3600

-- closed, of a walk; forbidden, of an extra
abbrev pub barred : ℕ
barred = 65535

unfoldable pub seconds_good : ℕ → Bool
seconds_good seconds = leb seconds most_seconds || eqb seconds barred

-- entries ascend strictly by first, then second
unfoldable pub ascends : List ℕ → ℕ → Bool
ascends table k =
    eqb k 0
    || (ltb (join_first table (k - 1)) (join_first table k)
    || eqb (join_first table (k - 1)) (join_first table k) && ltb (join_second table (k - 1)) (join_second table k))

-- both of what it joins must exist, and the first ends where the second begins
unfoldable pub join_good : ℕ → (ℕ → ℕ) → (ℕ → ℕ) → List ℕ → ℕ → Bool
join_good count ends begins table k =
    ltb (join_first table k) count
    && (ltb (join_second table k) count
    && (eqb (ends (join_first table k)) (begins (join_second table k)) && seconds_good (join_seconds table k) && ascends table k))

-- Turn: first link, second link, walk
abbrev pub turn_first : List ℕ → ℕ → ℕ
turn_first table k = join_first table k

abbrev pub turn_second : List ℕ → ℕ → ℕ
turn_second table k = join_second table k

abbrev pub turn_walk : List ℕ → ℕ → ℕ
turn_walk table k = join_seconds table k

-- it joins two links, and a link ends at its to node and begins at its from node
abbrev pub turn_good : ℕ → List ℕ → List ℕ → ℕ → Bool
turn_good links link_table = join_good links (link_to link_table) (link_from link_table)

-- Pair: first turn, second turn, extra
abbrev pub pair_first : List ℕ → ℕ → ℕ
pair_first table k = join_first table k

abbrev pub pair_second : List ℕ → ℕ → ℕ
pair_second table k = join_second table k

abbrev pub pair_extra : List ℕ → ℕ → ℕ
pair_extra table k = join_seconds table k

-- it joins two turns, and a turn ends with its second link and begins with its first
abbrev pub pair_good : ℕ → List ℕ → List ℕ → ℕ → Bool
pair_good turns turn_table = join_good turns (turn_second turn_table) (turn_first turn_table)
