-- Document 01, "The day book": the fields of the first 17 bytes, and what each allows.
use Rattle.std.specs.Prelude.{ℕ, List, Bool, ◌&&◌, get_or, leb, eqb}
use Rattle.book.specs.declared.Counts.{Counts}
use Rattle.book.specs.Number.{number_at}

abbrev pub header_bytes : ℕ
header_bytes = 17

-- offset 0: mark, the letters `LTB`
unfoldable pub mark_good : List ℕ → Bool
mark_good book = eqb (get_or book 0 0) 76 && eqb (get_or book 1 0) 84 && eqb (get_or book 2 0) 66

-- offset 3: version, 1
unfoldable pub version_good : List ℕ → Bool
version_good book = eqb (number_at book 3) 1

-- offsets 5 to 15: the five counts and the carry-over seconds
unfoldable pub counts_of : List ℕ → Counts
counts_of book =
    record {
      nodes = number_at book 5;
      lines = number_at book 7;
      links = number_at book 9;
      turns = number_at book 11;
      pairs = number_at book 13;
      carry_over = number_at book 15;
    }

abbrev pub most_nodes : ℕ
most_nodes = 1024

abbrev pub most_lines : ℕ
most_lines = 256

abbrev pub most_links : ℕ
most_links = 2048

abbrev pub most_turns : ℕ
most_turns = 4096

abbrev pub most_pairs : ℕ
most_pairs = 2048

abbrev pub most_carry_over : ℕ
most_carry_over = 3600

-- each is within its limit
unfoldable pub counts_good : Counts → Bool
counts_good counts =
    leb counts.nodes most_nodes
    && leb counts.lines most_lines
    && leb counts.links most_links
    && leb counts.turns most_turns
    && leb counts.pairs most_pairs
    && leb counts.carry_over most_carry_over
