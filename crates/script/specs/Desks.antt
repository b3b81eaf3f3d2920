-- What the whole desk lends.
use Rattle.std.specs.Prelude.{ℕ, Option, unwrap_or, min, drop}
use Rattle.script.specs.BookBytes.{bytes_in, first_number}
use Rattle.script.specs.Tables.{named_of, with_named, with_figure}
use Rattle.script.specs.declared.books.TheConstants.{LINKS_AT, MOST_LINKS, MOST_TURNS, TURNS_AT}
use Rattle.script.specs.declared.figures.Buffer.{Buffer}
use Rattle.script.specs.declared.figures.Column.{Column}
use Rattle.script.specs.declared.figures.Buffer.TheVariants.{Turn, Link}
use Rattle.script.specs.declared.figures.TheConstants.{LENT_ROOM}
use Rattle.script.specs.declared.laid.Desk.{Desk}

-- how many turns the book's header counts, up to the most that a book has
abbrev pub turns_on : Desk → ℕ
turns_on desk = min (first_number (drop TURNS_AT (bytes_in desk.book))) MOST_TURNS

-- how many links it counts
abbrev pub links_on : Desk → ℕ
links_on desk = min (first_number (drop LINKS_AT (bytes_in desk.book))) MOST_LINKS

-- how many numbers of a label buffer are lent: what a `lend` said, or as many as the book counts
abbrev pub lent_on : Desk → Buffer → ℕ
lent_on desk (Turn column) = min (unwrap_or (named_of desk.turns column) (turns_on desk)) LENT_ROOM
lent_on desk (Link column) = min (unwrap_or (named_of desk.links column) (links_on desk)) LENT_ROOM

-- the desk with that much of a label buffer lent
abbrev pub with_lent : Desk → Buffer → Option ℕ → Desk
with_lent desk (Turn column) count = record desk { turns = with_named desk.turns column count }
with_lent desk (Link column) count = record desk { links = with_named desk.links column count }

-- the desk with that figure in a label buffer
abbrev pub with_label : Desk → Buffer → ℕ → ℕ → Desk
with_label desk (Turn column) at value = record desk { turns = with_figure desk.turns column at value }
with_label desk (Link column) at value = record desk { links = with_figure desk.links column at value }

-- the column that a label buffer is
abbrev pub column_of : Buffer → Column
column_of (Turn column) = column
column_of (Link column) = column
