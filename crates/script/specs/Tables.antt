-- A table of label figures on the desk, and how much of a column a `lend` named.
use Rattle.std.specs.Prelude.{ℕ, ◌<◌, Option, None, slice_set, replicate}
use Rattle.script.specs.declared.figures.Column.{Column}
use Rattle.script.specs.declared.figures.Column.TheVariants.{Cost, Links, Back}
use Rattle.script.specs.declared.figures.Table.{Table}
use Rattle.script.specs.declared.figures.TheConstants.{LENT_ROOM}

-- a table of noughts, of which no `lend` named a column
abbrev pub no_labels : Table
no_labels = record {
  cost = replicate LENT_ROOM 0;
  links = replicate LENT_ROOM 0;
  back = replicate LENT_ROOM 0;
  cost_lent = None;
  links_lent = None;
  back_lent = None;
}

-- how much of a column is lent, where a `lend` named it
abbrev pub named_of : Table → Column → Option ℕ
named_of table Cost = table.cost_lent
named_of table Links = table.links_lent
named_of table Back = table.back_lent

-- the table with that much of a column lent
abbrev pub with_named : Table → Column → Option ℕ → Table
with_named table Cost count = record table { cost_lent = count }
with_named table Links count = record table { links_lent = count }
with_named table Back count = record table { back_lent = count }

-- the table with that figure in a column
abbrev pub with_figure : Table → Column → ℕ → ℕ → Table
with_figure table Cost at value = record table { cost = slice_set table.cost at value }
with_figure table Links at value = record table { links = slice_set table.links at value }
with_figure table Back at value = record table { back = slice_set table.back at value }

-- a column of links or of backs has two bytes for a figure
abbrev pub FitsIn : Column → ℕ → Type 0
FitsIn Cost value = value < 4294967296
FitsIn Links value = value < 65536
FitsIn Back value = value < 65536
