-- The test of the keys' order, and with it the labels of a view computed round by round over all turns, for the worked cases.
use Rattle.std.specs.Prelude.{ℕ, zero, suc, List, [], Bool, ◌&&◌, ◌||◌, ltb, eqb, get_or}
use Rattle.walk.specs.View.{View, up_to}
use Rattle.walk.specs.Labels.{Key}
use Rattle.walk.specs.steps.Net.{Entry, unreached}
use Rattle.walk.specs.steps.Sweep.{turn_entry, link_entry, route_entry}
use Rattle.walk.specs.steps.ViewNet.{net}

abbrev pub key_less : Key → Key → Bool
key_less a b = ltb a.cost b.cost || eqb a.cost b.cost && ltb a.links b.links

abbrev pub table_of : List (Entry Key) → ℕ → Entry Key
table_of rows t = get_or rows t unreached

abbrev pub sweep_of : View → ℕ → List (Entry Key) → ℕ → Entry Key
sweep_of U r rows t = turn_entry Key (net U r) key_less (table_of rows) t

unfoldable pub rounds_of : ℕ → View → ℕ → List (Entry Key) → List (Entry Key)
rounds_of zero U r rows = rows
rounds_of (suc n) U r rows = rounds_of n U r (up_to U.turns (sweep_of U r rows))

abbrev pub turn_rows : View → ℕ → List (Entry Key)
turn_rows U r = rounds_of (suc U.turns) U r []

abbrev pub link_row : View → ℕ → List (Entry Key) → ℕ → Entry Key
link_row U r rows l = link_entry Key (net U r) key_less (table_of rows) l

abbrev pub route_row : View → ℕ → List (Entry Key) → ℕ → Entry Key
route_row U r rows s = route_entry Key (net U r) key_less (link_row U r rows) r s
