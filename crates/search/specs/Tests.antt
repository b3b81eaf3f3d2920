-- Document 01, "Numbers given back": tests 10 and 12, each after what the earlier tests answered.
use Rattle.std.specs.Prelude.{ℕ, List, Bool, ◌&&◌, ltb, eqb, length, Ok, Err}
use Rattle.book.specs.Check.{Checked, check_of, unless}
use Rattle.walk.specs.Labels.{Table}
use Rattle.book.specs.declared.Refusal.TheVariants.{LabelLength, NoNode}

-- 10: the origin, or the destination, is no node
unfoldable pub node_test : Checked → ℕ → Checked
node_test (Err found) node = Err found
node_test (Ok counts) node = unless (ltb node counts.nodes) NoNode (Ok counts)

-- 10: origin and destination
abbrev pub both_nodes : List ℕ → ℕ → ℕ → Checked
both_nodes book r s = node_test (node_test (check_of book) r) s

-- each of a table's three buffers is as long as the book's count
unfoldable pub fits : ℕ → Table → Bool
fits count table = eqb (length table.cost) count && (eqb (length table.links) count && eqb (length table.back) count)

-- 12: a label buffer has another length
unfoldable pub length_test : Checked → Table → Table → Checked
length_test (Err found) turns links = Err found
length_test (Ok counts) turns links = unless (fits counts.turns turns && fits counts.links links) LabelLength (Ok counts)
