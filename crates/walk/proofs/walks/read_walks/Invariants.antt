-- The walks passed are filled.
use Rattle.book.specs.Entries.{turn_walk}
use Rattle.book.specs.Tables.{turn_table}
use Rattle.walk.proofs.Filling.{Filled}
use Rattle.walk.proofs.walks.read_walks.Given as goal

abbrev pub invariant-loop-turn : goal.invariant-loop-turn
invariant-loop-turn l = Filled (turn_walk (turn_table l.book.bytes.now l.book.counts)) l.walks l.turn
