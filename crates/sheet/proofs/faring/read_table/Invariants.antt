-- The entries passed stand at the front of the table.
use Rattle.std.proofs.Common.{◌*◌}
use Rattle.walk.proofs.Filling.{Filled}
use Rattle.sheet.specs.FareSheet.{long_at, entry_bytes}
use Rattle.sheet.proofs.faring.read_table.Given as goal

abbrev pub invariant-loop-k : goal.invariant-loop-k
invariant-loop-k l = Filled (λ k. long_at l.bytes (entry_bytes * k)) l.table l.k
