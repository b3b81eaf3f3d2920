use Rattle.std.proofs.Common.{◌≤◌, length}
use Rattle.script.proofs.files.read_full.Given as goal

-- what is read lies within the bytes
abbrev pub invariant-reads : goal.invariant-reads
invariant-reads g l = l.end ≤ length l.bytes
