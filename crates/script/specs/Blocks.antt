-- What is left of a block of a file.
use Rattle.std.specs.Prelude.{ℕ, List, drop, take}
use Rattle.script.specs.declared.reading.Block.{Block}

-- the bytes that are still to be taken
abbrev pub bytes_left : Block → List ℕ
bytes_left block = drop block.at (take block.end block.bytes)
