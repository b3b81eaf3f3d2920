-- The walk of a turn within its table lies within the book.
use Rattle.std.proofs.Common.{arith}
use Rattle.book.proofs.Passes.{as_long}
use Rattle.book.proofs.writing.write_walk.Goals as goal

pub turns_at-requires : goal.turns_at-requires
turns_at-requires c = omega (arith, as_long _ _ c.requires.0)

pub overflow_add-entry : goal.overflow_add-entry
overflow_add-entry c = omega (arith, as_long _ _ c.requires.0)

pub overflow_add-entry-2 : goal.overflow_add-entry-2
overflow_add-entry-2 c = omega (arith, as_long _ _ c.requires.0)

pub write_number-requires : goal.write_number-requires
write_number-requires c = omega (arith, as_long _ _ c.requires.0)
