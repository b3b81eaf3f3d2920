-- Turns ascend by first link and pairs by first turn, so those of one first number are a run of entries.
use Rattle.std.specs.Prelude.{ℕ, List, ltb}
use Rattle.book.specs.Entries.{join_first}
use Rattle.book.specs.FirstBad.{first_bad}

-- the first of `joins` entries whose first number is n or more, or `joins`
unfoldable pub run_from : List ℕ → ℕ → ℕ → ℕ
run_from table joins n = first_bad (λ k. ltb (join_first table k) n) joins
