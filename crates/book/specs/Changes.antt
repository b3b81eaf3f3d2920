-- Document 01, "What can be asked": an edit writes the turn's two walk bytes.
use Rattle.std.specs.Prelude.{ℕ, ◌+◌, ◌*◌, List, [], ◌∷◌}
use Rattle.book.specs.declared.Counts.{Counts}
use Rattle.book.specs.Number.{with_number}
use Rattle.book.specs.Tables.{turns_at, join_bytes}

-- the book with `walk` as the walk of a turn, and nothing else changed
abbrev pub with_walk : List ℕ → Counts → ℕ → ℕ → List ℕ
with_walk book counts turn walk = with_number book (turns_at counts + (join_bytes * turn + 4)) walk

-- a turn and its new walk
pub record Change : Type 0 where
  pub turn : ℕ
  pub walk : ℕ

-- the book with changes written in order
abbrev pub with_changes : List ℕ → Counts → List Change → List ℕ
with_changes book counts [] = book
with_changes book counts (change ∷ rest) = with_changes (with_walk book counts change.turn change.walk) counts rest
