-- The marks of settled turns, and how many there are.
use Rattle.std.specs.Prelude.{ℕ, ◌+◌, List, [], ◌∷◌, Bool, not}
use Rattle.walk.specs.Counting.{one_unless}

unfoldable pub settled_count : List Bool → ℕ
settled_count [] = 0
settled_count (mark ∷ rest) = one_unless (not mark) + settled_count rest
