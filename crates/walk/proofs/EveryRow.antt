-- A table holds row by row where every row passes a test that tells it.
use mathlib.Core.Path.{◌≡◌}
use mathlib.Core.List.{List, [], ◌∷◌, map}
use mathlib.Core.Bool.{Bool, true}
use Rattle.book.proofs.Limits.{both}
use Rattle.walk.specs.Walks.{all}
use Rattle.walk.specs.Cases.{All}

pub every_row : {Row : Type 0} (Holds : Row → Type 0) (test : Row → Bool) → ((row : Row) → test row ≡ true → Holds row) → (rows : List Row) → all (map test rows) ≡ true → All Holds rows
every_row Holds test tells [] h = tt
every_row Holds test tells (row ∷ rest) h =
    let (here, later) = both (test row) (all (map test rest)) h in
    (tells row here, every_row Holds test tells rest later)
