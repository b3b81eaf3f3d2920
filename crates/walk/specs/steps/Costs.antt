-- What a walk's first link costs, and what each turn after it adds beside the extra: the sums of what they add to the four figures.
use Rattle.std.specs.Prelude.{ℕ}
use Rattle.walk.specs.View.{View}
use Rattle.walk.specs.Walks.{total}
use Rattle.walk.specs.steps.Splits.{link_split, turn_split}

abbrev pub link_cost : View → ℕ → ℕ
link_cost U l = total (link_split U l)

unfoldable pub turn_cost : View → ℕ → ℕ
turn_cost U t = total (turn_split U 0 t)
