-- The contract of cost_of is an equation, so it leaves one answer for each book, origin and list of links.
use Prim.Native.Nat.{ℕ}
use mathlib.Core.Path.{◌≡◌, sym, ◌∙◌}
use mathlib.Core.List.{List}
use Rattle.walk.specs.Given.{Answer, cost_of_walk}

pub cost_determined : (book : List ℕ) (origin : ℕ) (links : List ℕ) (one other : Answer) → one ≡ cost_of_walk book origin links → other ≡ cost_of_walk book origin links → one ≡ other
cost_determined book origin links one other a b = a ∙ sym b
