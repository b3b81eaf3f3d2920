-- The cost of a given walk: tests 1 to 10 as document 01 has them, then the walk by its rules. The other answers are this layer's own.
use Rattle.std.specs.Prelude.{ℕ, List, Bool, true, false, Result, Ok, Err, length, ltb, leb}
use Rattle.book.specs.declared.Refusal.TheVariants.{NoNode}
use Rattle.book.specs.Check.{Checked, check_of}
use Rattle.walk.specs.declared.Split.{Split}
use Rattle.walk.specs.declared.Costed.{Costed}
use Rattle.walk.specs.declared.NoCost.{NoCost}
use Rattle.walk.specs.declared.NoCost.TheVariants.{Refused, TooLong, NotPermitted}
use Rattle.walk.specs.View.{view_of}
use Rattle.walk.specs.Walks.{permitted, cost_of, split_of}

abbrev pub most_links_given : ℕ
most_links_given = 65535

-- the cost of a permitted walk and where its minutes go, or why a walk has none
abbrev pub Answer : Type 0
Answer = Result Costed NoCost

abbrev pub permitted_at : ℕ → Split → Answer
permitted_at cost split = Ok (record { cost = cost; split = split })

abbrev pub or_else : Bool → Answer → Answer → Answer
or_else true found other = found
or_else false found other = other

-- 10: the origin is no node; then more than 65,535 links; then whether the walk is permitted, its cost and where its minutes go
unfoldable pub cost_answer : Checked → List ℕ → ℕ → List ℕ → Answer
cost_answer (Err found) book r links = Err (Refused found)
cost_answer (Ok counts) book r links =
    or_else (leb counts.nodes r) (Err (Refused NoNode))
    (or_else (ltb most_links_given (length links)) (Err TooLong)
    (or_else (permitted (view_of book counts) r links) (permitted_at (cost_of (view_of book counts) links) (split_of (view_of book counts) links))
    (Err NotPermitted)))

abbrev pub cost_of_walk : List ℕ → ℕ → List ℕ → Answer
cost_of_walk book r links = cost_answer (check_of book) book r links
