-- Document 01, "How far the contracts go": what a wrong route from 0 would answer and leave, on book A.
use Rattle.std.specs.Prelude.{ℕ, List, [], ◌∷◌, Err}
use Rattle.walk.specs.Labels.{Entry, start_back}
use Rattle.walk.specs.Cases.{entry}
use Rattle.walk.specs.Labelled.{Labelled, as_table, given, cut_off, by_the_last, RightAlone}
use Rattle.search.specs.Route.{Routing, routed, RouteAnswer}
use Rattle.book.specs.declared.Refusal.TheVariants.{NoWalk, UntrueLabel}

-- an answer, and the route buffer afterwards
pub record Outcome : Type 0 where
  pub answer : RouteAnswer
  pub buffer : List ℕ

-- a route from 0 over a book and its labels, with room for six links: what is right and what is claimed
pub record Row : Type 0 where
  pub asked : Labelled
  pub destination : ℕ
  pub right : Outcome
  pub claimed : Outcome

abbrev pub room : List ℕ
room = 9 ∷ 9 ∷ 9 ∷ 9 ∷ 9 ∷ 9 ∷ []

abbrev pub leaving : RouteAnswer → List ℕ → Outcome
leaving answer buffer = record { answer = answer; buffer = buffer }

-- labels of book A that are true but for turn 3's: another back, or another number of links
abbrev pub with_turn_three : Entry → Labelled
with_turn_three third =
    record {
      book = given.book;
      turns = entry 90 2 start_back ∷ entry 342 5 3 ∷ entry 153 3 0 ∷ third ∷ entry 442 2 start_back ∷ [];
      links = given.links;
    }

abbrev pub another_back : Labelled
another_back = with_turn_three (entry 207 4 0)

abbrev pub another_number : Labelled
another_number = with_turn_three (entry 207 3 2)

abbrev pub no_walk_outcome : Outcome
no_walk_outcome = leaving (Err NoWalk) room

-- the loop of P3
abbrev pub loop : Outcome
loop = leaving (routed 342 5) (0 ∷ 1 ∷ 3 ∷ 1 ∷ 2 ∷ 9 ∷ [])

abbrev pub to_three : Outcome → Row
to_three claimed = record { asked = given; destination = 3; right = loop; claimed = claimed }

abbrev pub to_one : Outcome → Row
to_one claimed = record { asked = given; destination = 1; right = leaving (routed 40 1) (0 ∷ 9 ∷ 9 ∷ 9 ∷ 9 ∷ 9 ∷ []); claimed = claimed }

-- turns 3 and 4 are closed, as in P6
abbrev pub to_nowhere : Outcome → Row
to_nowhere claimed = record { asked = cut_off; destination = 3; right = no_walk_outcome; claimed = claimed }

-- turn 0 is closed
abbrev pub to_two : Outcome → Row
to_two claimed = record { asked = by_the_last; destination = 2; right = leaving (routed 403 1) (4 ∷ 9 ∷ 9 ∷ 9 ∷ 9 ∷ 9 ∷ []); claimed = claimed }

abbrev pub over_untrue : Labelled → Outcome → Row
over_untrue asked claimed = record { asked = asked; destination = 3; right = leaving (Err UntrueLabel) room; claimed = claimed }

abbrev pub wrong_routes : ℕ → List ℕ → List Row
wrong_routes any-cost any-buffer =
    -- one that always refuses
    to_three no_walk_outcome
    ∷ to_one no_walk_outcome
    -- one that finds no walk where the last link is the best
    ∷ to_two no_walk_outcome
    -- one that always gives the same route
    ∷ to_one loop
    ∷ to_nowhere loop
    -- a neat line over the closed change, at any cost
    ∷ to_nowhere (leaving (routed any-cost 2) any-buffer)
    -- one that judges labels by their costs
    ∷ over_untrue another_back (leaving (routed 342 5) any-buffer)
    ∷ over_untrue another_number (leaving (routed 342 5) any-buffer)
    -- the loop's cost beside another walk, and beside the loop with its first link a place late, or in the other direction
    ∷ to_three (leaving (routed 342 5) (4 ∷ 2 ∷ 9 ∷ 9 ∷ 9 ∷ 9 ∷ []))
    ∷ to_three (leaving (routed 342 5) (9 ∷ 0 ∷ 3 ∷ 1 ∷ 2 ∷ 9 ∷ []))
    ∷ to_three (leaving (routed 342 5) (2 ∷ 1 ∷ 3 ∷ 1 ∷ 0 ∷ 9 ∷ []))
    -- the loop, and a number written behind it
    ∷ to_three (leaving (routed 342 5) (0 ∷ 1 ∷ 3 ∷ 1 ∷ 2 ∷ 0 ∷ []))
    ∷ []

-- the contract allows an outcome of the row's route
abbrev pub Allows : Row → Outcome → Type 0
Allows row outcome = Routing row.asked.book 0 row.destination (as_table row.asked.turns) (as_table row.asked.links) room outcome.answer outcome.buffer

abbrev pub Refused : Row → Type 0
Refused row = RightAlone (Allows row) row.right row.claimed
