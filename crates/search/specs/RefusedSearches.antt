-- Document 01, "How far the contracts go": what a wrong search from 0 would answer and leave.
use Rattle.std.specs.Prelude.{List, false, [], ◌∷◌, Ok, Err, Some, Option}
use Rattle.walk.specs.Labels.{Entry, no_entry, start_back}
use Rattle.walk.specs.Cases.{entry}
use Rattle.walk.specs.RefusedSheets.{diamond}
use Rattle.walk.specs.Labelled.{Labelled, as_table, given, RightAlone}
use Rattle.search.specs.Search.{Search, Searched}
use Rattle.search.specs.steps.Picking.{Picks}
use Rattle.book.specs.declared.Refusal.TheVariants.{LabelLength, NoNode}
use Rattle.book.specs.declared.TurnNumber.{TurnNumber}

-- an answer, and the label entries afterwards
pub record Outcome : Type 0 where
  pub answer : Searched
  pub turns : List Entry
  pub links : List Entry

-- a search from 0 of a book, lent label buffers that hold these entries: what is right and what is claimed
pub record Row : Type 0 where
  pub lent : Labelled
  pub right : Outcome
  pub claimed : Outcome

abbrev pub leaving : Searched → Labelled → Outcome
leaving answer after = record { answer = answer; turns = after.turns; links = after.links }

-- label buffers for five that hold entries without a walk
abbrev pub five_unreached : List Entry
five_unreached = no_entry ∷ no_entry ∷ no_entry ∷ no_entry ∷ no_entry ∷ []

-- book A has five turns and five links
abbrev pub unlabelled : Labelled
unlabelled = record { book = given.book; turns = five_unreached; links = five_unreached }

-- what is reached in book A where turn 0 is never settled
abbrev pub without_the_first : Labelled
without_the_first =
    record {
      book = given.book;
      turns = entry 90 2 start_back ∷ no_entry ∷ no_entry ∷ no_entry ∷ entry 442 2 start_back ∷ [];
      links = entry 40 1 start_back ∷ entry 90 2 0 ∷ entry 442 2 4 ∷ no_entry ∷ entry 403 1 start_back ∷ [];
    }

-- a book of four turns and five links, and buffers for five of each
abbrev pub turn_too_many : Labelled
turn_too_many = record { book = diamond; turns = five_unreached; links = five_unreached }

abbrev pub of_book_a : Outcome → Row
of_book_a claimed = record { lent = unlabelled; right = leaving (Ok tt) given; claimed = claimed }

abbrev pub with_turn_too_many : Outcome → Row
with_turn_too_many claimed = record { lent = turn_too_many; right = leaving (Err LabelLength) turn_too_many; claimed = claimed }

abbrev pub wrong_searches : Labelled → List Row
wrong_searches anything =
    -- one that always refuses
    of_book_a (leaving (Err NoNode) unlabelled)
    -- one that only says that it is done
    ∷ of_book_a (leaving (Ok tt) unlabelled)
    -- one that never settles turn 0
    ∷ of_book_a (leaving (Ok tt) without_the_first)
    -- one that measures the turns' buffers by the book's count of links
    ∷ with_turn_too_many (leaving (Ok tt) anything)
    ∷ []

-- the contract allows an outcome of the row's search
abbrev pub Allows : Row → Outcome → Type 0
Allows row outcome = Search row.lent.book 0 (as_table row.lent.turns) (as_table row.lent.links) outcome.answer (as_table outcome.turns) (as_table outcome.links)

abbrev pub Refused : Row → Type 0
Refused row = RightAlone (Allows row) row.right row.claimed

-- which turn is settled next where two are alike in cost and links
abbrev pub OfAlike : Option TurnNumber → Type 0
OfAlike picked = Picks (90 ∷ 90 ∷ []) (2 ∷ 2 ∷ []) (false ∷ false ∷ []) picked

-- the contract of a pick allows the first, and not the later one
abbrev pub FirstOfAlike : Type 0
FirstOfAlike = OfAlike (Some (record { 0 = 0 })) × (OfAlike (Some (record { 0 = 1 })) → ⊥)
