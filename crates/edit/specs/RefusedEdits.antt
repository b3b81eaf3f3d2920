-- Document 01, "How far the contracts go" and "Habits that give a neat wrong sheet": what a wrong edit would answer and leave, on book A.
use Rattle.std.specs.Prelude.{ℕ, List, [], ◌∷◌}
use Rattle.book.specs.Entries.{barred}
use Rattle.walk.specs.Labels.{no_entry, start_back}
use Rattle.walk.specs.Cases.{entry}
use Rattle.walk.specs.Labelled.{Labelled, as_table, given, shut, RightAlone}
use Rattle.edit.specs.Edit.{Edit, altered}

-- the two counts of an edit that says it is done, and what it leaves
pub record Outcome : Type 0 where
  pub altered_turns : ℕ
  pub altered_links : ℕ
  pub after : Labelled

-- an edit from origin 0: of a book and its labels, a turn, its new walk, what is right and what is claimed
pub record Row : Type 0 where
  pub before : Labelled
  pub turn : ℕ
  pub walk : ℕ
  pub right : Outcome
  pub claimed : Outcome

-- the closed turn's own entry wiped, those further on as they were
abbrev pub wiped : Labelled
wiped =
    record {
      book = shut.book;
      turns = entry 90 2 start_back ∷ entry 342 5 3 ∷ entry 153 3 0 ∷ no_entry ∷ entry 442 2 start_back ∷ [];
      links = given.links;
    }

abbrev pub leaving : ℕ → ℕ → Labelled → Outcome
leaving turns links after = record { altered_turns = turns; altered_links = links; after = after }

-- turn 3 of book A is closed
abbrev pub closing : Outcome → Row
closing claimed = record { before = given; turn = 3; walk = barred; right = leaving 2 1 shut; claimed = claimed }

-- and then set back to its 4 seconds
abbrev pub reopening : Outcome → Row
reopening claimed = record { before = shut; turn = 3; walk = 4; right = leaving 2 1 given; claimed = claimed }

-- an edit that leaves a wrong book or wrong labels may answer any counts
abbrev pub wrong_edits : ℕ → ℕ → List Row
wrong_edits any-turns any-links =
    -- an edit that does nothing
    closing (leaving any-turns any-links given)
    -- one that works the first time and later returns success only
    ∷ reopening (leaving any-turns any-links shut)
    -- one that invents the counts
    ∷ closing (leaving 5 5 shut)
    ∷ closing (leaving 0 0 shut)
    -- one that closes a change by wiping its own entry only
    ∷ closing (leaving any-turns any-links wiped)
    ∷ []

-- the contract allows an outcome of the row's edit
abbrev pub Allows : Row → Outcome → Type 0
Allows row outcome =
    Edit row.before.book 0 row.turn row.walk (as_table row.before.turns) (as_table row.before.links)
    (altered outcome.altered_turns outcome.altered_links) outcome.after.book (as_table outcome.after.turns) (as_table outcome.after.links)

abbrev pub Refused : Row → Type 0
Refused row = RightAlone (Allows row) row.right row.claimed
