-- Book A and its labels from 0, as given and with turns closed, and what it is that one outcome alone is right, for the rows of wrong answers.
use Rattle.std.specs.Prelude.{ℕ, List, [], ◌∷◌, map}
use Rattle.book.specs.BookA.{book_a}
use Rattle.walk.specs.Labels.{Entry, Table, no_entry, start_back}
use Rattle.walk.specs.Cases.{closed, changed_a, entry, turn_entries_a, link_entries_a}

-- a book and its label entries
pub record Labelled : Type 0 where
  pub book : List ℕ
  pub turns : List Entry
  pub links : List Entry

-- entries as they lie in lent buffers
abbrev pub as_table : List Entry → Table
as_table entries = record { cost = map (λ (e : Entry). e.cost) entries; links = map (λ (e : Entry). e.links) entries; back = map (λ (e : Entry). e.back) entries }

-- book A with P1 and P2
abbrev pub given : Labelled
given = record { book = book_a; turns = turn_entries_a; links = link_entries_a }

-- book A with turn 3 closed, as in P5: turns 1 and 3 and link 2 differ
abbrev pub shut : Labelled
shut =
    record {
      book = changed_a (closed 3 ∷ []);
      turns = entry 90 2 start_back ∷ no_entry ∷ entry 153 3 0 ∷ no_entry ∷ entry 442 2 start_back ∷ [];
      links = entry 40 1 start_back ∷ entry 90 2 0 ∷ entry 442 2 4 ∷ entry 153 3 2 ∷ entry 403 1 start_back ∷ [];
    }

-- book A with turns 3 and 4 closed, as in P6: nothing enters node 3
abbrev pub cut_off : Labelled
cut_off =
    record {
      book = changed_a (closed 3 ∷ closed 4 ∷ []);
      turns = entry 90 2 start_back ∷ no_entry ∷ entry 153 3 0 ∷ no_entry ∷ no_entry ∷ [];
      links = entry 40 1 start_back ∷ entry 90 2 0 ∷ no_entry ∷ entry 153 3 2 ∷ entry 403 1 start_back ∷ [];
    }

-- book A with turn 0 closed: link 4, the last, is the way to node 2
abbrev pub by_the_last : Labelled
by_the_last =
    record {
      book = changed_a (closed 0 ∷ []);
      turns = no_entry ∷ no_entry ∷ no_entry ∷ no_entry ∷ entry 442 2 start_back ∷ [];
      links = entry 40 1 start_back ∷ no_entry ∷ entry 442 2 4 ∷ no_entry ∷ entry 403 1 start_back ∷ [];
    }

-- a contract allows what is right and not what is claimed
abbrev pub RightAlone : {Outcome : Type 0} → (Outcome → Type 0) → Outcome → Outcome → Type 0
RightAlone Allows right claimed = Allows right × (Allows claimed → ⊥)
