-- Document 01, "What can be asked" and "Numbers given back", Edit: tests 1 to 13 in order, then the turn's two walk bytes, the labels of the edited book, and how many entries differ.
use Rattle.std.specs.Prelude.{ℕ, ◌≡◌, List, ◌&&◌, ltb, Ok, Err, Result}
use Rattle.book.specs.declared.Counts.{Counts}
use Rattle.book.specs.declared.Refusal.{Refusal}
use Rattle.book.specs.Entries.{seconds_good}
use Rattle.book.specs.Check.{Checked, check_of, unless, number_of, place_of}
use Rattle.book.specs.Changes.{with_walk}
use Rattle.walk.specs.View.{view_of}
use Rattle.walk.specs.Labels.{Table, entry_at, TrueLabels}
use Rattle.walk.specs.Counting.{differing}
use Rattle.search.specs.Tests.{node_test, length_test}
use Rattle.edit.specs.declared.EditFigures.{EditFigures}
use Rattle.book.specs.declared.Refusal.TheVariants.{BadChange, UntrueLabel}
use Rattle.edit.specs.declared.Edited.{Edited}

-- 11: the edited turn is not in the table, or its new walk is not allowed
unfoldable pub turn_test : Checked → ℕ → ℕ → Checked
turn_test (Err found) turn walk = Err found
turn_test (Ok counts) turn walk = unless (ltb turn counts.turns && seconds_good walk) BadChange (Ok counts)

-- 1 to 12
abbrev pub edit_tests : List ℕ → ℕ → ℕ → ℕ → Table → Table → Checked
edit_tests book r turn walk turns links = length_test (turn_test (node_test (check_of book) r) turn walk) turns links

-- how many turn entries and link entries were altered, or why none was
abbrev pub EditAnswer : Type 0
EditAnswer = Result Edited Refusal

abbrev pub altered : ℕ → ℕ → EditAnswer
altered turns links = Ok (record { turns = turns; links = links })

-- number, place, and the two counts of each case of the answer: what is not given is 0
abbrev pub edit_given_back : EditAnswer → EditFigures
edit_given_back (Ok edited) = record { number = 0; place = 0; turns = edited.turns; links = edited.links }
edit_given_back (Err found) = record { number = number_of found; place = place_of found; turns = 0; links = 0 }

-- what an edit of a turn's walk answers, and leaves in the book and the tables that it was lent
pub data Edit (book : List ℕ) (r turn walk : ℕ) (turns links : Table) (answer : EditAnswer) (book-after : List ℕ) (turns-after links-after : Table) : Type 0 where
  refused : (found : Refusal) → edit_tests book r turn walk turns links ≡ Err found
      → answer ≡ Err found → book-after ≡ book → turns-after ≡ turns → links-after ≡ links → Edit book r turn walk turns links answer book-after turns-after links-after
  -- 13, by the book as it stands before the edit
  untrue : (counts : Counts) → edit_tests book r turn walk turns links ≡ Ok counts → (TrueLabels (view_of book counts) r turns links → ⊥)
      → answer ≡ Err UntrueLabel → book-after ≡ book → turns-after ≡ turns → links-after ≡ links → Edit book r turn walk turns links answer book-after turns-after links-after
  done : (counts : Counts) → edit_tests book r turn walk turns links ≡ Ok counts → TrueLabels (view_of book counts) r turns links
      → book-after ≡ with_walk book counts turn walk → TrueLabels (view_of book-after counts) r turns-after links-after
      → answer ≡ altered (differing (entry_at turns) (entry_at turns-after) counts.turns) (differing (entry_at links) (entry_at links-after) counts.links)
      → Edit book r turn walk turns links answer book-after turns-after links-after
