-- Document 01, "What can be asked" and "Numbers given back", Search: tests 1 to 10 and 12 in order, then every entry of both tables is the true one.
use Rattle.std.specs.Prelude.{ℕ, ◌≡◌, List, Result, Ok, Err}
use Rattle.book.specs.declared.Counts.{Counts}
use Rattle.book.specs.declared.Refusal.{Refusal}
use Rattle.book.specs.declared.GivenBack.{GivenBack}
use Rattle.book.specs.Check.{Checked, check_of, given_back}
use Rattle.walk.specs.View.{view_of}
use Rattle.walk.specs.Labels.{Table, TrueLabels}
use Rattle.search.specs.Tests.{node_test, length_test}

abbrev pub search_tests : List ℕ → ℕ → Table → Table → Checked
search_tests book r turns links = length_test (node_test (check_of book) r) turns links

-- that every entry is written, or why none is
abbrev pub Searched : Type 0
Searched = Result Unit Refusal

-- number and place of each case of the answer: 0 and 0 where it is done
abbrev pub search_given_back : Searched → GivenBack
search_given_back answer = given_back answer

-- what a search of the book from r answers, and leaves in the tables turns and links that it was lent
pub data Search (book : List ℕ) (r : ℕ) (turns links : Table) (answer : Searched) (turns-after links-after : Table) : Type 0 where
  refused : (found : Refusal) → search_tests book r turns links ≡ Err found → answer ≡ Err found → turns-after ≡ turns → links-after ≡ links → Search book r turns links answer turns-after links-after
  done : (counts : Counts) → search_tests book r turns links ≡ Ok counts → answer ≡ Ok tt → TrueLabels (view_of book counts) r turns-after links-after → Search book r turns links answer turns-after links-after
