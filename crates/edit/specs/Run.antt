-- Demand 3: a run of edits over one book and its labels, from one origin, refused ones among them.
use Rattle.std.specs.Prelude.{ℕ, List, [], ◌∷◌, ◌++◌, Ok, Err}
use Rattle.book.specs.Changes.{Change}
use Rattle.walk.specs.Labels.{Table}
use Rattle.edit.specs.Edit.{Edit, EditAnswer}

-- what an edit adds to the done changes
abbrev pub if_done : EditAnswer → Change → List Change
if_done (Ok edited) change = change ∷ []
if_done (Err found) change = []

-- from a book and labels, edits one after the other, each lent what the one before left: their answers, the changes that were done, and what is left
pub data Run (r : ℕ) : List ℕ → Table → Table → List EditAnswer → List Change → List ℕ → Table → Table → Type 0 where
  start : (book : List ℕ) (turns links : Table) → Run r book turns links [] [] book turns links
  next : {book book-after : List ℕ} {turns links turns-after links-after : Table} {answers : List EditAnswer} {changes : List Change} {last : List ℕ} {turns-last links-last : Table}
      → (change : Change) (answer : EditAnswer) → Edit book r change.turn change.walk turns links answer book-after turns-after links-after
      → Run r book-after turns-after links-after answers changes last turns-last links-last
      → Run r book turns links (answer ∷ answers) (if_done answer change ++ changes) last turns-last links-last
