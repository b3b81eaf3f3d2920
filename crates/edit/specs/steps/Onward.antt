-- An edit once every test has passed: what it may ask for, and what it leaves.
use Rattle.std.specs.Prelude.{ℕ, ◌≡◌, List, Ok}
use Rattle.book.specs.declared.Counts.{Counts}
use Rattle.book.specs.Changes.{with_walk}
use Rattle.walk.specs.View.{view_of}
use Rattle.walk.specs.Labels.{Table, entry_at, TrueLabels}
use Rattle.walk.specs.Counting.{differing}
use Rattle.edit.specs.Edit.{edit_tests, altered}
use Rattle.edit.specs.declared.Edited.{Edited}

pub record Asked (book : List ℕ) (counts : Counts) (r turn walk : ℕ) (turns links : Table) : Type 0 where
  pub tested : edit_tests book r turn walk turns links ≡ Ok counts
  pub labels : TrueLabels (view_of book counts) r turns links

pub record Relabelled (book : List ℕ) (counts : Counts) (r turn walk : ℕ) (turns links : Table) (answer : Edited) (book-after : List ℕ) (turns-after links-after : Table) : Type 0 where
  pub written : book-after ≡ with_walk book counts turn walk
  pub labels : TrueLabels (view_of book-after counts) r turns-after links-after
  pub counted : Ok answer ≡ altered (differing (entry_at turns) (entry_at turns-after) counts.turns) (differing (entry_at links) (entry_at links-after) counts.links)
