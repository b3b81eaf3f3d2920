-- The room that serves every route, and what a route asks for once the labels have been judged true.
use Rattle.std.specs.Prelude.{ℕ, ◌≡◌, List, Ok}
use Rattle.book.specs.declared.Counts.{Counts}
use Rattle.book.specs.Check.{check_of}
use Rattle.walk.specs.View.{view_of}
use Rattle.walk.specs.Labels.{Table, TrueLabels}

-- a route buffer that serves every route
abbrev pub route_room : ℕ
route_room = 4097

-- a good book, and true labels from r whose turns have these backs
pub record RouteFrom (book : List ℕ) (counts : Counts) (r : ℕ) (turn-back : List ℕ) (links : Table) : Type 0 where
  pub checked : check_of book ≡ Ok counts
  pub turns : Table
  pub backs : turns.back ≡ turn-back
  pub labels : TrueLabels (view_of book counts) r turns links
