-- What a search and a route of a good book find together, by the book and the two nodes alone, and what they leave.
use Rattle.std.specs.Prelude.{ℕ, ◌≡◌, List, ◌++◌, length, drop, Ok, Err}
use Rattle.book.specs.declared.Counts.{Counts}
use Rattle.book.specs.declared.Refusal.{Refusal}
use Rattle.book.specs.declared.Refusal.TheVariants.{NoWalk}
use Rattle.walk.specs.View.{view_of}
use Rattle.walk.specs.Walks.{cost_of}
use Rattle.walk.specs.Labels.{Table, NodeWalk, Route}
use Rattle.search.specs.Tests.{both_nodes}
use Rattle.search.specs.Search.{Search, Searched}
use Rattle.search.specs.Route.{routed, RouteAnswer}

-- what is answered for the way from r to s, and left in the buffer that was lent for its links
pub data Found (book : List ℕ) (r s : ℕ) (buffer : List ℕ) (answer : RouteAnswer) (after : List ℕ) : Type 0 where
  refused : (found : Refusal) → both_nodes book r s ≡ Err found → answer ≡ Err found → after ≡ buffer → Found book r s buffer answer after
  no_walk : (counts : Counts) → both_nodes book r s ≡ Ok counts → ((links : List ℕ) → NodeWalk (view_of book counts) r s links → ⊥)
      → answer ≡ Err NoWalk → after ≡ buffer → Found book r s buffer answer after
  done : (counts : Counts) → both_nodes book r s ≡ Ok counts → (links : List ℕ) → Route (view_of book counts) r s links
      → answer ≡ routed (cost_of (view_of book counts) links) (length links) → after ≡ links ++ drop (length links) buffer → Found book r s buffer answer after

-- the label tables are as some search of the book from r leaves them
abbrev pub Labelled : List ℕ → ℕ → Table → Table → Table → Table → Type 0
Labelled book r turns links turns-after links-after = (answer : Searched) × Search book r turns links answer turns-after links-after
