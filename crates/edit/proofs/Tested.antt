-- Where the tests of an edit do not refuse, the book is good, origin and turn are in it, the walk is allowed and the buffers have the book's lengths.
use Prim.Native.Nat.{ℕ, ◌<◌}
use mathlib.Core.Path.{◌≡◌}
use mathlib.Core.List.{List}
use mathlib.Core.Bool.{true, ◌&&◌}
use lib.Dec.{ltb}
use borrow.Author.Tests.{ltb-true}
use Rattle.book.specs.declared.Counts.{Counts}
use Rattle.std.specs.Prelude.{Ok, Err}
use Rattle.book.specs.Entries.{seconds_good}
use Rattle.book.specs.Check.{Checked, check_of}
use Rattle.book.proofs.Limits.{both}
use Rattle.book.proofs.Passes.{passed}
use Rattle.walk.specs.Labels.{Table}
use Rattle.walk.proofs.theory.Laws.{clash}
use Rattle.search.specs.Tests.{node_test, length_test}
use Rattle.search.specs.steps.Tables.{Sized}
use Rattle.search.proofs.Tested.{own_counts, node_passed, length_passed}
use Rattle.edit.specs.Edit.{turn_test, edit_tests}
use Rattle.book.specs.declared.Refusal.TheVariants.{BadChange}

pub turn_passed : (checked : Checked) (turn walk : ℕ) (counts : Counts) → turn_test checked turn walk ≡ Ok counts → (checked ≡ Ok counts) × (turn < counts.turns) × (seconds_good walk ≡ true)
unfolding turn_test
turn_passed (Err found) turn walk counts h = clash (cc)
turn_passed (Ok own) turn walk counts h =
    let (held, same) = passed (ltb turn own.turns && seconds_good walk) BadChange (Ok own) h in
    let (inside, allowed) = both (ltb turn own.turns) (seconds_good walk) held in
    (same, rw (own_counts same) at (ltb-true turn own.turns inside), allowed)

-- the tests one after the other
pub edit_tested : (book : List ℕ) (r turn walk : ℕ) (turns links : Table) {checked noded turned answer : Checked} → checked ≡ check_of book → noded ≡ node_test checked r → turned ≡ turn_test noded turn walk → answer ≡ length_test turned turns links
    → answer ≡ edit_tests book r turn walk turns links
edit_tested book r turn walk turns links e f g h = rw (← e, ← f, ← g) h

-- what an edit may count on once the tests have passed
pub record EditPassed (book : List ℕ) (r turn walk : ℕ) (turns links : Table) (counts : Counts) : Type 0 where
  pub checked : check_of book ≡ Ok counts
  pub origin : r < counts.nodes
  pub listed : turn < counts.turns
  pub allowed : seconds_good walk ≡ true
  pub turns_sized : Sized counts.turns turns
  pub links_sized : Sized counts.links links

pub edit_passed : (book : List ℕ) (r turn walk : ℕ) (turns links : Table) (counts : Counts) → edit_tests book r turn walk turns links ≡ Ok counts → EditPassed book r turn walk turns links counts
edit_passed book r turn walk turns links counts h =
    let (turned, (turns_sized, links_sized)) = length_passed (turn_test (node_test (check_of book) r) turn walk) turns links counts h in
    let (noded, listed, allowed) = turn_passed (node_test (check_of book) r) turn walk counts turned in
    let (checked, origin) = node_passed (check_of book) r counts noded in
    record { checked = checked; origin = origin; listed = listed; allowed = allowed; turns_sized = turns_sized; links_sized = links_sized }
