-- Where a test does not refuse, what it asks for holds and the answer of the tests before it stands.
use Prim.Native.Nat.{ℕ, ◌<◌}
use mathlib.Core.Path.{◌≡◌}
use mathlib.Core.List.{List}
use mathlib.Core.Bool.{true, ◌&&◌}
use lib.Dec.{ltb, eqb}
use lib.ListN.{length}
use borrow.Author.Tests.{ltb-true, eqb-true, eq-eqb}
use Rattle.book.specs.declared.Counts.{Counts}
use Rattle.std.specs.Prelude.{Ok, Err}
use Rattle.book.specs.Check.{Checked, check_of}
use Rattle.book.proofs.Limits.{both}
use Rattle.book.proofs.Passes.{passed}
use Rattle.walk.specs.Labels.{Table}
use Rattle.walk.proofs.theory.Laws.{clash}
use Rattle.search.specs.Tests.{node_test, both_nodes, fits, length_test}
use Rattle.search.specs.Search.{search_tests}
use Rattle.search.specs.Route.{route_tests}
use Rattle.search.specs.steps.Tables.{Sized}
use Rattle.book.specs.declared.Refusal.TheVariants.{LabelLength, NoNode}

-- good with these counts and good with those
pub own_counts : {own counts : Counts} → ◌≡◌ {A = Checked} (Ok own) (Ok counts) → own ≡ counts
own_counts e = cc

pub node_passed : (checked : Checked) (node : ℕ) (counts : Counts) → node_test checked node ≡ Ok counts → (checked ≡ Ok counts) × (node < counts.nodes)
unfolding node_test
node_passed (Err found) node counts h = clash (cc)
node_passed (Ok own) node counts h =
    let (inside, same) = passed (ltb node own.nodes) NoNode (Ok own) h in
    (same, rw (own_counts same) at (ltb-true node own.nodes inside))

fits_sized : (count : ℕ) (table : Table) → fits count table ≡ true → Sized count table
unfolding fits
fits_sized count table h =
    let (c, rest) = both (eqb (length table.cost) count) (eqb (length table.links) count && eqb (length table.back) count) h in
    let (l, b) = both (eqb (length table.links) count) (eqb (length table.back) count) rest in
    record { cost = eqb-true _ _ c; links = eqb-true _ _ l; back = eqb-true _ _ b }

pub length_passed : (checked : Checked) (turns links : Table) (counts : Counts) → length_test checked turns links ≡ Ok counts → (checked ≡ Ok counts) × (Sized counts.turns turns × Sized counts.links links)
unfolding length_test
length_passed (Err found) turns links counts h = clash (cc)
length_passed (Ok own) turns links counts h =
    let (f, same) = passed (fits own.turns turns && fits own.links links) LabelLength (Ok own) h in
    let (t, l) = both (fits own.turns turns) (fits own.links links) f in
    (same, (rw (own_counts same) at (fits_sized own.turns turns t), rw (own_counts same) at (fits_sized own.links links l)))

-- buffers of the book's lengths pass
pub lengths_fit : (checked : Checked) (turns links : Table) (counts : Counts) → checked ≡ Ok counts → Sized counts.turns turns → Sized counts.links links → length_test checked turns links ≡ Ok counts
unfolding length_test fits
lengths_fit checked turns links counts e t l =
    rw (e, eq-eqb _ _ t.cost, eq-eqb _ _ t.links, eq-eqb _ _ t.back, eq-eqb _ _ l.cost, eq-eqb _ _ l.links, eq-eqb _ _ l.back)

-- the tests one after the other
pub search_tested : (book : List ℕ) (r : ℕ) (turns links : Table) {checked noded answer : Checked} → checked ≡ check_of book → noded ≡ node_test checked r → answer ≡ length_test noded turns links → answer ≡ search_tests book r turns links
search_tested book r turns links e f g = rw (← e, ← f) g

pub route_tested : (book : List ℕ) (r s : ℕ) (turns links : Table) {checked from to answer : Checked} → checked ≡ check_of book → from ≡ node_test checked r → to ≡ node_test from s → answer ≡ length_test to turns links → answer ≡ route_tests book r s turns links
route_tested book r s turns links e f g h = rw (← e, ← f, ← g) h

-- a book that is good, and buffers of its lengths
abbrev pub Lent : List ℕ → Counts → Table → Table → Type 0
Lent book counts turns links = (check_of book ≡ Ok counts) × (Sized counts.turns turns × Sized counts.links links)

pub search_passed : (book : List ℕ) (r : ℕ) (turns links : Table) (counts : Counts) → search_tests book r turns links ≡ Ok counts → Lent book counts turns links
search_passed book r turns links counts h =
    let (node, lengths) = length_passed (node_test (check_of book) r) turns links counts h in
    ((node_passed (check_of book) r counts node).0, lengths)

pub route_passed : (book : List ℕ) (r s : ℕ) (turns links : Table) (counts : Counts) → route_tests book r s turns links ≡ Ok counts → Lent book counts turns links
route_passed book r s turns links counts h =
    let (nodes, lengths) = length_passed (both_nodes book r s) turns links counts h in
    ((node_passed (check_of book) r counts (node_passed (node_test (check_of book) r) s counts nodes).0).0, lengths)
