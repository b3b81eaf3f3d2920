-- What the tests before the search find: a refusal has a number of at most 10 and a place within its table, and where none refuses the book is good.
use Prim.Native.Nat.{ℕ, ◌≤◌}
use mathlib.Core.Path.{◌≡◌, refl}
use mathlib.Core.List.{List}
use mathlib.Core.Bool.{Bool, true, false}
use native.Mathlib.Omega.{arith}
use lib.Dec.{ltb, leb, eqb}
use lib.ListN.{length}
use Rattle.std.specs.Prelude.{Ok, Err}
use Rattle.book.specs.declared.Counts.{Counts}
use Rattle.book.specs.declared.Refusal.{Refusal}
use Rattle.book.specs.Header.{header_bytes, mark_good, version_good, counts_of, counts_good}
use Rattle.book.specs.Tables.{book_end, line_table, link_table, turn_table, pair_table}
use Rattle.book.specs.Entries.{line_good, link_good, turn_good, pair_good}
use Rattle.book.specs.FirstBad.{first_bad}
use Rattle.book.specs.declared.Refusal.TheVariants.{TooShort, Mark, Version, Limit, Length, Line, Link, Turn, Pair, NoNode}
use Rattle.book.specs.Check.{Checked, number_of, place_of, unless, unless_all_good, tables_of, tables_in, check_of}
use Rattle.book.proofs.Limits.{limits}
use Rattle.book.proofs.FirstBad.{first_bad_lem}
use Rattle.walk.proofs.theory.Laws.{clash}
use Rattle.search.specs.Tests.{node_test, both_nodes}
use Rattle.search.proofs.Tested.{node_passed}

-- the largest count of entries, so no place is above it
abbrev most_place : ℕ
most_place = 4096

abbrev pub Limited : ℕ → Checked → Type 0
Limited most checked = (found : Refusal) → checked ≡ Err found → (number_of found ≤ most) × (place_of found ≤ most_place)

module _ (most : ℕ) where
  good_limited : (counts : Counts) → Limited most (Ok counts)
  good_limited counts found e = clash (cc)

  refused_limited : (one : Refusal) → number_of one ≤ most → place_of one ≤ most_place → Limited most (Err one)
  refused_limited one n p found e =
      let same : one ≡ found = cc in
      rw (← same) (n, p)

  unless_limited : (test : Bool) (one : Refusal) (rest : Checked) → number_of one ≤ most → place_of one ≤ most_place → (test ≡ true → Limited most rest) → Limited most (unless test one rest)
  unless_limited true one rest n p onward = onward refl
  unless_limited false one rest n p onward = refused_limited one n p

  -- each entry's refusal has a number of at most this, and the entry's place
  table_limited : (bad : ℕ → Refusal) (good : ℕ → Bool) (count : ℕ) (rest : Checked) → ((k : ℕ) → (number_of (bad k) ≤ most) × (place_of (bad k) ≡ k)) → count ≤ most_place → Limited most rest → Limited most (unless_all_good bad good count rest)
  table_limited bad good count rest each c onward =
      let (n, p) = each (first_bad good count) in
      unless_limited (leb count (first_bad good count)) (bad (first_bad good count)) rest n (omega (arith, p, (first_bad_lem good count).within)) (λ e. onward)

tables_limited : (lines links turns pairs : List ℕ) (counts : Counts) → counts_good counts ≡ true → Limited 9 (tables_of lines links turns pairs counts)
unfolding tables_of
tables_limited lines links turns pairs counts h =
    let within = limits counts h in
    let nine = table_limited 9 Pair (pair_good counts.turns turns pairs) counts.pairs (Ok counts) (λ k. (omega arith, refl)) (omega (arith, within.pairs)) (good_limited 9 counts) in
    let eight = table_limited 9 Turn (turn_good counts.links links turns) counts.turns _ (λ k. (omega arith, refl)) within.turns nine in
    let seven = table_limited 9 Link (link_good counts.nodes counts.lines links) counts.links _ (λ k. (omega arith, refl)) (omega (arith, within.links)) eight in
    table_limited 9 Line (line_good lines) counts.lines _ (λ k. (omega arith, refl)) (omega (arith, within.lines)) seven

pub check_limited : (book : List ℕ) → Limited 9 (check_of book)
unfolding check_of
check_limited book =
    let counts : Counts = counts_of book in
    let sized : Bool = eqb (length book) (book_end (counts_of book)) in
    let five : counts_good counts ≡ true → Limited 9 (unless sized Length (tables_in book counts)) =
    λ h. unless_limited 9 sized Length (tables_in book counts) (omega arith) (omega arith) (λ _. tables_limited (line_table book counts) (link_table book counts) (turn_table book counts) (pair_table book counts) counts h) in
    let four = unless_limited 9 (counts_good counts) Limit _ (omega arith) (omega arith) five in
    let three = unless_limited 9 (version_good book) Version _ (omega arith) (omega arith) (λ _. four) in
    let two = unless_limited 9 (mark_good book) Mark _ (omega arith) (omega arith) (λ _. three) in
    unless_limited 9 (leb header_bytes (length book)) TooShort _ (omega arith) (omega arith) (λ _. two)

node_limited : (checked : Checked) (n : ℕ) → Limited 10 checked → Limited 10 (node_test checked n)
unfolding node_test
node_limited (Err found) n h = h
node_limited (Ok counts) n h = unless_limited 10 (ltb n counts.nodes) NoNode (Ok counts) (omega arith) (omega arith) (λ _. h)

-- the tests of a book, and of both nodes after it
module _ (book : List ℕ) (r s : ℕ) where
  pub tests_limited : Limited 10 (both_nodes book r s)
  tests_limited = node_limited _ _ (node_limited _ _ (λ found e. (omega (arith, (check_limited book found e).0), (check_limited book found e).1)))

  pub tests_passed : (counts : Counts) → both_nodes book r s ≡ Ok counts → check_of book ≡ Ok counts
  tests_passed counts h = (node_passed (check_of book) r counts (node_passed (node_test (check_of book) r) s counts h).0).0
