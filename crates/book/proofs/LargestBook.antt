-- A book longer than the largest one is answered by its header alone.
use Prim.Native.Nat.{ℕ, ◌+◌, ◌≤◌, ◌<◌}
use mathlib.Core.Path.{◌≡◌, refl, sym, ap, ◌∙◌}
use mathlib.Core.List.{List}
use mathlib.Core.Bool.{Bool, true, false}
use native.Mathlib.Omega.{arith}
use lib.Dec.{eqb}
use lib.ListN.{length, get_or}
use borrow.Author.Tests.{le-leb, ne_eqb}
use Rattle.book.specs.declared.Refusal.{Refusal}
use Rattle.book.specs.declared.Refusal.TheVariants.{Mark, Version, Limit, Length}
use Rattle.book.specs.declared.Counts.{Counts}
use Rattle.std.specs.Prelude.{Ok, Err}
use Rattle.book.specs.Number.{number_at}
use Rattle.book.specs.Header.{header_bytes, mark_good, version_good, counts_of, counts_good}
use Rattle.book.specs.Tables.{book_end}
use Rattle.book.specs.Check.{unless, tables_in, check_of}
use Rattle.book.proofs.Limits.{limits}
use Rattle.book.proofs.GoodBook.{good_book}

-- the largest book has 53,777 bytes
abbrev pub largest_book : ℕ
largest_book = 53777

pub good_not_longer : (book : List ℕ) (counts : Counts) → check_of book ≡ Ok counts → length book ≤ largest_book
good_not_longer book counts h =
    let good = good_book book counts h in
    let within = good.limited in
    omega (arith, good.size, within.lines, within.links, within.turns, within.pairs)

-- tests 2, 3 and 4 of a header, and then 5
header_answer : Bool → Bool → Bool → Refusal
header_answer false version counts = Mark
header_answer true false counts = Version
header_answer true true false = Limit
header_answer true true true = Length

pub answered : List ℕ → Refusal
answered book = header_answer (mark_good book) (version_good book) (counts_good (counts_of book))

pub long_refused : (book : List ℕ) → largest_book < length book → check_of book ≡ Err (answered book)
unfolding check_of answered header_answer
long_refused book long = rw (le-leb header_bytes (length book) (omega arith)) (by (mark_good book) (version_good book) (counts_good (counts_of book)) refl)
  where
    by : (mark version counts : Bool) → counts_good (counts_of book) ≡ counts
        → unless mark Mark (unless version Version (unless counts Limit (unless (eqb (length book) (book_end (counts_of book))) Length (tables_in book (counts_of book))))) ≡ Err (header_answer mark version counts)
    by false version counts h = refl
    by true false counts h = refl
    by true true false h = refl
    by true true true h =
        let within = limits (counts_of book) h in
        rw (ne_eqb (length book) (book_end (counts_of book)) (λ e. omega (arith, within.lines, within.links, within.turns, within.pairs)))

-- books with the same header
module _ (book other : List ℕ) (same : (k : ℕ) → k < header_bytes → get_or book k 0 ≡ get_or other k 0) where
  number_same : (at : ℕ) → at + 1 < header_bytes → number_at book at ≡ number_at other at
  unfolding number_at
  number_same at h = rw (same at (omega arith), same (at + 1) h)

  answered_same : answered book ≡ answered other
  unfolding answered mark_good version_good counts_of
  answered_same =
      rw (
        same 0 (omega arith),
        same 1 (omega arith),
        same 2 (omega arith),
        number_same 3 (omega arith),
        number_same 5 (omega arith),
        number_same 7 (omega arith),
        number_same 9 (omega arith),
        number_same 11 (omega arith),
        number_same 13 (omega arith),
        number_same 15 (omega arith),
      )

  pub long_same : largest_book < length book → largest_book < length other → check_of book ≡ check_of other
  long_same long long-other = long_refused book long ∙ ap Err answered_same ∙ sym (long_refused other long-other)
