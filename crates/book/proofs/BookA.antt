-- Book A passes, and with one number of it written anew the answer is document 01's, at each limit and one past it.
use Prim.Native.Nat.{ℕ}
use mathlib.Core.Path.{◌≡◌, refl, sym}
use mathlib.Core.List.{List, [], ◌∷◌}
use mathlib.Core.Bool.{Bool, true, ◌&&◌}
use lib.Dec.{eqb}
use borrow.Author.Tests.{eqb-true}
use Rattle.book.specs.declared.GivenBack.{GivenBack}
use Rattle.std.specs.Prelude.{Ok}
use Rattle.book.specs.Number.{number_at, with_number}
use Rattle.book.specs.Header.{mark_good, version_good, counts_of, counts_good}
use Rattle.book.specs.Entries.{line_good, link_good, seconds_good, ascends, join_good}
use Rattle.book.specs.FirstBad.{first_bad_from}
use Rattle.book.specs.Check.{tables_of, check_of, given_back, given}
use Rattle.book.specs.BookA.{book_a, counts_a}
use Rattle.book.proofs.Limits.{both}

pub book_a_good : check_of book_a ≡ Ok counts_a
unfolding check_of tables_of first_bad_from number_at mark_good version_good counts_of counts_good line_good link_good join_good ascends seconds_good
book_a_good = refl

-- the byte that a number is written at, the number, and the answer's number and place
record Row : Type 0 where
  at : ℕ
  value : ℕ
  number : ℕ
  place : ℕ

abbrev row : ℕ → ℕ → ℕ → ℕ → Row
row at value number place = record { at = at; value = value; number = number; place = place }

abbrev answer : Row → GivenBack
answer r = given_back (check_of (with_number book_a r.at r.value))

abbrev rows : List Row
rows =
    row 0 21581 2 0
    ∷ row 3 0 3 0
    ∷ row 3 2 3 0
    ∷ row 5 1024 0 0
    ∷ row 5 1025 4 0
    ∷ row 7 256 5 0
    ∷ row 7 257 4 0
    ∷ row 9 2048 5 0
    ∷ row 9 2049 4 0
    ∷ row 11 4096 5 0
    ∷ row 11 4097 4 0
    ∷ row 13 2048 5 0
    ∷ row 13 2049 4 0
    ∷ row 15 3600 0 0
    ∷ row 15 3601 4 0
    ∷ row 17 7201 6 0
    ∷ row 19 7200 0 0
    ∷ row 19 7201 6 1
    ∷ row 21 3 0 0
    ∷ row 21 4 7 0
    ∷ row 21 1 7 0
    ∷ row 55 4 7 4
    ∷ row 41 1 0 0
    ∷ row 41 2 7 2
    ∷ row 51 36000 0 0
    ∷ row 51 36001 7 3
    ∷ row 65 3601 8 0
    ∷ row 85 5 8 4
    ∷ row 87 5 8 4
    ∷ row 69 4 8 1
    ∷ row 75 2 8 2
    ∷ row 83 3600 0 0
    ∷ row 83 3601 8 3
    ∷ row 83 65534 8 3
    ∷ row 83 65535 0 0
    ∷ row 91 5 9 0
    ∷ row 93 5 9 0
    ∷ row 93 3 9 0
    ∷ row 93 2 0 0
    ∷ row 95 3600 0 0
    ∷ row 95 3601 9 0
    ∷ row 95 65534 9 0
    ∷ row 95 65535 0 0
    ∷ []

abbrev Every : List Row → Type 0
Every [] = Unit
Every (r ∷ rest) = (answer r ≡ given r.number r.place) × Every rest

abbrev tested : List Row → Bool
tested [] = true
tested (r ∷ rest) = (eqb (answer r).number r.number && eqb (answer r).place r.place) && tested rest

same : (found : GivenBack) (number place : ℕ) → (eqb found.number number && eqb found.place place) ≡ true → found ≡ given number place
same found number place h =
    let (n, p) = both _ _ h in
    let a : found.number ≡ number = eqb-true _ _ n in
    let b : found.place ≡ place = eqb-true _ _ p in
    rw (sym a, sym b)

every : (list : List Row) → tested list ≡ true → Every list
every [] h = tt
every (r ∷ rest) h =
    let (now, later) = both _ _ h in
    (same (answer r) r.number r.place now, every rest later)

pub book_a_edges : Every rows
unfolding check_of tables_of first_bad_from number_at with_number mark_good version_good counts_of counts_good line_good link_good join_good ascends seconds_good
book_a_edges = every rows refl
