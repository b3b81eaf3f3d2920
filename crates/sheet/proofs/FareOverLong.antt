-- What a reader with room for 65,536 bytes leaves off changes no fare sheet: a book longer than the largest is answered by its header, and after any other the part of the table that is read is already longer than any good one.
use Prim.Native.Nat.{ℕ, ◌+◌, ◌≤◌, ◌<◌, min}
use mathlib.Core.Path.{◌≡◌, refl, sym, ap, ◌∙◌, subst}
use mathlib.Core.List.{List}
use native.Mathlib.Omega.{arith}
use native.Mathlib.Decide.{dec_lt}
use lib.ListN.{length, get_or, take, drop, length-take, length-drop}
use lib.Seq.{length-take-le, take_all, get_or-take, get_or-drop, ext_get_or}
use Rattle.book.specs.Number.{number_at}
use Rattle.book.specs.Header.{header_bytes}
use Rattle.book.proofs.LargestBook.{largest_book, good_not_longer}
use Rattle.walk.proofs.theory.Laws.{clash}
use Rattle.fare.specs.declared.Terms.{Terms}
use Rattle.sheet.specs.Sheet.{origin_of, destination_of}
use Rattle.sheet.specs.FareSheet.{long_at, before_fare_book, terms_of, book_bytes, book_in, table_in, FarePlanned, refused, bad_fares, done, FareSays, short, asked}
use Rattle.sheet.proofs.TestLaws.{tests_passed}
use Rattle.sheet.proofs.FareTables.{most_table, long_bytes}
use Rattle.sheet.proofs.FarePlans.{plan_moved}
use Rattle.sheet.proofs.OverLong.{long_planned}

-- two tables that are longer than any good one
other_table : (book : List ℕ) (r s : ℕ) (table other : List ℕ) (terms : Terms) (lines : List (List ℕ)) → most_table < length table → most_table < length other → FarePlanned book r s table terms lines → FarePlanned book r s other terms lines
other_table book r s table other terms lines long long-other (refused number place plan f) = refused number place plan f
other_table book r s table other terms lines long long-other (bad_fares counts e links route bad f) =
    bad_fares counts e links route (long_bytes counts other terms book (tests_passed book r s counts e) long-other) f
other_table book r s table other terms lines long long-other (done counts e links route good f) =
    let bad = long_bytes counts table terms book (tests_passed book r s counts e) long in
    clash (cc (bad, good))

-- two books that are longer than the largest and have one header
other_book : (book other : List ℕ) → ((k : ℕ) → k < header_bytes → get_or book k 0 ≡ get_or other k 0) → largest_book < length book → largest_book < length other → (r s from to : ℕ) (table : List ℕ) (terms : Terms) (other_table : List ℕ) (other-terms : Terms) (lines : List (List ℕ))
    → FarePlanned book r s table terms lines → FarePlanned other from to other_table other-terms lines
other_book book other same long long-other r s from to table terms table' terms' lines (refused number place plan f) = refused number place (long_planned book other same long long-other r s from to _ plan) f
other_book book other same long long-other r s from to table terms table' terms' lines (bad_fares counts e links route bad f) = absurd (omega (arith, good_not_longer book counts (tests_passed book r s counts e)))
other_book book other same long long-other r s from to table terms table' terms' lines (done counts e links route good f) = absurd (omega (arith, good_not_longer book counts (tests_passed book r s counts e)))

module _ (room : ℕ) (enough : before_fare_book + largest_book + most_table < room) (input : List ℕ) (past : room < length input) where
  abbrev front : List ℕ
  front = take room input

  front_length : length front ≡ room
  front_length = length-take-le room input (omega arith)

  number_front : (at : ℕ) → at + 1 < room → number_at front at ≡ number_at input at
  unfolding number_at
  number_front at h =
      let here : at < room = omega arith in
      rw (get_or-take room input at 0 here, get_or-take room input (at + 1) 0 h)

  long_front : (at : ℕ) → at + 3 < room → long_at front at ≡ long_at input at
  unfolding long_at
  long_front at h = rw (number_front at (omega arith), number_front (at + 2) (omega arith))

  abbrev size : ℕ
  size = book_bytes input

  size_front : book_bytes front ≡ size
  size_front = long_front 16 (omega arith)

  terms_front : terms_of front ≡ terms_of input
  terms_front = rw (long_front 4 (omega arith), long_front 8 (omega arith), long_front 12 (omega arith))

  -- the book that is read, with the size that the whole input tells
  abbrev book_read : List ℕ
  book_read = take size (drop before_fare_book front)

  same_byte : (k : ℕ) → k < size → before_fare_book + k < room → get_or book_read k 0 ≡ get_or (book_in input) k 0
  same_byte k h l =
      get_or-take size (drop before_fare_book front) k 0 h ∙ get_or-drop before_fare_book front k 0 ∙ get_or-take room input (before_fare_book + k) 0 l ∙ sym (get_or-drop before_fare_book input k 0) ∙ sym (get_or-take size (drop before_fare_book input) k 0 h)

  read_length : length book_read ≡ min size (length (drop before_fare_book front))
  read_length = length-take size (drop before_fare_book front)

  whole_length : length (book_in input) ≡ min size (length (drop before_fare_book input))
  whole_length = length-take size (drop before_fare_book input)

  abbrev WholePlan : List (List ℕ) → Type 0
  WholePlan lines = FarePlanned (book_in input) (origin_of input) (destination_of input) (table_in input) (terms_of input) lines

  long_book : largest_book < size → (table : List ℕ) (terms : Terms) (lines : List (List ℕ)) → FarePlanned book_read (origin_of front) (destination_of front) table terms lines → WholePlan lines
  long_book h table terms lines plan =
      other_book book_read (book_in input) (λ k l. same_byte k (omega arith) (omega arith)) (omega (arith, read_length, length-drop before_fare_book front, front_length)) (omega (arith, whole_length, length-drop before_fare_book input))
      (origin_of front) (destination_of front) (origin_of input) (destination_of input) table terms (table_in input) (terms_of input) lines plan

  short_book : size ≤ largest_book → (lines : List (List ℕ)) → FarePlanned book_read (origin_of front) (destination_of front) (drop (before_fare_book + size) front) (terms_of front) lines → WholePlan lines
  short_book h lines plan =
      let book-same : book_read ≡ book_in input = ext_get_or 0 book_read (book_in input) (omega (arith, read_length, whole_length, length-drop before_fare_book front, length-drop before_fare_book input, front_length)) (λ k l. same_byte k (omega (arith, read_length)) (omega (arith, read_length))) in
      let long = length-drop (before_fare_book + size) front in
      other_table (book_in input) (origin_of input) (destination_of input) (drop (before_fare_book + size) front) (table_in input) (terms_of input) lines (omega (arith, front_length)) (omega (arith, length-drop (before_fare_book + size) input))
      (plan_moved lines book-same (number_front 0 (omega arith)) (number_front 2 (omega arith)) refl terms_front plan)

  past_says : (lines : List (List ℕ)) → FareSays front lines → FareSays input lines
  past_says lines (short h f) = absurd (omega (arith, front_length))
  past_says lines (asked h plan) = asked (omega arith) (by (dec_lt largest_book size))
    where
      read : FarePlanned book_read (origin_of front) (destination_of front) (drop (before_fare_book + size) front) (terms_of front) lines
      read = plan_moved lines (ap (λ (n : ℕ). take n (drop before_fare_book front)) size_front) refl refl (ap (λ (n : ℕ). drop (before_fare_book + n) front) size_front) refl plan

      by : Dec (largest_book < size) → WholePlan lines
      by (yes longer) = long_book longer _ _ lines read
      by (no h) = short_book (omega arith) lines read

-- the fare printer's reader
pub fare_read_says : (input : List ℕ) (lines : List (List ℕ)) → FareSays (take 65536 input) lines → FareSays input lines
fare_read_says input lines says = by (dec_lt 65536 (length input))
  where
    by : Dec (65536 < length input) → FareSays input lines
    by (yes past) = past_says 65536 (omega arith) input past lines says
    by (no h) = subst (λ (x : List ℕ). FareSays x lines) (take_all 65536 input (omega arith)) says
