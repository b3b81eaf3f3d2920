-- The bytes of a fare table are good at one length only, that of one entry a link and one a line, so a table of another length need not be read.
use Prim.Native.Nat.{ℕ, ◌+◌, ◌*◌, ◌/◌, ◌%◌, ◌≤◌, ◌<◌}
use mathlib.Core.Path.{◌≡◌, refl, sym, ap, ◌∙◌}
use mathlib.Core.List.{List, [], ◌∷◌}
use mathlib.Core.Bool.{Bool, true, false, ◌&&◌, cond}
use native.Mathlib.Omega.{arith}
use lib.Dec.{eqb}
use lib.ListN.{length}
use borrow.Author.Tests.{eqb-true, eqb-false, eq-eqb}
use Rattle.std.specs.Prelude.{Ok}
use Rattle.book.specs.declared.Counts.{Counts}
use Rattle.book.specs.Header.{most_lines, most_links}
use Rattle.book.specs.Check.{check_of}
use Rattle.book.proofs.Limits.{both}
use Rattle.book.proofs.GoodBook.{good_book}
use Rattle.walk.specs.View.{up_to, view_of}
use Rattle.walk.proofs.theory.Laws.{clash}
use Rattle.walk.proofs.Filling.{up_to_length}
use Rattle.fare.specs.declared.Terms.{Terms}
use Rattle.fare.specs.declared.Won.{Won}
use Rattle.fare.specs.Fares.{fares_of, fares_good}
use Rattle.fare.specs.Fare.{fare_of}
use Rattle.fare.proofs.GoodFares.{other_length}
use Rattle.sheet.specs.FareSheet.{long_at, entry_bytes, entries_of, bytes_good}
use Rattle.sheet.specs.steps.Faring.{FaresRead, FareTold, done}
use Rattle.sheet.specs.steps.Routes.{asked_fields}

-- 2,048 links and 256 lines, four bytes each
abbrev pub most_table : ℕ
most_table = 9216

module _ (counts : Counts) (bytes : List ℕ) (terms : Terms) where
  abbrev entry : ℕ → ℕ
  entry k = long_at bytes (entry_bytes * k)

  pub other_bytes : (length bytes ≡ entry_bytes * (counts.links + counts.lines) → ⊥) → bytes_good counts bytes terms ≡ false
  unfolding bytes_good fares_good
  other_bytes other = by (eqb (length bytes % entry_bytes) 0) refl
    where
      by : (whole : Bool) → eqb (length bytes % entry_bytes) 0 ≡ whole → (whole && fares_good counts (entries_of bytes) terms) ≡ false
      by true e = rw (other_length counts (entries_of bytes) (λ h. other (omega (arith, up_to_length entry (length bytes / entry_bytes), eqb-true (length bytes % entry_bytes) 0 e))))
      by false e = refl

  pub good_entries : bytes_good counts bytes terms ≡ true → fares_good counts (entries_of bytes) terms ≡ true
  unfolding bytes_good
  good_entries h = (both (eqb (length bytes % entry_bytes) 0) (fares_good counts (entries_of bytes) terms) h).1

  -- a table of n entries and no bytes more
  module _ (n : ℕ) (whole : length bytes ≡ entry_bytes * n) where
    pub all_entries : up_to n entry ≡ entries_of bytes
    all_entries =
        let same : n ≡ length bytes / entry_bytes = omega arith in
        ap (λ (m : ℕ). up_to m entry) same

    pub whole_good : (table : List ℕ) → table ≡ up_to n entry → fares_good counts table terms ≡ bytes_good counts bytes terms
    unfolding bytes_good
    whole_good table e = rw (eq-eqb (length bytes % entry_bytes) 0 (omega arith), e, all_entries)

  -- no good table has more bytes
  pub long_bytes : (book : List ℕ) → check_of book ≡ Ok counts → most_table < length bytes → bytes_good counts bytes terms ≡ false
  long_bytes book checked long =
      let few = (good_book book counts checked).limited in
      other_bytes (λ e. omega (arith, few.links, few.lines))

-- a table of one entry a link and one a line of a good book
pub table_room : (book : List ℕ) (counts : Counts) → check_of book ≡ Ok counts → counts.links + counts.lines ≤ most_links + most_lines
table_room book counts checked =
    let few = (good_book book counts checked).limited in
    omega (arith, few.links, few.lines)

-- a table of one entry a link and one a line that was read and is good
module _ {counts : Counts} {bytes : List ℕ} {terms : Terms} {table after : List ℕ} {answer : Bool} (sized : length table ≡ counts.links + counts.lines) (read : FaresRead counts bytes terms table answer after) (good : answer ≡ true) where
  bytes_good_lem : bytes_good counts bytes terms ≡ true
  bytes_good_lem = sym read.tells ∙ good

  entries_read : after ≡ entries_of bytes
  entries_read = read.left ∙ by (eqb (length bytes) (entry_bytes * length table)) refl
    where
      by : (whole : Bool) → eqb (length bytes) (entry_bytes * length table) ≡ whole → cond whole (entries_of bytes) table ≡ entries_of bytes
      by true e = refl
      by false e = clash (cc (bytes_good_lem, other_bytes counts bytes terms (λ h. eqb-false (length bytes) (entry_bytes * length table) e (rw sized h))))

  pub read_good : fares_good counts after terms ≡ true
  read_good = rw entries_read (good_entries counts bytes terms bytes_good_lem)

  pub fare_told : {book : List ℕ} {r cost : ℕ} {links : List ℕ} (fare : Won) → fare ≡ fare_of (fares_of (view_of book counts) after terms) links → FareTold book counts bytes terms r cost links (asked_fields book r cost links ∷ (fare.0 ∷ []) ∷ [])
  fare_told {book} {r} {cost} {links} fare e = done bytes_good_lem (rw (e, entries_read))
