-- A check answers the counts exactly when every one of its tests holds.
use Prim.Native.Nat.{ℕ, ◌≤◌, ◌<◌}
use mathlib.Core.Path.{◌≡◌, refl, sym, ap, ◌∙◌}
use mathlib.Core.List.{List}
use mathlib.Core.Bool.{Bool, true, false}
use native.Mathlib.Omega.{arith}
use native.Mathlib.Decide.{dec_le}
use lib.ListN.{length}
use borrow.Author.Tests.{leb-true, le-leb, eqb-true, eq-eqb}
use Rattle.book.specs.declared.Counts.{Counts}
use Rattle.book.specs.declared.Refusal.{Refusal}
use Rattle.book.specs.declared.Refusal.TheVariants.{Line, Link, Turn, Pair}
use Rattle.std.specs.Prelude.{Ok}
use Rattle.book.specs.Header.{header_bytes, mark_good, version_good, counts_of, counts_good}
use Rattle.book.specs.Tables.{book_end, line_table, link_table, turn_table, pair_table}
use Rattle.book.specs.Entries.{line_good, link_good, turn_good, pair_good}
use Rattle.book.specs.FirstBad.{first_bad}
use Rattle.book.specs.Check.{Checked, unless, unless_all_good, tables_of, tables_in, check_of}
use Rattle.book.proofs.FirstBad.{First, first_bad_lem}
use Rattle.book.proofs.Answers.{onward}

-- every one of `count` entries keeps the rules
abbrev pub All : (ℕ → Bool) → ℕ → Type 0
All good count = (k : ℕ) → k < count → good k ≡ true

pub record GoodTables (lines links turns pairs : List ℕ) (counts : Counts) : Type 0 where
  pub line : All (line_good lines) counts.lines
  pub link : All (link_good counts.nodes counts.lines links) counts.links
  pub turn : All (turn_good counts.links links turns) counts.turns
  pub pair : All (pair_good counts.turns turns pairs) counts.pairs

pub record Passes (book : List ℕ) (counts : Counts) : Type 0 where
  pub header : header_bytes ≤ length book
  pub mark : mark_good book ≡ true
  pub version : version_good book ≡ true
  pub counted : counts_of book ≡ counts
  pub limited : counts_good counts ≡ true
  pub size : length book ≡ book_end counts
  pub tables : GoodTables (line_table book counts) (link_table book counts) (turn_table book counts) (pair_table book counts) counts

-- where an answer behind a test is no refusal, the test held
pub passed : (t : Bool) (found : Refusal) (rest : Checked) {counts : Counts} → unless t found rest ≡ Ok counts → (t ≡ true) × (rest ≡ Ok counts)
passed true found rest h = (refl, h)
passed false found rest h = (cc, cc)

module _ (good : ℕ → Bool) (count : ℕ) where
  none_bad : All good count → count ≤ first_bad good count
  none_bad all = by (dec_le count (first_bad good count))
    where
      first : First good 0 count (first_bad good count)
      first = first_bad_lem good count

      by : Dec (count ≤ first_bad good count) → count ≤ first_bad good count
      by (yes h) = h
      by (no h) =
          let l : first_bad good count < count = omega arith in
          let a : good (first_bad good count) ≡ true = all (first_bad good count) l in
          let b : good (first_bad good count) ≡ false = first.at l in
          let z : ◌≡◌ {A = ℕ} 0 1 = cc in
          absurd (omega arith)

  all_good : count ≤ first_bad good count → All good count
  all_good h k l = (first_bad_lem good count).before k (omega arith) (omega arith)

  module _ (bad : ℕ → Refusal) (rest : Checked) where
    table_passed : {counts : Counts} → unless_all_good bad good count rest ≡ Ok counts → All good count × (rest ≡ Ok counts)
    table_passed h =
        let p = passed _ _ _ h in
        (all_good (leb-true _ _ p.0), p.1)

    table_onward : All good count → rest ≡ unless_all_good bad good count rest
    table_onward all = onward _ _ (le-leb _ _ (none_bad all))

module _ (lines links turns pairs : List ℕ) (counts : Counts) where
  pub tables_good : {c : Counts} → tables_of lines links turns pairs counts ≡ Ok c → GoodTables lines links turns pairs counts × ◌≡◌ {A = Checked} (Ok counts) (Ok c)
  unfolding tables_of
  tables_good h =
      let l = table_passed _ _ Line _ h in
      let k = table_passed _ _ Link _ l.1 in
      let t = table_passed _ _ Turn _ k.1 in
      let p = table_passed _ _ Pair _ t.1 in
      (record { line = l.0; link = k.0; turn = t.0; pair = p.0 }, p.1)

  pub good_tables : GoodTables lines links turns pairs counts → Ok counts ≡ tables_of lines links turns pairs counts
  unfolding tables_of
  good_tables g =
      table_onward _ _ Pair _ g.pair
      ∙ table_onward _ _ Turn _ g.turn
      ∙ table_onward _ _ Link _ g.link
      ∙ table_onward _ _ Line _ g.line

same_counts_lem : {a b : Counts} → ◌≡◌ {A = Checked} (Ok a) (Ok b) → a ≡ b
same_counts_lem h = cc

pub passes : (book : List ℕ) (counts : Counts) → check_of book ≡ Ok counts → Passes book counts
unfolding check_of
passes book counts h =
    let a = passed _ _ _ h in
    let b = passed _ _ _ a.1 in
    let c = passed _ _ _ b.1 in
    let d = passed _ _ _ c.1 in
    let e = passed _ _ _ d.1 in
    let t = tables_good _ _ _ _ _ e.1 in
    let same = same_counts_lem t.1 in
    let found : Passes book (counts_of book) =
    record {
      header = leb-true _ _ a.0;
      mark = b.0;
      version = c.0;
      counted = refl;
      limited = d.0;
      size = eqb-true _ _ e.0;
      tables = t.0;
    } in
    rw same at found

pub checks_good : (book : List ℕ) (counts : Counts) → Passes book counts → check_of book ≡ Ok counts
unfolding check_of
checks_good book counts p =
    let same : counts ≡ counts_of book = sym p.counted in
    sym
    (good_tables _ _ _ _ _ p.tables
    ∙ ap (tables_in book) same
    ∙ onward _ _ (eq-eqb _ _ (p.size ∙ ap book_end same))
    ∙ onward _ _ (ap counts_good p.counted ∙ p.limited)
    ∙ onward _ _ p.version
    ∙ onward _ _ p.mark
    ∙ onward _ _ (le-leb _ _ p.header))

-- so a good book is as long as its counts give
pub as_long : (book : List ℕ) (counts : Counts) → check_of book ≡ Ok counts → length book ≡ book_end counts
as_long book counts h = (passes book counts h).size
