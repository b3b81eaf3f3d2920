-- The two walk bytes of one turn lie in its own entry of the turn table, so all else is read as before and a good book stays good.
use Prim.Native.Nat.{ℕ, ◌+◌, ◌-◌, ◌*◌, ◌<◌}
use mathlib.Core.Path.{◌≡◌, ◌∙◌}
use mathlib.Core.List.{List}
use mathlib.Core.Bool.{true}
use native.Mathlib.Omega.{arith}
use native.Mathlib.Decide.{ℕ_discrete}
use lib.ListN.{length, get_or, length-take, length-drop}
use borrow.Author.Tests.{lt-ltb, eq-eqb}
use Rattle.book.specs.declared.Counts.{Counts}
use Rattle.std.specs.Prelude.{Ok}
use Rattle.book.specs.Number.{number_at, with_number}
use Rattle.book.specs.Header.{header_bytes, mark_good, version_good, counts_of}
use Rattle.book.specs.Tables.{join_bytes, lines_at, links_at, turns_at, pairs_at, book_end, line_table, link_table, turn_table, pair_table}
use Rattle.book.specs.Entries.{join_first, join_second, join_seconds, seconds_good, ascends, join_good, turn_good, pair_good, turn_first, turn_second, turn_walk}
use Rattle.book.specs.Check.{check_of}
use Rattle.book.specs.Changes.{with_walk}
use Rattle.book.proofs.Passes.{All, GoodTables, Passes, passes, checks_good}
use Rattle.book.proofs.Rules.{JoinRules, join_rules}
use Rattle.book.proofs.NumberWritten.{written_length, written_byte, written_other, written_same, part_before, part_after, part_around}

-- a table of joins with other seconds in entry t
module _ (table : List ℕ) (t seconds : ℕ) where
  abbrev written : List ℕ
  written = with_number table (join_bytes * t + 4) seconds

  first_kept : (k : ℕ) → join_first written k ≡ join_first table k
  first_kept k = written_other table _ seconds _ (λ e. omega arith) (λ e. omega arith) (λ e. omega arith)

  second_kept : (k : ℕ) → join_second written k ≡ join_second table k
  second_kept k = written_other table _ seconds _ (λ e. omega arith) (λ e. omega arith) (λ e. omega arith)

  seconds_kept : (k : ℕ) → (k ≡ t → ⊥) → join_seconds written k ≡ join_seconds table k
  seconds_kept k other = written_other table _ seconds _ (λ e. other (omega arith)) (λ e. omega arith) (λ e. omega arith)

  seconds_written : join_bytes * t + 5 < length table → join_seconds written t ≡ seconds
  seconds_written h = written_same table _ seconds (omega arith)

  ascends_kept : (k : ℕ) → ascends written k ≡ ascends table k
  unfolding ascends
  ascends_kept k = rw (first_kept k, first_kept (k - 1), second_kept k, second_kept (k - 1))

  seconds_good_lem : (k : ℕ) → join_bytes * t + 5 < length table → seconds_good seconds ≡ true → seconds_good (join_seconds table k) ≡ true → seconds_good (join_seconds written k) ≡ true
  seconds_good_lem k l new old = by (ℕ_discrete k t)
    where
      by : Dec (k ≡ t) → seconds_good (join_seconds written k) ≡ true
      by (yes e) = rw (e, seconds_written l) new
      by (no other) = rw (seconds_kept k other) old

  -- an entry with good seconds keeps the rules as before
  turn_kept : (count : ℕ) (ends begins : ℕ → ℕ) (k : ℕ) → seconds_good (join_seconds written k) ≡ true → JoinRules count ends begins table k → join_good count ends begins written k ≡ true
  unfolding join_good
  turn_kept count ends begins k good rules =
      rw (
        first_kept k,
        second_kept k,
        ascends_kept k,
        good,
        lt-ltb _ _ rules.first,
        lt-ltb _ _ rules.second,
        eq-eqb _ _ rules.meet,
        rules.order,
      )

  -- what joins two of its entries keeps the rules as before
  pair_kept : (count : ℕ) (pairs : List ℕ) (k : ℕ) → pair_good count written pairs k ≡ pair_good count table pairs k
  unfolding join_good
  pair_kept count pairs k = rw (second_kept (join_first pairs k), first_kept (join_second pairs k))

-- a book with another walk for a turn
pub record WalkWritten (book : List ℕ) (counts : Counts) (turn walk : ℕ) : Type 0 where
  pub size : length (with_walk book counts turn walk) ≡ length book
  pub other_byte : (i : ℕ) → (i ≡ turns_at counts + (join_bytes * turn + 4) → ⊥) → (i ≡ turns_at counts + (join_bytes * turn + 4) + 1 → ⊥) → get_or (with_walk book counts turn walk) i 0 ≡ get_or book i 0
  pub lines : line_table (with_walk book counts turn walk) counts ≡ line_table book counts
  pub links : link_table (with_walk book counts turn walk) counts ≡ link_table book counts
  pub first : (k : ℕ) → turn_first (turn_table (with_walk book counts turn walk) counts) k ≡ turn_first (turn_table book counts) k
  pub second : (k : ℕ) → turn_second (turn_table (with_walk book counts turn walk) counts) k ≡ turn_second (turn_table book counts) k
  pub new_walk : turn_walk (turn_table (with_walk book counts turn walk) counts) turn ≡ walk
  pub other_walk : (k : ℕ) → (k ≡ turn → ⊥) → turn_walk (turn_table (with_walk book counts turn walk) counts) k ≡ turn_walk (turn_table book counts) k
  pub pairs : pair_table (with_walk book counts turn walk) counts ≡ pair_table book counts
  pub good : seconds_good walk ≡ true → check_of (with_walk book counts turn walk) ≡ Ok counts

module _ (book : List ℕ) (counts : Counts) (turn walk : ℕ) (checked : check_of book ≡ Ok counts) (within : turn < counts.turns) where
  abbrev edited : List ℕ
  edited = with_walk book counts turn walk

  abbrev at : ℕ
  at = turns_at counts + (join_bytes * turn + 4)

  kept : Passes book counts
  kept = passes book counts checked

  lines_kept : line_table edited counts ≡ line_table book counts
  lines_kept = part_before book lines_at (links_at counts) at walk (omega arith) (omega arith)

  links_kept : link_table edited counts ≡ link_table book counts
  links_kept = part_before book (links_at counts) (turns_at counts) at walk (omega arith) (omega arith)

  turns_written : turn_table edited counts ≡ with_number (turn_table book counts) (join_bytes * turn + 4) walk
  turns_written = part_around book (turns_at counts) (pairs_at counts) (join_bytes * turn + 4) walk (omega arith)

  pairs_kept : pair_table edited counts ≡ pair_table book counts
  pairs_kept = part_after book (pairs_at counts) (book_end counts) at walk (omega arith)

  early : (i : ℕ) → i < header_bytes → get_or edited i 0 ≡ get_or book i 0
  early i h = written_byte book at walk i (λ e. omega arith) (λ e. omega arith)

  early_number : (i : ℕ) → i + 1 < header_bytes → number_at edited i ≡ number_at book i
  early_number i h = written_other book at walk i (λ e. omega arith) (λ e. omega arith) (λ e. omega arith)

  mark_kept : mark_good edited ≡ mark_good book
  unfolding mark_good
  mark_kept = rw (early 0 (omega arith), early 1 (omega arith), early 2 (omega arith))

  version_kept : version_good edited ≡ version_good book
  unfolding version_good
  version_kept = rw (early_number 3 (omega arith))

  counts_kept : counts_of edited ≡ counts_of book
  unfolding counts_of
  counts_kept =
      rw (
        early_number 5 (omega arith),
        early_number 7 (omega arith),
        early_number 9 (omega arith),
        early_number 11 (omega arith),
        early_number 13 (omega arith),
        early_number 15 (omega arith),
      )

  turn_room : join_bytes * turn + 5 < length (turn_table book counts)
  turn_room = simp (length-take, length-drop) (omega (arith, kept.size))

  edited_turn : seconds_good walk ≡ true → All (turn_good counts.links (link_table book counts) (with_number (turn_table book counts) (join_bytes * turn + 4) walk)) counts.turns
  edited_turn good k l =
      let rules = join_rules _ _ _ _ k (kept.tables.turn k l) in
      turn_kept (turn_table book counts) turn walk _ _ _ k (seconds_good_lem (turn_table book counts) turn walk k turn_room good rules.seconds_good_lem) rules

  edited_tables : seconds_good walk ≡ true → GoodTables (line_table edited counts) (link_table edited counts) (turn_table edited counts) (pair_table edited counts) counts
  edited_tables good =
      rw (lines_kept, links_kept, turns_written, pairs_kept)
      (record {
        line = kept.tables.line;
        link = kept.tables.link;
        turn = edited_turn good;
        pair = λ k l. pair_kept (turn_table book counts) turn walk _ _ k ∙ kept.tables.pair k l;
      })

  edited_good : seconds_good walk ≡ true → check_of edited ≡ Ok counts
  edited_good good =
      checks_good edited counts
      (record {
        header = rw (written_length book at walk) kept.header;
        mark = mark_kept ∙ kept.mark;
        version = version_kept ∙ kept.version;
        counted = counts_kept ∙ kept.counted;
        limited = kept.limited;
        size = written_length book at walk ∙ kept.size;
        tables = edited_tables good;
      })

  pub walk_written : WalkWritten book counts turn walk
  walk_written =
      record {
        size = written_length book at walk;
        other_byte = written_byte book at walk;
        lines = lines_kept;
        links = links_kept;
        first = λ k. rw turns_written (first_kept (turn_table book counts) turn walk k);
        second = λ k. rw turns_written (second_kept (turn_table book counts) turn walk k);
        new_walk = rw turns_written (seconds_written (turn_table book counts) turn walk turn_room);
        other_walk = λ k other. rw turns_written (seconds_kept (turn_table book counts) turn walk k other);
        pairs = pairs_kept;
        good = edited_good;
      }
