-- An edit to the value already there leaves every walk as it was, so the labels are as they were and nothing is counted.
use Prim.Native.Nat.{ℕ, zero, suc, ◌+◌, ◌*◌, ◌-◌, ◌/◌, ◌%◌, ◌<◌}
use mathlib.Core.Path.{◌≡◌, refl, sym, ap, ◌∙◌, subst}
use mathlib.Core.List.{List}
use mathlib.Core.Bool.{true}
use native.Mathlib.Decide.{ℕ_discrete}
use native.Mathlib.Omega.{arith}
use lib.ListN.{length, get_or, set, drop, length-set}
use lib.Seq.{ext_get_or, get_or-set_same, get_or-set_other, get_or-take, get_or-drop}
use Rattle.book.specs.declared.Counts.{Counts}
use Rattle.std.specs.Prelude.{Ok}
use Rattle.book.specs.Number.{number_at, with_number}
use Rattle.book.specs.Entries.{link_from, link_to, link_line, link_ride, turn_walk, seconds_good}
use Rattle.book.specs.Tables.{join_bytes, turns_at, pairs_at, part, turn_table}
use Rattle.book.specs.Check.{check_of}
use Rattle.book.specs.Changes.{with_walk}
use Rattle.book.proofs.GoodBook.{good_book}
use Rattle.book.proofs.WalkWritten.{WalkWritten, walk_written}
use Rattle.walk.specs.View.{view_of, walks_of, listed_in}
use Rattle.walk.specs.Labels.{Table, Entry, entry_at, start_back, TrueLabels}
use Rattle.walk.specs.Counting.{differing}
use Rattle.walk.proofs.theory.Laws.{clash}
use Rattle.walk.proofs.CaseTests.{entry_same}
use Rattle.walk.proofs.Filling.{up_to_at}
use Rattle.walk.proofs.GoodView.{good_view}
use Rattle.walk.proofs.Agreement.{Agree, turn_agrees, link_agrees}
use Rattle.search.proofs.Determined.{labels_one}
use Rattle.edit.specs.Edit.{Edit, edit_tests, refused, untrue, done, EditAnswer}
use Rattle.edit.specs.Demands.{SameValue}
use Rattle.edit.proofs.Tested.{edit_passed}

-- a table differs from itself in nothing
none_differ : (table : ℕ → Entry) (count : ℕ) → differing table table count ≡ 0
unfolding differing
none_differ table zero = refl
none_differ table (suc k) = rw (none_differ table k, entry_same (table k))

module _ (book : List ℕ) (counts : Counts) (turn walk : ℕ) (checked : check_of book ≡ Ok counts) (within : turn < counts.turns) (allowed : seconds_good walk ≡ true) (stored : turn_walk (turn_table book counts) turn ≡ walk) where
  abbrev edited : List ℕ
  edited = with_walk book counts turn walk

  wrote : WalkWritten book counts turn walk
  wrote = walk_written book counts turn walk checked within

  walk_same : (t : ℕ) → t < counts.turns → (view_of edited counts).walk t ≡ (view_of book counts).walk t
  walk_same t h = up_to_at (turn_walk (turn_table edited counts)) counts.turns t 0 h ∙ by (ℕ_discrete t turn) ∙ sym (up_to_at (turn_walk (turn_table book counts)) counts.turns t 0 h)
    where
      by : Dec (t ≡ turn) → turn_walk (turn_table edited counts) t ≡ turn_walk (turn_table book counts) t
      by (yes e) = rw (e) (wrote.new_walk ∙ sym stored)
      by (no other) = wrote.other_walk t other

  agree : Agree (view_of edited counts) (view_of book counts)
  agree =
      record {
        nodes = refl;
        links = refl;
        turns = refl;
        from = λ l h. ap (λ (table : List ℕ). link_from table l) wrote.links;
        line = λ l h. ap (λ (table : List ℕ). link_line table l) wrote.links;
        to = λ l h. ap (λ (table : List ℕ). link_to table l) wrote.links;
        ride = λ l h. ap (λ (table : List ℕ). link_ride table l) wrote.links;
        headway = λ l h. rw (wrote.lines, wrote.links);
        first = λ t h. wrote.first t;
        second = λ t h. wrote.second t;
        walk = walk_same;
        listed = λ p t h g. ap (λ (table : List ℕ). listed_in table counts.pairs p t) wrote.pairs;
        carry_over = refl;
      }

  -- true labels of the edited book are true labels of the book
  still_true : (r : ℕ) (turns links : Table) → TrueLabels (view_of edited counts) r turns links → TrueLabels (view_of book counts) r turns links
  still_true r turns links labels =
      let good = good_view book counts (walks_of book counts) checked in
      let good-edited = good_view edited counts (walks_of edited counts) (wrote.good allowed) in
      let few : counts.turns < start_back = omega (arith, (good_book book counts checked).limited) in
      record {
        turn =
            record {
              costs = labels.turn.costs;
              counts = labels.turn.counts;
              backs = labels.turn.backs;
              entry = λ t h. turn_agrees (view_of edited counts) (view_of book counts) good-edited good few agree r t (entry_at turns t) (labels.turn.entry t h);
            };
        link =
            record {
              costs = labels.link.costs;
              counts = labels.link.counts;
              backs = labels.link.backs;
              entry = λ l h. link_agrees (view_of edited counts) (view_of book counts) good-edited good few agree r l (entry_at links l) (labels.link.entry l h);
            };
      }

-- bytes below 256 that are written with the number that they hold are as they were
written_back : (bytes : List ℕ) (at : ℕ) → ((i : ℕ) → get_or bytes i 0 < 256) → at + 1 < length bytes → with_number bytes at (number_at bytes at) ≡ bytes
unfolding with_number number_at
written_back bytes at small h =
    let low = small at in
    let high = small (at + 1) in
    let low_same : (get_or bytes at 0 + 256 * get_or bytes (at + 1) 0) % 256 ≡ get_or bytes at 0 = omega arith in
    let high_same : (get_or bytes at 0 + 256 * get_or bytes (at + 1) 0) / 256 ≡ get_or bytes (at + 1) 0 = omega arith in
    rw (low_same, high_same) (ext_get_or 0 _ bytes (simp length-set) (λ k l. by k (ℕ_discrete k (at + 1)) (ℕ_discrete k at)))
  where
    by : (k : ℕ) → Dec (k ≡ at + 1) → Dec (k ≡ at) → get_or (set (set bytes at (get_or bytes at 0)) (at + 1) (get_or bytes (at + 1) 0)) k 0 ≡ get_or bytes k 0
    by k (yes e) other = rw e (get_or-set_same (set bytes at (get_or bytes at 0)) (at + 1) (get_or bytes (at + 1) 0) 0 (simp length-set h))
    by k (no n) (yes e) =
        let here : get_or (set bytes at (get_or bytes at 0)) k 0 ≡ get_or bytes k 0 = rw e (get_or-set_same bytes at (get_or bytes at 0) 0 (omega arith)) in
        get_or-set_other (set bytes at (get_or bytes at 0)) (at + 1) k (get_or bytes (at + 1) 0) 0 n ∙ here
    by k (no n) (no m) = get_or-set_other (set bytes at (get_or bytes at 0)) (at + 1) k (get_or bytes (at + 1) 0) 0 n ∙ get_or-set_other bytes at k (get_or bytes at 0) 0 m

-- a number of a part stands in the whole
part_number : (bytes : List ℕ) (start end i : ℕ) → start + i + 1 < end → number_at (part bytes start end) i ≡ number_at bytes (start + i)
unfolding number_at
part_number bytes start end i h =
    let next : start + (i + 1) ≡ start + i + 1 = omega arith in
    rw (
      get_or-take (end - start) (drop start bytes) i 0 (omega arith),
      get_or-take (end - start) (drop start bytes) (i + 1) 0 (omega arith),
      get_or-drop start bytes i 0,
      get_or-drop start bytes (i + 1) 0,
      next,
    )

-- the walk that is stored, where it stands in the book
stored_at : (book : List ℕ) (counts : Counts) (turn : ℕ) → check_of book ≡ Ok counts → turn < counts.turns → ((i : ℕ) → get_or book i 0 < 256) → with_walk book counts turn (turn_walk (turn_table book counts) turn) ≡ book
stored_at book counts turn checked within small =
    let at : ℕ = turns_at counts + (join_bytes * turn + 4) in
    let size = (good_book book counts checked).size in
    ap (with_number book at) (part_number book (turns_at counts) (pairs_at counts) (join_bytes * turn + 4) (omega arith)) ∙ written_back book at small (omega arith)

-- an edit to the value already there is done with 0 and 0, and labels and book are as they were
pub same_value : (book : List ℕ) (r turn walk : ℕ) (turns links : Table) (answer : EditAnswer) (book-after : List ℕ) (turns-after links-after : Table) (counts : Counts) → edit_tests book r turn walk turns links ≡ Ok counts → TrueLabels (view_of book counts) r turns links
    → turn_walk (turn_table book counts) turn ≡ walk → Edit book r turn walk turns links answer book-after turns-after links-after
    → SameValue book turns links answer book-after turns-after links-after
same_value book r turn walk turns links answer book-after turns-after links-after counts tested labels stored (refused found e f g h i) = clash (cc (tested, e))
same_value book r turn walk turns links answer book-after turns-after links-after counts tested labels stored (untrue own e n f g h i) =
    let same : counts ≡ own = cc (tested, e) in
    absurd (n (subst (λ (x : Counts). TrueLabels (view_of book x) r turns links) same labels))
same_value book r turn walk turns links answer book-after turns-after links-after counts tested labels stored (done own e old written new counted) =
    let same : own ≡ counts = cc (tested, e) in
    let known = edit_passed book r turn walk turns links counts tested in
    let wrote-there : book-after ≡ with_walk book counts turn walk = written ∙ ap (λ (x : Counts). with_walk book x turn walk) same in
    let new-there = subst (λ (x : List ℕ). TrueLabels (view_of x counts) r turns-after links-after) wrote-there (subst (λ (x : Counts). TrueLabels (view_of book-after x) r turns-after links-after) same new) in
    let (turns_same, links_same) = labels_one book counts known.checked r turns-after links-after turns links (still_true book counts turn walk known.checked known.listed known.allowed stored r turns-after links-after new-there) labels in
    record {
      answered = counted ∙ rw (turns_same, links_same, none_differ (entry_at turns) own.turns, none_differ (entry_at links) own.links) refl;
      turns_kept = turns_same;
      links_kept = links_same;
      book_kept = λ small. wrote-there ∙ ap (with_walk book counts turn) (sym stored) ∙ stored_at book counts turn known.checked known.listed small;
    }
