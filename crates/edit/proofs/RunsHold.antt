-- Every edit of a run leaves a good book and its true labels, so the next one finds them true, and only the turn or its walk can be refused.
use Prim.Native.Nat.{ℕ, ◌<◌}
use mathlib.Core.Path.{◌≡◌, refl, sym, ◌∙◌, subst}
use mathlib.Core.List.{List, ◌++◌}
use mathlib.Core.Bool.{Bool, true, false, ◌&&◌}
use native.Mathlib.Omega.{arith}
use lib.Dec.{ltb}
use borrow.Author.Tests.{lt-ltb}
use Rattle.book.specs.declared.Counts.{Counts}
use Rattle.book.specs.declared.Refusal.{Refusal}
use Rattle.std.specs.Prelude.{Ok, Err}
use Rattle.book.specs.Entries.{seconds_good}
use Rattle.book.specs.Changes.{with_walk, Change, with_changes}
use Rattle.book.specs.Check.{check_of, unless}
use Rattle.walk.specs.View.{view_of}
use Rattle.walk.specs.Labels.{Table, TrueLabels}
use Rattle.walk.proofs.theory.Laws.{clash}
use Rattle.search.specs.Tests.{node_test, length_test}
use Rattle.search.specs.Search.{Search, refused as search-refused, done as search-done, Searched}
use Rattle.search.proofs.Tested.{node_passed, length_passed, search_passed, lengths_fit}
use Rattle.search.proofs.Determined.{true_sized, labels_one}
use Rattle.edit.specs.Edit.{turn_test, edit_tests, Edit, refused, untrue, done, EditAnswer}
use Rattle.edit.specs.Run.{if_done, Run, start, next}
use Rattle.edit.specs.Demands.{NotTurnedAway, RunHolds}
use Rattle.edit.proofs.Tested.{edit_passed}
use Rattle.edit.proofs.Determined.{LabelsOf, edited_good}
use Rattle.book.specs.declared.Refusal.TheVariants.{BadChange}

-- what one edit of the run leaves to those after it
record EditHolds (r : ℕ) (book : List ℕ) (counts : Counts) (change : Change) (answer : EditAnswer) (book-after : List ℕ) (turns-after links-after : Table) : Type 0 where
  edits : (rest : List Change) → with_changes book-after counts rest ≡ with_changes book counts (if_done answer change ++ rest)
  good : check_of book-after ≡ Ok counts
  labels : TrueLabels (view_of book-after counts) r turns-after links-after
  not_turned_away : NotTurnedAway answer

module _ (r : ℕ) (counts : Counts) (origin : r < counts.nodes) where
  module _ (book : List ℕ) (turns links : Table) (checked : check_of book ≡ Ok counts) (labels : TrueLabels (view_of book counts) r turns links) where
    node_good : node_test (check_of book) r ≡ Ok counts
    unfolding node_test
    node_good = rw (checked, lt-ltb r counts.nodes origin)

    -- only the turn and its new walk can be refused
    only_the_change : (turn walk : ℕ) (found : Refusal) → edit_tests book r turn walk turns links ≡ Err found → found ≡ BadChange
    unfolding turn_test length_test
    only_the_change turn walk found h = by (ltb turn counts.turns && seconds_good walk) (rw (node_good) at h)
      where
        by : (test : Bool) → length_test (unless test BadChange (Ok counts)) turns links ≡ Err found → found ≡ BadChange
        by false e = cc
        by true e = clash (cc (lengths_fit (Ok counts) turns links counts refl (true_sized _ _ turns labels.turn) (true_sized _ _ links labels.link), e))

    counts_same : (turn walk : ℕ) (own : Counts) → edit_tests book r turn walk turns links ≡ Ok own → own ≡ counts
    counts_same turn walk own h =
        let own-checked : check_of book ≡ Ok own = (edit_passed book r turn walk turns links own h).checked in
        cc

    edit_holds : (change : Change) (answer : EditAnswer) (book-after : List ℕ) (turns-after links-after : Table) → Edit book r change.turn change.walk turns links answer book-after turns-after links-after
        → EditHolds r book counts change answer book-after turns-after links-after
    edit_holds change answer book-after t l (refused found e a f g h) =
        let eleven : found ≡ BadChange = only_the_change change.turn change.walk found e in
        rw (a, eleven, f, g, h) (record { edits = λ rest. refl; good = checked; labels = labels; not_turned_away = λ n. omega arith })
    edit_holds change answer book-after t l (untrue own e n a f g h) = absurd (n (subst (LabelsOf book r turns links) (sym (counts_same change.turn change.walk own e)) labels))
    edit_holds change answer book-after t l (done own e y f z a) =
        let same : own ≡ counts = counts_same change.turn change.walk own e in
        let book-same : book-after ≡ with_walk book counts change.turn change.walk = subst (λ (x : Counts). book-after ≡ with_walk book x change.turn change.walk) same f in
        record {
          edits = λ rest. rw (a, book-same) refl;
          good = rw (book-same) (edited_good book r change.turn change.walk turns links counts (subst (λ (x : Counts). edit_tests book r change.turn change.walk turns links ≡ Ok x) same e));
          labels = subst (LabelsOf book-after r t l) same z;
          not_turned_away = rw (a) (λ n. omega arith);
        }

  -- the labels of a good book are those of any fresh search of it
  fresh_same : (last : List ℕ) (turns-last links-last : Table) → check_of last ≡ Ok counts → TrueLabels (view_of last counts) r turns-last links-last
      → (turns links : Table) (answer : Searched) (turns-fresh links-fresh : Table) → Search last r turns links answer turns-fresh links-fresh → answer ≡ (Ok tt) → (turns-fresh ≡ turns-last) × (links-fresh ≡ links-last)
  fresh_same last t l checked labels turns links answer t' l' (search-refused found e a f g) h = clash (cc)
  fresh_same last t l checked labels turns links answer t' l' (search-done own e a labels') h =
      let own-checked : check_of last ≡ Ok own = (search_passed last r turns links own e).0 in
      let same : own ≡ counts = cc in
      labels_one last counts checked r t' l' t l (subst (LabelsOf last r t' l') same labels') labels

  -- A run of edits from a good book and its true labels, refused ones among them
  pub run_holds : {book : List ℕ} {turns links : Table} {answers : List EditAnswer} {changes : List Change} {last : List ℕ} {turns-last links-last : Table}
      → check_of book ≡ Ok counts → TrueLabels (view_of book counts) r turns links → Run r book turns links answers changes last turns-last links-last
      → RunHolds r book counts answers changes last turns-last links-last
  run_holds checked labels (start book turns links) = record { edits = refl; good = checked; labels = labels; fresh = fresh_same book turns links checked labels; not_turned_away = tt }
  run_holds checked labels (next {book} {book-after} {turns} {links} {turns-after} {links-after} {answers} {changes} change answer edit rest) =
      let one = edit_holds book turns links checked labels change answer book-after turns-after links-after edit in
      let later = run_holds one.good one.labels rest in
      record { edits = later.edits ∙ one.edits changes; good = later.good; labels = later.labels; fresh = later.fresh; not_turned_away = (one.not_turned_away, later.not_turned_away) }

-- a search, then edits
pub search_then_run : {r : ℕ} {book : List ℕ} {turns-lent links-lent turns links : Table} {answers : List EditAnswer} {changes : List Change} {last : List ℕ} {turns-last links-last : Table}
    → Search book r turns-lent links-lent (Ok tt) turns links → Run r book turns links answers changes last turns-last links-last
    → (counts : Counts) × (check_of book ≡ Ok counts) × RunHolds r book counts answers changes last turns-last links-last
search_then_run (search-refused found e a f g) run = clash (cc)
search_then_run {r} {book} {turns-lent} {links-lent} (search-done counts e a labels) run =
    let (noded, sizes) = length_passed (node_test (check_of book) r) turns-lent links-lent counts e in
    let (checked, origin) = node_passed (check_of book) r counts noded in
    (counts, checked, run_holds r counts origin checked labels run)
