-- A search of the edited book is done, since the book stays good, so the labels that it leaves are true and the entries counted are those that differ.
use Prim.Native.Nat.{ℕ, ◌<◌}
use mathlib.Core.Path.{◌≡◌, sym, ap, ◌∙◌, subst}
use mathlib.Core.List.{List}
use lib.ListN.{length}
use borrow.Author.Tests.{lt-ltb}
use Rattle.book.specs.declared.Counts.{Counts}
use Rattle.std.specs.Prelude.{Ok}
use Rattle.book.specs.Check.{Checked, check_of}
use Rattle.book.specs.Changes.{with_walk}
use Rattle.book.proofs.WalkWritten.{walk_written}
use Rattle.walk.specs.View.{view_of}
use Rattle.walk.specs.Labels.{Table, entry_at, TrueLabels}
use Rattle.walk.specs.Counting.{differing}
use Rattle.walk.proofs.theory.Laws.{clash}
use Rattle.search.specs.Tests.{node_test}
use Rattle.search.specs.Search.{Search, search_tests, refused, done, Searched}
use Rattle.search.specs.steps.Tables.{Sized}
use Rattle.search.proofs.Determined.{true_sized}
use Rattle.search.proofs.Tested.{lengths_fit}
use Rattle.edit.specs.steps.KeptLabels.{kept_at, KeptWhole}
use Rattle.edit.specs.steps.Onward.{Asked, Relabelled}
use Rattle.edit.proofs.Counted.{same_counted}
use Rattle.edit.proofs.Tested.{EditPassed, edit_passed}
use Rattle.search.specs.declared.Label.{Label}

node_in : (checked : Checked) (node : ℕ) (counts : Counts) → checked ≡ Ok counts → node < counts.nodes → node_test checked node ≡ Ok counts
unfolding node_test
node_in checked node counts e h = rw (e, lt-ltb node counts.nodes h)

module _ (book : List ℕ) (counts : Counts) (r turn walk : ℕ) (turns links : Table) (asked : Asked book counts r turn walk turns links) where
  pub passed : EditPassed book r turn walk turns links counts
  passed = edit_passed book r turn walk turns links counts asked.tested

  -- the edited book is as good, and has the same counts
  module _ (book-after : List ℕ) (written : book-after ≡ with_walk book counts turn walk) where
    pub still_good : check_of book-after ≡ Ok counts
    still_good = ap check_of written ∙ (walk_written book counts turn walk passed.checked passed.listed).good passed.allowed

    tests_pass : search_tests book-after r turns links ≡ Ok counts
    tests_pass = lengths_fit (node_test (check_of book-after) r) turns links counts (node_in (check_of book-after) r counts still_good passed.origin) passed.turns_sized passed.links_sized

    -- what any search of the edited book leaves
    module _ (answer : Searched) (turns-after links-after : Table) (searched : Search book-after r turns links answer turns-after links-after) where
      new_labels : TrueLabels (view_of book-after counts) r turns-after links-after
      new_labels = by searched
        where
          by : Search book-after r turns links answer turns-after links-after → TrueLabels (view_of book-after counts) r turns-after links-after
          by (refused found e a b c) = clash (cc (e, tests_pass))
          by (done own e a labels) =
              let same : own ≡ counts = cc (e, tests_pass) in
              subst (λ (x : Counts). TrueLabels (view_of book-after x) r turns-after links-after) same labels

      -- the labels from before are kept beside them
      module _ (turns_kept links_kept : List Label) (turns-whole : KeptWhole counts.turns turns_kept turns) (links-whole : KeptWhole counts.links links_kept links) where
        pub turns_beside : Sized (length turns_kept) turns-after
        turns_beside = subst (λ (n : ℕ). Sized n turns-after) (sym turns-whole.whole) (true_sized _ _ turns-after new_labels.turn)

        pub links_beside : Sized (length links_kept) links-after
        links_beside = subst (λ (n : ℕ). Sized n links-after) (sym links-whole.whole) (true_sized _ _ links-after new_labels.link)

        counted : (count : ℕ) (kept : List Label) (old after : Table) → KeptWhole count kept old → {n : ℕ} → n ≡ differing (kept_at kept) (entry_at after) (length kept) → n ≡ differing (entry_at old) (entry_at after) count
        counted count kept old after whole told = told ∙ ap (differing (kept_at kept) (entry_at after)) whole.whole ∙ same_counted (kept_at kept) (entry_at old) (entry_at after) count whole.holds

        pub relabelled : (turns-count links-count : ℕ) → turns-count ≡ differing (kept_at turns_kept) (entry_at turns-after) (length turns_kept) → links-count ≡ differing (kept_at links_kept) (entry_at links-after) (length links_kept)
            → Relabelled book counts r turn walk turns links (record { turns = turns-count; links = links-count }) book-after turns-after links-after
        relabelled turns-count links-count t l =
            record {
              written = written;
              labels = new_labels;
              counted = rw (counted counts.turns turns_kept turns turns-after turns-whole t, counted counts.links links_kept links links-after links-whole l);
            }
