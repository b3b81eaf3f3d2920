-- What an edit answers and leaves is fixed by what it was lent, since the edited book is good again and a good book has one table of each kind.
use Prim.Native.Nat.{ℕ}
use mathlib.Core.Path.{◌≡◌, sym, ◌∙◌, subst}
use mathlib.Core.List.{List}
use Rattle.book.specs.declared.Counts.{Counts}
use Rattle.std.specs.Prelude.{Ok}
use Rattle.book.specs.Changes.{with_walk}
use Rattle.book.specs.Check.{check_of}
use Rattle.book.proofs.WalkWritten.{walk_written}
use Rattle.walk.specs.View.{view_of}
use Rattle.walk.specs.Labels.{Table, TrueLabels}
use Rattle.walk.proofs.theory.Laws.{clash}
use Rattle.search.proofs.Determined.{labels_one}
use Rattle.edit.specs.Edit.{edit_tests, Edit, refused, untrue, done, EditAnswer}
use Rattle.edit.proofs.Tested.{edit_passed}

-- the labels of a book, as a statement about its counts
abbrev pub LabelsOf : List ℕ → ℕ → Table → Table → Counts → Type 0
LabelsOf book r turns links counts = TrueLabels (view_of book counts) r turns links

-- the edited book is good, with the counts from before
pub edited_good : (book : List ℕ) (r turn walk : ℕ) (turns links : Table) (counts : Counts) → edit_tests book r turn walk turns links ≡ Ok counts → check_of (with_walk book counts turn walk) ≡ Ok counts
edited_good book r turn walk turns links counts h =
    let passed = edit_passed book r turn walk turns links counts h in
    (walk_written book counts turn walk passed.checked passed.listed).good passed.allowed

-- two outcomes that the contract allows for one input are equal
module _ (book : List ℕ) (r turn walk : ℕ) (turns links : Table) where
  counts_one : (counts other : Counts) → edit_tests book r turn walk turns links ≡ Ok counts → edit_tests book r turn walk turns links ≡ Ok other → other ≡ counts
  counts_one counts other a b = cc

  pub edit_determined : (one other : EditAnswer) (book-one book-other : List ℕ) (turns-one links-one turns-other links-other : Table)
      → Edit book r turn walk turns links one book-one turns-one links-one → Edit book r turn walk turns links other book-other turns-other links-other
      → (one ≡ other) × (book-one ≡ book-other) × (turns-one ≡ turns-other) × (links-one ≡ links-other)
  edit_determined one other b b' t l t' l' (refused found e a f g h) (refused found' e' a' f' g' h') = (cc, f ∙ sym f', g ∙ sym g', h ∙ sym h')
  edit_determined one other b b' t l t' l' (refused found e a f g h) (untrue counts e' n a' f' g' h') = clash (cc)
  edit_determined one other b b' t l t' l' (refused found e a f g h) (done counts e' y f' z a') = clash (cc)
  edit_determined one other b b' t l t' l' (untrue counts e n a f g h) (refused found e' a' f' g' h') = clash (cc)
  edit_determined one other b b' t l t' l' (untrue counts e n a f g h) (untrue counts' e' n' a' f' g' h') = (a ∙ sym a', f ∙ sym f', g ∙ sym g', h ∙ sym h')
  edit_determined one other b b' t l t' l' (untrue counts e n a f g h) (done counts' e' y f' z a') = absurd (n (subst (LabelsOf book r turns links) (counts_one counts counts' e e') y))
  edit_determined one other b b' t l t' l' (done counts e y f z a) (refused found e' a' f' g' h') = clash (cc)
  edit_determined one other b b' t l t' l' (done counts e y f z a) (untrue counts' e' n a' f' g' h') = absurd (n (subst (LabelsOf book r turns links) (counts_one counts' counts e' e) y))
  edit_determined one other b b' t l t' l' (done counts e y f z a) (done counts' e' y' f' z' a') =
      let same : counts' ≡ counts = counts_one counts counts' e e' in
      let written : b' ≡ with_walk book counts turn walk = subst (λ (x : Counts). b' ≡ with_walk book x turn walk) same f' in
      let labels : LabelsOf (with_walk book counts turn walk) r t l counts = subst (λ (seen : List ℕ). LabelsOf seen r t l counts) f z in
      let labels' : LabelsOf (with_walk book counts turn walk) r t' l' counts = subst (λ (seen : List ℕ). LabelsOf seen r t' l' counts) written (subst (LabelsOf b' r t' l') same z') in
      let (turns_same, links_same) = labels_one (with_walk book counts turn walk) counts (edited_good book r turn walk turns links counts e) r t l t' l' labels labels' in
      (a ∙ sym (rw (same, ← turns_same, ← links_same) at a'), f ∙ sym written, turns_same, links_same)
