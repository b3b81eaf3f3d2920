-- Labels are turned away with 13 exactly when some entry is not the true one: a true entry stands for every turn and link, and entry by entry it is decided.
use Prim.Native.Nat.{ℕ, zero, suc, ◌<◌}
use mathlib.Core.Path.{◌≡◌, refl, sym, ap, ◌∙◌, subst}
use mathlib.Core.Logic.{◌⊎◌, inl, inr, ◌↔◌}
use mathlib.Core.List.{List}
use mathlib.Core.Bool.{Bool, true, false}
use native.Mathlib.Omega.{arith}
use Rattle.book.specs.declared.Counts.{Counts}
use Rattle.std.specs.Prelude.{Ok, Err}
use Rattle.book.specs.Check.{check_of}
use Rattle.book.proofs.GoodBook.{good_book}
use Rattle.walk.specs.View.{View, view_of, walks_of}
use Rattle.walk.specs.Labels.{Entry, Table, entry_at, TrueTurn, TrueLink, TrueTable, TrueLabels}
use Rattle.walk.specs.Counting.{same_entry}
use Rattle.walk.proofs.theory.Laws.{clash, one_more}
use Rattle.walk.proofs.CaseTests.{same_entry_lem, entry_same}
use Rattle.walk.proofs.GoodView.{good_view}
use Rattle.walk.proofs.LabelLaws.{turn_one, link_one}
use Rattle.walk.proofs.Existence.{turn_exists, link_exists}
use Rattle.search.specs.Route.{route_tests, route_given_back, RouteOnward, no_walk, no_room, done as routed, Routing, refused as route-refused, untrue as route-untrue, onward, RouteAnswer}
use Rattle.search.specs.steps.Tables.{Sized}
use Rattle.search.proofs.Tested.{route_passed}
use Rattle.edit.specs.Edit.{edit_tests, Edit, refused, untrue, done, EditAnswer}
use Rattle.edit.specs.Demands.{Differs, SomeDiffers}
use Rattle.edit.proofs.Tested.{edit_passed}
use Rattle.edit.proofs.Determined.{LabelsOf}
use Rattle.book.specs.declared.Refusal.TheVariants.{UntrueLabel}

module _ (count : ℕ) (TrueAt : ℕ → Entry → Type 0) (exists : (k : ℕ) → k < count → (e : Entry) × TrueAt k e) (table : Table) where
  entry_or_differs : (k : ℕ) → k < count → TrueAt k (entry_at table k) ⊎ Differs count TrueAt table
  entry_or_differs k h =
      let (e, is_true) = exists k h in
      by e is_true (same_entry (entry_at table k) e) refl
    where
      by : (e : Entry) → TrueAt k e → (test : Bool) → same_entry (entry_at table k) e ≡ test → TrueAt k (entry_at table k) ⊎ Differs count TrueAt table
      by e is_true true h' = inl (subst (TrueAt k) (sym (same_entry_lem (entry_at table k) e h')) is_true)
      by e is_true false h' = inr (k, h, e, is_true, λ same. clash (cc (sym (subst (λ (x : Entry). same_entry (entry_at table k) x ≡ true) same (entry_same (entry_at table k))), h')))

  -- the first n entries are true, or one differs
  true_or_differs : (n : ℕ) → ((k : ℕ) → k < n → k < count) → ((k : ℕ) → k < n → TrueAt k (entry_at table k)) ⊎ Differs count TrueAt table
  true_or_differs zero within = inl (λ k h. absurd (omega arith))
  true_or_differs (suc n) within = by (true_or_differs n (λ k h. within k (omega arith))) (entry_or_differs n (within n (omega arith)))
    where
      by : ((k : ℕ) → k < n → TrueAt k (entry_at table k)) ⊎ Differs count TrueAt table → TrueAt n (entry_at table n) ⊎ Differs count TrueAt table → ((k : ℕ) → k < suc n → TrueAt k (entry_at table k)) ⊎ Differs count TrueAt table
      by (inr differs) last = inr differs
      by (inl earlier) (inr differs) = inr differs
      by (inl earlier) (inl last) = inl (λ k h. one_more n (λ k. TrueAt k (entry_at table k)) earlier last k (omega arith))

  table_or_differs : Sized count table → TrueTable count TrueAt table ⊎ Differs count TrueAt table
  table_or_differs sized = by (true_or_differs count (λ k h. h))
    where
      by : ((k : ℕ) → k < count → TrueAt k (entry_at table k)) ⊎ Differs count TrueAt table → TrueTable count TrueAt table ⊎ Differs count TrueAt table
      by (inl entry) = inl (record { costs = sized.cost; counts = sized.links; backs = sized.back; entry = entry })
      by (inr differs) = inr differs

differs_untrue : (count : ℕ) (TrueAt : ℕ → Entry → Type 0) → ((k : ℕ) (e f : Entry) → TrueAt k e → TrueAt k f → e ≡ f) → (table : Table) → Differs count TrueAt table → TrueTable count TrueAt table → ⊥
differs_untrue count TrueAt one table (k, h, e, is_true, differs) is-true-table = differs (one k (entry_at table k) e (is-true-table.entry k h) is_true)

-- tables of a good book's lengths are its labels, or some entry differs from the true one
module _ (book : List ℕ) (counts : Counts) (checked : check_of book ≡ Ok counts) (r : ℕ) (turns links : Table) (turns_sized : Sized counts.turns turns) (links_sized : Sized counts.links links) where
  abbrev U : View
  U = view_of book counts

  labels_or_differs : TrueLabels U r turns links ⊎ SomeDiffers U r turns links
  labels_or_differs =
      let good = good_view book counts (walks_of book counts) checked in
      by (table_or_differs counts.turns (TrueTurn U r) (turn_exists U good r) turns turns_sized) (table_or_differs counts.links (TrueLink U r) (link_exists U good r) links links_sized)
    where
      by : TrueTable counts.turns (TrueTurn U r) turns ⊎ Differs counts.turns (TrueTurn U r) turns → TrueTable counts.links (TrueLink U r) links ⊎ Differs counts.links (TrueLink U r) links → TrueLabels U r turns links ⊎ SomeDiffers U r turns links
      by (inl turn) (inl link) = inl (record { turn = turn; link = link })
      by (inl turn) (inr link) = inr (inr link)
      by (inr turn) link = inr (inl turn)

  pub untrue_differs : (TrueLabels U r turns links → ⊥) ↔ SomeDiffers U r turns links
  untrue_differs = (λ n. onto n labels_or_differs, back)
    where
      onto : (TrueLabels U r turns links → ⊥) → TrueLabels U r turns links ⊎ SomeDiffers U r turns links → SomeDiffers U r turns links
      onto n (inl labels) = absurd (n labels)
      onto n (inr differs) = differs

      back : SomeDiffers U r turns links → TrueLabels U r turns links → ⊥
      back (inl turn) labels = differs_untrue counts.turns (TrueTurn U r) (turn_one U (good_view book counts (walks_of book counts) checked) (omega (arith, (good_book book counts checked).limited)) r) turns turn labels.turn
      back (inr link) labels = differs_untrue counts.links (TrueLink U r) (link_one U (good_view book counts (walks_of book counts) checked) (omega (arith, (good_book book counts checked).limited)) r) links link labels.link

  -- where every entry is the true one, the tables are the labels
  pub entries_true : ((t : ℕ) → t < counts.turns → (e : Entry) → TrueTurn U r t e → entry_at turns t ≡ e) → ((l : ℕ) → l < counts.links → (e : Entry) → TrueLink U r l e → entry_at links l ≡ e) → TrueLabels U r turns links
  entries_true turn link = by labels_or_differs
    where
      by : TrueLabels U r turns links ⊎ SomeDiffers U r turns links → TrueLabels U r turns links
      by (inl labels) = labels
      by (inr (inl (t, h, e, is_true, differs))) = absurd (differs (turn t h e is_true))
      by (inr (inr (l, h, e, is_true, differs))) = absurd (differs (link l h e is_true))

-- two ways to say one thing, one after the other
through : {A B C : Type 0} → A ↔ B → B ↔ C → A ↔ C
through f g = (λ a. g.0 (f.0 a), λ c. f.1 (g.1 c))

-- AN EDIT whose other tests pass gives 13 exactly when the labels are not true
module _ (book : List ℕ) (r turn walk : ℕ) (turns links : Table) (answer : EditAnswer) (book-after : List ℕ) (turns-after links-after : Table) (counts : Counts) (tested : edit_tests book r turn walk turns links ≡ Ok counts) where
  pub edit_turned_away : Edit book r turn walk turns links answer book-after turns-after links-after → (answer ≡ Err UntrueLabel) ↔ (TrueLabels (view_of book counts) r turns links → ⊥)
  edit_turned_away (refused found e a f g h) = clash (cc)
  edit_turned_away (untrue own e n a f g h) =
      let same : own ≡ counts = cc in
      (λ thirteen. subst (λ (x : Counts). LabelsOf book r turns links x → ⊥) same n, λ not-true. a)
  edit_turned_away (done own e labels f z a) =
      let same : own ≡ counts = cc in
      (λ thirteen. clash (cc), λ not-true. absurd (not-true (subst (LabelsOf book r turns links) same labels)))

  -- and so exactly when some entry differs from the true one
  pub edit_differs : Edit book r turn walk turns links answer book-after turns-after links-after → (answer ≡ Err UntrueLabel) ↔ SomeDiffers (view_of book counts) r turns links
  edit_differs outcome =
      let passed = edit_passed book r turn walk turns links counts tested in
      through (edit_turned_away outcome) (untrue_differs book counts passed.checked r turns links passed.turns_sized passed.links_sized)

-- A ROUTE whose other tests pass gives 13 exactly when the labels are not true
module _ (book : List ℕ) (r s : ℕ) (turns links : Table) (buffer : List ℕ) (answer : RouteAnswer) (after : List ℕ) (counts : Counts) (tested : route_tests book r s turns links ≡ Ok counts) where
  -- 14, 15 or done
  onward_not_turned_away : (U : View) → RouteOnward U r s buffer answer after → answer ≡ Err UntrueLabel → ⊥
  onward_not_turned_away U (no_walk n a f) e = omega (arith, ap (λ (x : RouteAnswer). (route_given_back x).number) (sym a ∙ e))
  onward_not_turned_away U (no_room w route short a f) e = omega (arith, ap (λ (x : RouteAnswer). (route_given_back x).number) (sym a ∙ e))
  onward_not_turned_away U (routed w route fits a f) e = omega (arith, ap (λ (x : RouteAnswer). (route_given_back x).number) (sym a ∙ e))

  pub route_turned_away : Routing book r s turns links buffer answer after → (answer ≡ Err UntrueLabel) ↔ (TrueLabels (view_of book counts) r turns links → ⊥)
  route_turned_away (route-refused found e a f) = clash (cc)
  route_turned_away (route-untrue own e n a f) =
      let same : own ≡ counts = cc in
      (λ thirteen. subst (λ (x : Counts). LabelsOf book r turns links x → ⊥) same n, λ not-true. a)
  route_turned_away (onward own e labels w) =
      let same : own ≡ counts = cc in
      (λ thirteen. absurd (onward_not_turned_away (view_of book own) w thirteen), λ not-true. absurd (not-true (subst (LabelsOf book r turns links) same labels)))

  pub route_differs : Routing book r s turns links buffer answer after → (answer ≡ Err UntrueLabel) ↔ SomeDiffers (view_of book counts) r turns links
  route_differs outcome =
      let (checked, (turns_sized, links_sized)) = route_passed book r s turns links counts tested in
      through (route_turned_away outcome) (untrue_differs book counts checked r turns links turns_sized links_sized)
