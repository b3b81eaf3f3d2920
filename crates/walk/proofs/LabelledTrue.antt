-- The labels of the worked books are true, each table being what is computed from its book's bytes; an outcome with other numbers than the right one is refused.
use Prim.Native.Nat.{ℕ, zero, suc, ◌<◌}
use mathlib.Core.Path.{◌≡◌, refl, sym, ap, ◌∙◌, subst}
use mathlib.Core.List.{List, [], ◌∷◌, map}
use mathlib.Core.Bool.{true}
use native.Mathlib.Omega.{arith}
use lib.ListN.{length, get_or}
use Rattle.std.specs.Prelude.{Ok}
use Rattle.book.specs.Number.{number_at, with_number}
use Rattle.book.specs.Check.{check_of}
use Rattle.book.specs.Entries.{seconds_good}
use Rattle.book.specs.BookA.{book_a, counts_a}
use Rattle.book.proofs.BookA.{book_a_good}
use Rattle.walk.specs.View.{View, view_of, walks_of, listed_in, up_to}
use Rattle.walk.specs.Walks.{look_up}
use Rattle.walk.specs.Labels.{Entry, entry_at, no_entry, TrueTable, TrueLabels}
use Rattle.walk.specs.Counting.{same_entry}
use Rattle.walk.specs.Cases.{Claim, turns_are, links_are, closed, turn_entries_a, link_entries_a, Table as Rows}
use Rattle.walk.specs.Labelled.{Labelled, as_table, given, shut, cut_off, by_the_last, RightAlone}
use Rattle.walk.specs.steps.Costs.{turn_cost}
use Rattle.walk.specs.steps.Rows.{rounds_of}
use Rattle.walk.proofs.GoodView.{good_view}
use Rattle.walk.proofs.CaseTests.{settled, turn_at, link_at, passes, all_pass, claims_hold, differ, not_equal}
use Rattle.walk.proofs.CasesHold.{changed_good, cases_hold}

mapped_length : (f : Entry → ℕ) (entries : List Entry) → length (map f entries) ≡ length entries
mapped_length f [] = refl
mapped_length f (e ∷ rest) = ap suc (mapped_length f rest)

entry_there : (entries : List Entry) (k : ℕ) → k < length entries → entry_at (as_table entries) k ≡ get_or entries k no_entry
entry_there [] k h = absurd (omega arith)
entry_there (e ∷ rest) zero h = refl
entry_there (e ∷ rest) (suc k) h = entry_there rest k (omega arith)

-- entries that are true one by one are a true table
table_true : (count : ℕ) (TrueAt : ℕ → Entry → Type 0) (entries : List Entry) → Rows count TrueAt entries → TrueTable count TrueAt (as_table entries)
table_true count TrueAt entries h =
    record {
      costs = mapped_length _ entries ∙ h.as_long;
      counts = mapped_length _ entries ∙ h.as_long;
      backs = mapped_length _ entries ∙ h.as_long;
      entry = λ k l. subst (TrueAt k) (sym (entry_there entries k (omega (arith, h.as_long)))) (h.each k l);
    }

abbrev pub view_in : Labelled → View
view_in labelled = view_of labelled.book counts_a

abbrev claims_in : Labelled → List Claim
claims_in labelled = turns_are labelled.turns ∷ links_are labelled.links ∷ []

labels_true : (labelled : Labelled) → check_of labelled.book ≡ Ok counts_a → settled (view_in labelled) ≡ true → all_pass (view_in labelled) (view_in labelled) (claims_in labelled) ≡ true
    → TrueLabels (view_in labelled) 0 (as_table labelled.turns) (as_table labelled.links)
labels_true labelled checked steady pass =
    let good = good_view labelled.book counts_a (walks_of labelled.book counts_a) checked in
    let held = claims_hold (view_in labelled) (view_in labelled) good good steady steady (claims_in labelled) pass in
    record { turn = table_true _ _ labelled.turns held.0; link = table_true _ _ labelled.links held.1.0 }

pub given_true : TrueLabels (view_in given) 0 (as_table given.turns) (as_table given.links)
given_true = record { turn = table_true _ _ turn_entries_a cases_hold.0.1.0; link = table_true _ _ link_entries_a cases_hold.1.0.1.0 }

-- P5 is the fifth case, P6 the sixth
pub shut_good : check_of shut.book ≡ Ok counts_a
shut_good = cases_hold.1.1.1.1.0.0

pub cut_off_good : check_of cut_off.book ≡ Ok counts_a
cut_off_good = cases_hold.1.1.1.1.1.0.0

pub by_the_last_good : check_of by_the_last.book ≡ Ok counts_a
unfolding seconds_good
by_the_last_good = changed_good counts_a book_a (closed 0 ∷ []) book_a_good refl

pub shut_true : TrueLabels (view_in shut) 0 (as_table shut.turns) (as_table shut.links)
unfolding number_at with_number listed_in up_to look_up turn_cost rounds_of turn_at link_at passes same_entry
shut_true = labels_true shut shut_good refl refl

pub cut_off_true : TrueLabels (view_in cut_off) 0 (as_table cut_off.turns) (as_table cut_off.links)
unfolding number_at with_number listed_in up_to look_up turn_cost rounds_of turn_at link_at passes same_entry
cut_off_true = labels_true cut_off cut_off_good refl refl

pub by_the_last_true : TrueLabels (view_in by_the_last) 0 (as_table by_the_last.turns) (as_table by_the_last.links)
unfolding number_at with_number listed_in up_to look_up turn_cost rounds_of turn_at link_at passes same_entry
by_the_last_true = labels_true by_the_last by_the_last_good refl refl

-- where two outcomes that a contract allows have the same numbers, one with others is not allowed
pub right_alone : {Outcome : Type 0} (Allows : Outcome → Type 0) (numbers : Outcome → List ℕ) → ((one other : Outcome) → Allows one → Allows other → numbers one ≡ numbers other)
    → (right claimed : Outcome) → Allows right → differ (numbers claimed) (numbers right) ≡ true → RightAlone Allows right claimed
right_alone Allows numbers one_outcome right claimed allowed h = (allowed, λ wrong. not_equal (numbers claimed) (numbers right) h (one_outcome claimed right wrong allowed))
