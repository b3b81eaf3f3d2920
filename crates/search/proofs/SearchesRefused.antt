-- The right outcome is the labels of book A, or the refusal that the tests give, and another outcome is none, since the contract allows one only.
use Prim.Native.Nat.{ℕ, zero, suc, ◌<◌}
use mathlib.Core.Path.{◌≡◌, refl, subst}
use mathlib.Core.List.{List, [], ◌∷◌, ◌++◌}
use mathlib.Core.Bool.{true}
use native.Mathlib.Omega.{arith}
use Rattle.std.specs.Prelude.{Ok, Err, Some}
use Rattle.book.specs.Check.{check_of}
use Rattle.book.specs.BookA.{counts_a}
use Rattle.book.proofs.BookA.{book_a_good}
use Rattle.walk.specs.Labels.{Table, Key, Less}
use Rattle.walk.specs.Cases.{All}
use Rattle.walk.specs.RefusedSheets.{diamond, counts_of_diamond}
use Rattle.walk.specs.Labelled.{Labelled, as_table, given}
use Rattle.walk.proofs.KeyLaws.{less_irrefl}
use Rattle.walk.proofs.SheetsRefused.{sheets_refused}
use Rattle.walk.proofs.CaseTests.{differ}
use Rattle.walk.proofs.LabelledTrue.{given_true, right_alone}
use Rattle.search.specs.Tests.{node_test, fits, length_test}
use Rattle.search.specs.Search.{search_given_back, refused, done, Searched}
use Rattle.search.specs.RefusedSearches.{Outcome, Row, leaving, unlabelled, without_the_first, of_book_a, with_turn_too_many, wrong_searches, Allows, Refused, OfAlike, FirstOfAlike}
use Rattle.search.specs.steps.Picking.{key_at}
use Rattle.search.proofs.Determined.{search_determined}
use Rattle.book.specs.declared.Refusal.TheVariants.{LabelLength, NoNode}

-- the book of the tenth sheet
diamond_good : check_of diamond ≡ Ok counts_of_diamond
diamond_good = sheets_refused.1.1.1.1.1.1.1.1.1.0.0

book_a_right : (claimed : Outcome) → Allows (of_book_a claimed) (leaving (Ok tt) given)
unfolding node_test fits length_test
book_a_right claimed = done counts_a (rw (book_a_good) refl) refl given_true

turn_too_many_right : (claimed : Outcome) → Allows (with_turn_too_many claimed) (with_turn_too_many claimed).right
unfolding node_test fits length_test
turn_too_many_right claimed = refused LabelLength (rw (diamond_good) refl) refl refl refl

-- the numbers that a search answers and leaves
abbrev numbers_of : Searched → Table → Table → List ℕ
numbers_of answer turns links =
    (search_given_back answer).number ∷ (search_given_back answer).place ∷ (turns.cost ++ (turns.links ++ (turns.back ++ (links.cost ++ (links.links ++ links.back)))))

abbrev numbers_in : Outcome → List ℕ
numbers_in outcome = numbers_of outcome.answer (as_table outcome.turns) (as_table outcome.links)

one_outcome : (row : Row) (one other : Outcome) → Allows row one → Allows row other → numbers_in one ≡ numbers_in other
one_outcome row one other a b =
    let (answer, (turns, links)) = search_determined _ _ _ _ _ _ _ _ _ _ a b in
    λ i. numbers_of (answer i) (turns i) (links i)

row_refused : (row : Row) → Allows row row.right → differ (numbers_in row.claimed) (numbers_in row.right) ≡ true → Refused row
row_refused row = right_alone (Allows row) numbers_in (one_outcome row) row.right row.claimed

book_a_refused : (claimed : Outcome) → differ (numbers_in claimed) (numbers_in (leaving (Ok tt) given)) ≡ true → Refused (of_book_a claimed)
book_a_refused claimed = row_refused (of_book_a claimed) (book_a_right claimed)

turn_too_many_refused : (claimed : Outcome) → differ (numbers_in claimed) (numbers_in (with_turn_too_many claimed).right) ≡ true → Refused (with_turn_too_many claimed)
turn_too_many_refused claimed = row_refused (with_turn_too_many claimed) (turn_too_many_right claimed)

-- none of the wrong outcomes is allowed, and the right one is
pub searches_refused : (anything : Labelled) → All Refused (wrong_searches anything)
searches_refused anything =
    let refused-always = book_a_refused (leaving (Err NoNode) unlabelled) refl in
    let said-only = book_a_refused (leaving (Ok tt) unlabelled) refl in
    let first-passed-over = book_a_refused (leaving (Ok tt) without_the_first) refl in
    let measured-by-links = turn_too_many_refused (leaving (Ok tt) anything) refl in
    (refused-always, (said-only, (first-passed-over, (measured-by-links, tt))))

-- two turns alike have one key, and no key is less than itself
same_key : (v : ℕ) → v < 2 → key_at (90 ∷ 90 ∷ []) (2 ∷ 2 ∷ []) v ≡ record { cost = 90; links = 2 }
same_key zero h = refl
same_key (suc zero) h = refl
same_key (suc (suc v)) h = absurd (omega arith)

pub first_of_alike : FirstOfAlike
first_of_alike = (first, λ later. less_irrefl _ (later.first 0 (omega arith) refl))
  where
    first : OfAlike (Some (record { 0 = 0 }))
    first =
        record {
          within = omega arith;
          candidate = refl;
          least = λ v h c less. less_irrefl _ (subst (λ (k : Key). Less k (record { cost = 90; links = 2 })) (same_key v h) less);
          first = λ v h c. absurd (omega arith);
        }
