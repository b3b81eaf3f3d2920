-- The right outcome is computed from book A's bytes, and an outcome with other numbers is none, since the contract allows one only.
use Prim.Native.Nat.{ℕ}
use mathlib.Core.Path.{◌≡◌, refl}
use mathlib.Core.List.{List, [], ◌∷◌, ◌++◌}
use mathlib.Core.Bool.{true}
use Rattle.book.specs.Number.{with_number}
use Rattle.book.specs.Entries.{seconds_good}
use Rattle.book.specs.BookA.{counts_a}
use Rattle.book.proofs.BookA.{book_a_good}
use Rattle.walk.specs.Labels.{Table}
use Rattle.walk.specs.Counting.{same_entry, differing}
use Rattle.walk.specs.Cases.{All}
use Rattle.walk.specs.Labelled.{as_table, given, shut}
use Rattle.walk.proofs.CaseTests.{differ}
use Rattle.walk.proofs.LabelledTrue.{shut_good, given_true, shut_true, right_alone}
use Rattle.search.specs.Tests.{node_test, fits, length_test}
use Rattle.edit.specs.Edit.{turn_test, edit_given_back, done, altered, EditAnswer}
use Rattle.edit.specs.RefusedEdits.{Outcome, Row, wiped, leaving, closing, reopening, wrong_edits, Allows, Refused}
use Rattle.edit.proofs.Determined.{edit_determined}

-- the right outcomes
closing_right : (claimed : Outcome) → Allows (closing claimed) (leaving 2 1 shut)
unfolding node_test turn_test fits length_test seconds_good differing same_entry
closing_right claimed = done counts_a (rw (book_a_good) refl) given_true refl shut_true refl

reopening_right : (claimed : Outcome) → Allows (reopening claimed) (leaving 2 1 given)
unfolding node_test turn_test fits length_test seconds_good with_number differing same_entry
reopening_right claimed = done counts_a (rw (shut_good) refl) shut_true refl given_true refl

-- the numbers that an edit leaves and answers, its counts last
abbrev numbers_of : EditAnswer → List ℕ → Table → Table → List ℕ
numbers_of answer book turns links =
    book ++ (turns.cost ++ (turns.links ++ (turns.back ++ (links.cost ++ (links.links ++ (links.back ++ ((edit_given_back answer).turns ∷ (edit_given_back answer).links ∷ [])))))))

abbrev numbers_in : Outcome → List ℕ
numbers_in outcome = numbers_of (altered outcome.altered_turns outcome.altered_links) outcome.after.book (as_table outcome.after.turns) (as_table outcome.after.links)

one_outcome : (row : Row) (one other : Outcome) → Allows row one → Allows row other → numbers_in one ≡ numbers_in other
one_outcome row one other a b =
    let (answer, book, turns, links) = edit_determined _ _ _ _ _ _ _ _ _ _ _ _ _ _ a b in
    λ i. numbers_of (answer i) (book i) (turns i) (links i)

row_refused : (row : Row) → Allows row row.right → differ (numbers_in row.claimed) (numbers_in row.right) ≡ true → Refused row
row_refused row = right_alone (Allows row) numbers_in (one_outcome row) row.right row.claimed

closing_refused : (claimed : Outcome) → differ (numbers_in claimed) (numbers_in (leaving 2 1 shut)) ≡ true → Refused (closing claimed)
closing_refused claimed = row_refused (closing claimed) (closing_right claimed)

reopening_refused : (claimed : Outcome) → differ (numbers_in claimed) (numbers_in (leaving 2 1 given)) ≡ true → Refused (reopening claimed)
reopening_refused claimed = row_refused (reopening claimed) (reopening_right claimed)

-- none of the wrong outcomes is allowed, and the right one is
pub edits_refused : (any-turns any-links : ℕ) → All Refused (wrong_edits any-turns any-links)
unfolding with_number
edits_refused any-turns any-links =
    let nothing-done = closing_refused (leaving any-turns any-links given) refl in
    let once-only = reopening_refused (leaving any-turns any-links shut) refl in
    let counts-invented = closing_refused (leaving 5 5 shut) refl in
    let nothing-counted = closing_refused (leaving 0 0 shut) refl in
    let own-entry-only = closing_refused (leaving any-turns any-links wiped) refl in
    (nothing-done, (once-only, (counts-invented, (nothing-counted, (own-entry-only, tt)))))
