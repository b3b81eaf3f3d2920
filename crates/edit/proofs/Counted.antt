-- The entries that differ are counted one by one, at most one an entry, from the front or from the back.
use Prim.Native.Nat.{ℕ, zero, suc, ◌+◌, ◌≤◌, ◌<◌}
use mathlib.Core.Path.{◌≡◌, refl, sym, ap, ◌∙◌}
use mathlib.Core.List.{List, [], ◌∷◌}
use mathlib.Core.Bool.{Bool, true, false, not, cond}
use native.Mathlib.Numerals.{add-one}
use native.Mathlib.Omega.{arith}
use lib.ListN.{length}
use Rattle.std.specs.List.{filter, enumerate_from}
use Rattle.walk.specs.Labels.{Entry, Table, entry_at}
use Rattle.walk.specs.Counting.{same_entry, one_unless, differing}
use Rattle.search.specs.declared.Label.{Label}
use Rattle.search.specs.steps.Tables.{as_entry}
use Rattle.edit.specs.steps.KeptLabels.{kept_at}

pub at_most_one : (same : Bool) → one_unless same ≤ 1
at_most_one true = omega arith
at_most_one false = omega arith

module _ (before after : ℕ → Entry) where
  pub none_counted : 0 ≡ differing before after 0
  unfolding differing
  none_counted = refl

  pub one_counted : (n : ℕ) {count more : ℕ} → count ≡ differing before after n → more ≡ one_unless (same_entry (before n) (after n)) → count + more ≡ differing before after (n + 1)
  unfolding differing
  one_counted n e f = rw (e, f, add-one n)

-- the first entry, and those after it
differing_first : (before after : ℕ → Entry) (n : ℕ) → differing before after (suc n) ≡ one_unless (same_entry (before 0) (after 0)) + differing (λ k. before (suc k)) (λ k. after (suc k)) n
unfolding differing
differing_first before after zero = omega arith
differing_first before after (suc n) = omega (arith, differing_first before after n)

one_passed : (same : Bool) (entry : ℕ × Label) (later : List (ℕ × Label)) → length (cond (not same) (entry ∷ later) later) ≡ one_unless same + length later
one_passed true entry later = omega arith
one_passed false entry later = omega arith

-- a pass over the kept labels, beside a table from this entry on, lets through as many as differ
passed_from : (table : Table) (n : ℕ) (kept : List Label) (beside : ℕ → Entry) → ((k : ℕ) → entry_at table (n + k) ≡ beside k)
    → length (filter (λ p. not (same_entry (as_entry p.1) (entry_at table p.0))) (enumerate_from n kept)) ≡ differing (kept_at kept) beside (length kept)
unfolding differing
passed_from table n [] beside at = refl
passed_from table n (label ∷ rest) beside at =
    let first : entry_at table n ≡ beside 0 = ap (λ (k : ℕ). entry_at table k) (omega arith) ∙ at 0 in
    let later = passed_from table (n + 1) rest (λ k. beside (suc k)) (λ k. ap (λ (k : ℕ). entry_at table k) (omega arith) ∙ at (suc k)) in
    one_passed (same_entry (as_entry label) (entry_at table n)) (n, label) _ ∙ rw (first, later) (sym (differing_first (kept_at (label ∷ rest)) beside (length rest)))

-- and so beside the whole table
pub all_passed : (table : Table) (kept : List Label) → length (filter (λ p. not (same_entry (as_entry p.1) (entry_at table p.0))) (enumerate_from 0 kept)) ≡ differing (kept_at kept) (entry_at table) (length kept)
all_passed table kept = passed_from table 0 kept (entry_at table) (λ k. ap (λ (n : ℕ). entry_at table n) (omega arith))

-- only the entries counted matter
pub same_counted : (one other after : ℕ → Entry) (count : ℕ) → ((k : ℕ) → k < count → one k ≡ other k) → differing one after count ≡ differing other after count
unfolding differing
same_counted one other after zero same = refl
same_counted one other after (suc n) same = rw (same_counted one other after n (λ k l. same k (omega arith)), same n (omega arith))
