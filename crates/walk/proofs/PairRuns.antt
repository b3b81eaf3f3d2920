-- A pair is looked up among the pairs of its first turn alone, and there at the first one whose second turn is not before.
use Prim.Native.Nat.{ℕ, zero, suc, ◌+◌, ◌-◌, ◌≤◌, ◌<◌}
use mathlib.Core.Path.{◌≡◌, refl, sym, ◌∙◌}
use mathlib.Core.List.{List}
use mathlib.Core.Bool.{Bool, true, false, ◌&&◌}
use mathlib.Core.Option.{none, some}
use native.Mathlib.Omega.{arith}
use native.Mathlib.Decide.{dec_lt}
use lib.Dec.{ltb, eqb}
use borrow.Author.Tests.{ltb-true, ltb-false, lt-ltb, le-ltb, eq-eqb, eqb-true, eqb-false}
use Rattle.book.specs.Entries.{join_first, join_second, join_seconds}
use Rattle.book.specs.Runs.{run_from}
use Rattle.book.specs.FirstBad.{first_bad_from}
use Rattle.book.proofs.FirstBad.{First, first_from}
use Rattle.book.proofs.Limits.{both}
use Rattle.book.proofs.Rules.{Ascending}
use Rattle.walk.specs.View.{found_or, listed_in}
use Rattle.walk.specs.steps.Pairs.{pair_from, listed_at}
use Rattle.walk.proofs.Runs.{run_within, run_order, in_run, run_of}

module _ (table : List ℕ) (p t : ℕ) where
  -- pair k is of turns p and t
  abbrev Pairs : ℕ → Type 0
  Pairs k = (join_first table k ≡ p) × (join_second table k ≡ t)

  abbrev test : ℕ → Bool
  test k = eqb (join_first table k) p && eqb (join_second table k) t

  passed_by : (k : ℕ) → (Pairs k → ⊥) → test k ≡ false
  passed_by k h = by (test k) refl
    where
      by : (b : Bool) → test k ≡ b → test k ≡ false
      by true e =
          let (f, s) = both _ _ e in
          absurd (h (eqb-true _ _ f, eqb-true _ _ s))
      by false e = e

  none_listed : (pairs : ℕ) → ((k : ℕ) → k < pairs → Pairs k → ⊥) → listed_in table pairs p t ≡ none
  unfolding listed_in
  none_listed zero h = refl
  none_listed (suc k) h = rw (passed_by k (h k (omega arith))) (none_listed k (λ j l. h j (omega arith)))

  one_listed : (pairs k : ℕ) → k < pairs → Pairs k → ((j : ℕ) → k < j → j < pairs → Pairs j → ⊥) → listed_in table pairs p t ≡ some (join_seconds table k)
  unfolding listed_in
  one_listed zero k h e last = absurd (omega arith)
  one_listed (suc n) k h e last = by (one_listed n k) (dec_lt k n)
    where
      by :
          (k < n → Pairs k → ((j : ℕ) → k < j → j < n → Pairs j → ⊥) → listed_in table n p t ≡ some (join_seconds table k)) →
          Dec (k < n) →
          found_or (test n) (join_seconds table n) (listed_in table n p t) ≡ some (join_seconds table k)
      by earlier (yes l) = rw (passed_by n (last n l (omega arith))) (earlier l e (λ j a b. last j a (omega arith)))
      by earlier (no l) =
          let same : n ≡ k = omega arith in
          rw (same, eq-eqb _ _ e.0, eq-eqb _ _ e.1)

module _ (table : List ℕ) (pairs : ℕ) (sorted : Ascending table pairs) (p t : ℕ) where
  abbrev start : ℕ
  start = run_from table pairs p

  abbrev end : ℕ
  end = run_from table pairs (p + 1)

  module _ (at : ℕ) (from : start ≤ at) (to : at ≤ end) (earlier : (k : ℕ) → start ≤ k → k < at → join_second table k < t) (later : at < end → t ≤ join_second table at) where
    -- a pair of these turns stands at `at`
    there : (k : ℕ) → k < pairs → Pairs table p t k → (at < end) × (k ≡ at)
    there k h e = by (dec_lt k at) (dec_lt at k)
      where
        placed : (start ≤ k) × (k < end)
        placed = run_of table pairs sorted k h p e.0

        by : Dec (k < at) → Dec (at < k) → (at < end) × (k ≡ at)
        by (yes l) d = absurd (omega (arith, earlier k placed.0 l, e.1))
        by (no n) (yes l) =
            let inside : at < end = omega (arith, placed.1) in
            let first : join_first table at ≡ p = in_run table pairs sorted at (omega arith) p from inside in
            absurd (omega (arith, later inside, e.1, (sorted at k l h).second (first ∙ sym e.0)))
        by (no n) (no m) = (omega (arith, placed.1), omega arith)

    pub listed_run : listed_at table at end t ≡ listed_in table pairs p t
    unfolding listed_at
    listed_run = by (dec_lt at end) (eqb (join_second table at) t) refl
      where
        by : Dec (at < end) → (same : Bool) → eqb (join_second table at) t ≡ same → found_or (ltb at end && eqb (join_second table at) t) (join_seconds table at) none ≡ listed_in table pairs p t
        by (yes h) true e =
            let inside : at < pairs = omega (arith, run_within table pairs (p + 1)) in
            rw (lt-ltb _ _ h, e) (sym (one_listed table p t pairs at inside (in_run table pairs sorted at inside p from h, eqb-true _ _ e) (λ j l w q. let same = (there j w q).1 in omega arith)))
        by (yes h) false e = rw (lt-ltb _ _ h, e) (sym (none_listed table p t pairs (λ k w q. let same = (there k w q).1 in eqb-false _ _ e (rw same at q.1))))
        by (no n) d e = rw (le-ltb at end (omega arith)) (sym (none_listed table p t pairs (λ k w q. let inside = (there k w q).0 in omega arith)))

  abbrev earlier_second : ℕ → Bool
  earlier_second k = ltb (join_second table k) t

  -- so a scan of the run for the second turn finds what the table lists
  pub listed_from : listed_at table (pair_from table start end t) end t ≡ listed_in table pairs p t
  unfolding pair_from
  listed_from =
      listed_run
      (first_bad_from earlier_second start (end - start))
      found.from
      (omega (arith, found.within, whole))
      (λ k a b. ltb-true _ _ (found.before k a b))
      (λ h. ltb-false _ _ (found.at (omega (arith, whole))))
    where
      found : First earlier_second start (start + (end - start)) (first_bad_from earlier_second start (end - start))
      found = first_from earlier_second start (end - start)

      whole : start + (end - start) ≡ end
      whole = omega (arith, run_order table pairs p)
