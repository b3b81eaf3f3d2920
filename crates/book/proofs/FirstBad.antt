-- The first bad entry is bad, and every entry before it is good; so a table has none exactly when all of its entries are good.
use Prim.Native.Nat.{ℕ, zero, suc, ◌+◌, ◌-◌, ◌≤◌, ◌<◌}
use mathlib.Core.Path.{◌≡◌, refl}
use mathlib.Core.Bool.{Bool, true, false}
use native.Mathlib.Omega.{arith}
use native.Mathlib.Decide.{dec_lt}
use Rattle.std.specs.Prelude.{Option, Some, None, MatchOption, unwrap_or}
use Rattle.book.specs.FirstBad.{either, first_bad_from, first_bad}

-- k is the first of the entries from `start` up to `end` that fails the test, or `end`
pub record First (good : ℕ → Bool) (start end k : ℕ) : Type 0 where
  pub from : start ≤ k
  pub within : k ≤ end
  pub before : (j : ℕ) → start ≤ j → j < k → good j ≡ true
  pub at : k < end → good k ≡ false

module _ (good : ℕ → Bool) where
  here : (k left : ℕ) → good k ≡ false → First good k (k + suc left) k
  here k left g =
      record {
        from = omega arith;
        within = omega arith;
        before = λ j a b. absurd (omega arith);
        at = λ h. g;
      }

  later : (k left n : ℕ) → good k ≡ true → First good (suc k) (suc k + left) n → First good k (k + suc left) n
  later k left n g f =
      record {
        from = omega (arith, f.from);
        within = omega (arith, f.within);
        before = λ j a b. step j a b (dec_lt k j);
        at = λ h. f.at (omega arith);
      }
    where
      step : (j : ℕ) → k ≤ j → j < n → Dec (k < j) → good j ≡ true
      step j a b (yes c) = f.before j c b
      step j a b (no c) =
          let e : j ≡ k = omega arith in
          rw (e, g)

  by_test : (k left n : ℕ) (t : Bool) → good k ≡ t → First good (suc k) (suc k + left) n → First good k (k + suc left) (either t n k)
  by_test k left n true g f = later k left n g f
  by_test k left n false g f = here k left g

  pub first_from : (k left : ℕ) → First good k (k + left) (first_bad_from good k left)
  unfolding first_bad_from
  first_from k zero =
      record {
        from = omega arith;
        within = omega arith;
        before = λ j a b. absurd (omega arith);
        at = λ h. absurd (omega arith);
      }
  first_from k (suc left) = by_test k left (first_bad_from good (suc k) left) (good k) refl (first_from (suc k) left)

  pub first_bad_lem : (count : ℕ) → First good 0 count (first_bad good count)
  first_bad_lem count =
      let e : 0 + count ≡ count = omega arith in
      rw e at (first_from 0 count)

module _ (good : ℕ → Bool) (start end : ℕ) where
  -- no two entries are the first
  same_first : {k j : ℕ} → First good start end k → First good start end j → k ≤ j
  same_first {k} {j} f g = by (dec_lt j k)
    where
      by : Dec (j < k) → k ≤ j
      by (yes l) =
          let passes : good j ≡ true = f.before j g.from l in
          let fails : good j ≡ false = g.at (omega (arith, f.within)) in
          cc
      by (no n) = omega arith

  module _ (h : start ≤ end) where
    scanned : {k : ℕ} → First good start end k → k ≡ first_bad_from good start (end - start)
    scanned {k} f =
        let e : start + (end - start) ≡ end = omega arith in
        let g : First good start end (first_bad_from good start (end - start)) = rw e at (first_from good start (end - start)) in
        omega (arith, same_first f g, same_first g f)

    -- what is found among the entries, or else `end`, is the first bad one
    pub found_first : (found : Option ℕ) → MatchOption found ((k : ℕ) → start ≤ k → k < end → good k ≡ true) (λ i. (start ≤ i) × (i < end) × (good i ≡ false) × ((k : ℕ) → start ≤ k → k < i → good k ≡ true)) → unwrap_or found end ≡ first_bad_from good start (end - start)
    found_first None all = scanned (record { from = h; within = omega arith; before = all; at = λ l. absurd (omega arith) })
    found_first (Some i) first = scanned (record { from = first.0; within = omega (arith, first.1); before = first.3; at = λ l. first.2 })
