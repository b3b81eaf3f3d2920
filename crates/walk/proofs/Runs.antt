-- In a table that ascends, the entries of one first number are those from its run's start up to the next number's.
use Prim.Native.Nat.{ℕ, ◌+◌, ◌≤◌, ◌<◌}
use mathlib.Core.Path.{◌≡◌}
use mathlib.Core.List.{List}
use native.Mathlib.Omega.{arith}
use native.Mathlib.Decide.{dec_lt}
use lib.Dec.{ltb}
use borrow.Author.Tests.{ltb-true, ltb-false}
use Rattle.book.specs.Entries.{join_first}
use Rattle.book.specs.Runs.{run_from}
use Rattle.book.proofs.FirstBad.{First, first_bad_lem}
use Rattle.book.proofs.Rules.{Ascending}

module _ (table : List ℕ) (joins n : ℕ) where
  run : First (λ k. ltb (join_first table k) n) 0 joins (run_from table joins n)
  unfolding run_from
  run = first_bad_lem (λ k. ltb (join_first table k) n) joins

  pub run_within : run_from table joins n ≤ joins
  run_within = run.within

  before_run : (k : ℕ) → k < run_from table joins n → join_first table k < n
  before_run k h = ltb-true _ _ (run.before k (omega arith) h)

  at_run : run_from table joins n < joins → n ≤ join_first table (run_from table joins n)
  at_run h = ltb-false _ _ (run.at h)

-- a run ends no earlier than it starts
pub run_order : (table : List ℕ) (joins n : ℕ) → run_from table joins n ≤ run_from table joins (n + 1)
run_order table joins n = by (dec_lt (run_from table joins (n + 1)) (run_from table joins n))
  where
    by : Dec (run_from table joins (n + 1) < run_from table joins n) → run_from table joins n ≤ run_from table joins (n + 1)
    by (yes h) =
        let w : run_from table joins (n + 1) < joins = omega (arith, run_within table joins n) in
        absurd (omega (arith, before_run table joins n (run_from table joins (n + 1)) h, at_run table joins (n + 1) w))
    by (no h) = omega arith

-- the same of numbers that a run was found to start and end at
module _ (table : List ℕ) (joins n : ℕ) where
  pub ends_within : {end : ℕ} → end ≡ run_from table joins n → end ≤ joins
  ends_within e = omega (arith, run_within table joins n)

  pub ends_after : {start end : ℕ} → start ≡ run_from table joins n → end ≡ run_from table joins (n + 1) → start ≤ end
  ends_after s e = omega (arith, run_order table joins n)

module _ (table : List ℕ) (joins : ℕ) (sorted : Ascending table joins) (k : ℕ) (within : k < joins) where
  from_run : (n : ℕ) → run_from table joins n ≤ k → n ≤ join_first table k
  from_run n h = by (dec_lt (run_from table joins n) k)
    where
      by : Dec (run_from table joins n < k) → n ≤ join_first table k
      by (yes l) =
          let w : run_from table joins n < joins = omega arith in
          omega (arith, at_run table joins n w, (sorted (run_from table joins n) k l within).first)
      by (no l) =
          let e : run_from table joins n ≡ k = omega arith in
          rw e at (at_run table joins n (omega arith))

  pub in_run : (n : ℕ) → run_from table joins n ≤ k → k < run_from table joins (n + 1) → join_first table k ≡ n
  in_run n h l = omega (arith, from_run n h, before_run table joins (n + 1) k l)

  pub run_of : (n : ℕ) → join_first table k ≡ n → (run_from table joins n ≤ k) × (k < run_from table joins (n + 1))
  run_of n e = (starts (dec_lt k (run_from table joins n)), ends (dec_lt k (run_from table joins (n + 1))))
    where
      starts : Dec (k < run_from table joins n) → run_from table joins n ≤ k
      starts (yes h) = absurd (omega (arith, before_run table joins n k h))
      starts (no h) = omega arith

      ends : Dec (k < run_from table joins (n + 1)) → k < run_from table joins (n + 1)
      ends (yes h) = h
      ends (no h) = absurd (omega (arith, from_run (n + 1) (omega arith)))
