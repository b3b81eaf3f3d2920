-- Halving keeps every entry before `low` below the number and every entry from `high` on at it or above; where the two meet is the run's start.
use Prim.Native.Nat.{ℕ, ◌+◌, ◌≤◌, ◌<◌}
use mathlib.Core.Path.{◌≡◌, ap}
use mathlib.Core.List.{List}
use mathlib.Core.Bool.{Bool, true, false}
use native.Mathlib.Omega.{arith}
use native.Mathlib.Decide.{dec_lt}
use lib.Dec.{ltb}
use borrow.Author.Tests.{lt-ltb, le-ltb}
use Rattle.book.specs.Entries.{join_first, ascends}
use Rattle.book.specs.FirstBad.{first_bad}
use Rattle.book.specs.Runs.{run_from}
use Rattle.book.proofs.FirstBad.{First, first_bad_lem}
use Rattle.book.proofs.Passes.{All}
use Rattle.book.proofs.Rules.{ascending}

-- the first bad entry is one
first_unique : (good : ℕ → Bool) (start end j k : ℕ) → First good start end j → First good start end k → j ≡ k
first_unique good start end j k a b = by (dec_lt j k) (dec_lt k j)
  where
    clash : (i : ℕ) → good i ≡ true → good i ≡ false → ⊥
    clash i t f =
        let z : ◌≡◌ {A = ℕ} 0 1 = cc in
        omega arith

    by : Dec (j < k) → Dec (k < j) → j ≡ k
    by (yes h) d = absurd (clash j (b.before j a.from h) (a.at (omega (arith, b.within))))
    by (no n) (yes h) = absurd (clash k (a.before k b.from h) (b.at (omega (arith, a.within))))
    by (no n) (no m) = omega arith

pub record Halved (table : List ℕ) (joins n low high : ℕ) : Type 0 where
  pub order : low ≤ high
  pub within : high ≤ joins
  pub below : (k : ℕ) → k < low → join_first table k < n
  pub above : (k : ℕ) → high ≤ k → k < joins → n ≤ join_first table k

module _ (table : List ℕ) (joins n : ℕ) where
  pub whole : Halved table joins n 0 joins
  whole =
      record {
        order = omega arith;
        within = omega arith;
        below = λ k h. absurd (omega arith);
        above = λ k h l. absurd (omega arith);
      }

  module _ (sorted : All (ascends table) joins) (low high middle : ℕ) (h : Halved table joins n low high) (l : low ≤ middle) (m : middle < high) where
    -- entries up to one are no greater by first number
    up_to : (i j : ℕ) → i ≤ j → j < joins → join_first table i ≤ join_first table j
    up_to i j a b = by (dec_lt i j)
      where
        by : Dec (i < j) → join_first table i ≤ join_first table j
        by (yes c) = (ascending table joins sorted i j c b).first
        by (no c) =
            let e : i ≡ j = omega arith in
            omega (arith, ap (join_first table) e)

    pub upper : join_first table middle < n → Halved table joins n (middle + 1) high
    upper f =
        record {
          order = omega arith;
          within = h.within;
          below = λ k a. omega (arith, up_to k middle (omega arith) (omega (arith, h.within)));
          above = h.above;
        }

    pub lower : n ≤ join_first table middle → Halved table joins n low middle
    lower f =
        record {
          order = l;
          within = omega (arith, h.within);
          below = h.below;
          above = λ k a b. omega (arith, up_to middle k a b);
        }

  pub met : (low high : ℕ) → Halved table joins n low high → high ≤ low → low ≡ run_from table joins n
  unfolding run_from
  met low high h e =
      first_unique (λ k. ltb (join_first table k) n) 0 joins low (first_bad (λ k. ltb (join_first table k) n) joins)
      (record {
        from = omega arith;
        within = omega (arith, h.order, h.within);
        before = λ k a b. lt-ltb _ _ (h.below k b);
        at = λ a. le-ltb _ _ (h.above low e a);
      })
      (first_bad_lem (λ k. ltb (join_first table k) n) joins)
