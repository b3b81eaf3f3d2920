-- Each entry's test says the rules of document 01 one by one; tests of neighbours say the order of a whole table.
use Prim.Native.Nat.{ℕ, zero, suc, ◌-◌, ◌≤◌, ◌<◌}
use mathlib.Core.Path.{◌≡◌, refl}
use mathlib.Core.List.{List}
use mathlib.Core.Bool.{Bool, true, false, ◌&&◌, ◌||◌}
use mathlib.Core.Logic.{◌⊎◌, inl, inr, ⊎_elim}
use native.Mathlib.Omega.{arith}
use native.Mathlib.Decide.{dec_lt}
use lib.Dec.{ltb, eqb}
use borrow.Author.Tests.{leb-true, ltb-true, eqb-true, eqb-false, ne_eqb, not-true}
use Rattle.book.specs.Entries.{line_headway, most_headway, line_good, link_from, link_to, link_line, link_ride, most_ride, link_good}
use Rattle.book.specs.Entries.{join_first, join_second, join_seconds, most_seconds, barred, seconds_good, ascends, join_good}
use Rattle.book.proofs.Limits.{both}
use Rattle.book.proofs.Passes.{All}

-- one of two tests holds
either_holds : (a b : Bool) → (a || b) ≡ true → (a ≡ true) ⊎ (b ≡ true)
either_holds true b h = inl refl
either_holds false b h = inr h

first_or_both : (a b c : Bool) → (a || b && c) ≡ true → (a ≡ true) ⊎ ((b ≡ true) × (c ≡ true))
first_or_both true b c h = inl refl
first_or_both false b c h = inr (both b c h)

pub headway_limit : (table : List ℕ) (k : ℕ) → line_good table k ≡ true → line_headway table k ≤ most_headway
unfolding line_good
headway_limit table k h = leb-true _ _ h

pub record LinkRules (nodes lines : ℕ) (table : List ℕ) (k : ℕ) : Type 0 where
  pub from : link_from table k < nodes
  pub to : link_to table k < nodes
  pub line : link_line table k < lines
  pub ride : link_ride table k ≤ most_ride
  pub differ : link_from table k ≡ link_to table k → ⊥

pub link_rules : (nodes lines : ℕ) (table : List ℕ) (k : ℕ) → link_good nodes lines table k ≡ true → LinkRules nodes lines table k
unfolding link_good
link_rules nodes lines table k h =
    let (rest, differ) = both _ _ h in
    let (rest, ride) = both _ _ rest in
    let (rest, line) = both _ _ rest in
    let (from, to) = both _ _ rest in
    record {
      from = ltb-true _ _ from;
      to = ltb-true _ _ to;
      line = ltb-true _ _ line;
      ride = leb-true _ _ ride;
      differ = eqb-false _ _ (not-true _ differ);
    }

-- a walk or an extra that does not bar is within its limit
pub seconds_rule : (seconds : ℕ) → seconds_good seconds ≡ true → (seconds ≡ barred → ⊥) → seconds ≤ most_seconds
unfolding seconds_good
seconds_rule seconds h n = ⊎_elim (λ l. leb-true _ _ l) (λ e. absurd (n (eqb-true _ _ e))) (either_holds _ _ h)

pub record JoinRules (count : ℕ) (ends begins : ℕ → ℕ) (table : List ℕ) (k : ℕ) : Type 0 where
  pub first : join_first table k < count
  pub second : join_second table k < count
  pub meet : ends (join_first table k) ≡ begins (join_second table k)
  pub seconds : (join_seconds table k ≡ barred → ⊥) → join_seconds table k ≤ most_seconds
  pub seconds_good_lem : seconds_good (join_seconds table k) ≡ true
  pub order : ascends table k ≡ true

pub join_rules : (count : ℕ) (ends begins : ℕ → ℕ) (table : List ℕ) (k : ℕ) → join_good count ends begins table k ≡ true → JoinRules count ends begins table k
unfolding join_good
join_rules count ends begins table k h =
    let (first, rest) = both _ _ h in
    let (second, rest) = both _ _ rest in
    let (rest, order) = both _ _ rest in
    let (meet, seconds) = both _ _ rest in
    record {
      first = ltb-true _ _ first;
      second = ltb-true _ _ second;
      meet = eqb-true _ _ meet;
      seconds = seconds_rule _ seconds;
      seconds_good_lem = seconds;
      order = order;
    }

-- entry i stands before entry j, by first, then second
pub record Before (table : List ℕ) (i j : ℕ) : Type 0 where
  pub first : join_first table i ≤ join_first table j
  pub second : join_first table i ≡ join_first table j → join_second table i < join_second table j

module _ (table : List ℕ) where
  by_first : (i j : ℕ) → join_first table i < join_first table j → Before table i j
  by_first i j h = record { first = omega arith; second = λ e. absurd (omega arith) }

  by_second : (i j : ℕ) → join_first table i ≡ join_first table j → join_second table i < join_second table j → Before table i j
  by_second i j e h = record { first = omega arith; second = λ _. h }

  by_order : (i j : ℕ) → (ltb (join_first table i) (join_first table j) || eqb (join_first table i) (join_first table j) && ltb (join_second table i) (join_second table j)) ≡ true → Before table i j
  by_order i j h =
      ⊎_elim
      (λ l. by_first i j (ltb-true _ _ l))
      (λ r. by_second i j (eqb-true _ _ r.0) (ltb-true _ _ r.1))
      (first_or_both _ _ _ h)

  neighbours : (i : ℕ) → ascends table (suc i) ≡ true → Before table i (suc i)
  unfolding ascends
  neighbours i h =
      let e : suc i - 1 ≡ i = omega arith in
      by_order i (suc i) (rw (ne_eqb (suc i) 0 (λ z. omega arith), e) at h)

  then : (i j k : ℕ) → Before table i j → Before table j k → Before table i k
  then i j k p q =
      record {
        first = omega (arith, p.first, q.first);
        second = λ e.
            let a : join_first table i ≡ join_first table j = omega (arith, p.first, q.first) in
            let b : join_first table j ≡ join_first table k = omega (arith, p.first, q.first) in
            omega (arith, p.second a, q.second b);
      }

  extend : (i j : ℕ) → Before table j (suc j) → (i < j → Before table i j) → i < suc j → Dec (i < j) → Before table i (suc j)
  extend i j last earlier h (yes l) = then i j (suc j) (earlier l) last
  extend i j last earlier h (no l) =
      let e : i ≡ j = omega arith in
      rw e last

  -- entries ascend strictly by first, then second
  abbrev pub Ascending : ℕ → Type 0
  Ascending joins = (i j : ℕ) → i < j → j < joins → Before table i j

  pub ascending : (joins : ℕ) → All (ascends table) joins → Ascending joins
  ascending joins all i zero h l = absurd (omega arith)
  ascending joins all i (suc j) h l =
      extend i j (neighbours j (all (suc j) l)) (λ m. ascending joins all i j m (omega arith)) h (dec_lt i j)
