-- Settling a turn that was not settled makes one settled turn more, and there are never more than turns.
use Prim.Native.Nat.{ℕ, zero, suc, ◌≤◌, ◌<◌}
use mathlib.Core.Path.{◌≡◌, refl, sym, ap, ◌∙◌}
use mathlib.Core.Logic.{◌⊎◌, inl, inr}
use mathlib.Core.List.{List, [], ◌∷◌, ◌++◌}
use mathlib.Core.Bool.{Bool, true, false, not}
use native.Mathlib.Omega.{arith}
use native.Mathlib.Decide.{ℕ_discrete}
use lib.ListN.{length, get_or, set, replicate, take, drop, length-set}
use lib.Seq.{get_or-set_same, get_or-set_other, length-take-le, take_at}
use Rattle.walk.specs.Counting.{one_unless}
use Rattle.search.specs.steps.Picking.{is_settled}
use Rattle.search.specs.steps.Marks.{settled_count}

at_most_one : (test : Bool) → one_unless test ≤ 1
at_most_one true = omega arith
at_most_one false = omega arith

pub count_within : (marks : List Bool) → settled_count marks ≤ length marks
unfolding settled_count
count_within [] = omega arith
count_within (mark ∷ rest) = omega (arith, count_within rest, at_most_one (not mark))

pub count_more : (marks : List Bool) (t : ℕ) → t < length marks → get_or marks t false ≡ false → settled_count (set marks t true) ≡ suc (settled_count marks)
unfolding settled_count
count_more [] t h e = absurd (omega arith)
count_more (mark ∷ rest) zero h e = rw e (omega arith)
count_more (mark ∷ rest) (suc t) h e = omega (arith, count_more rest t (omega arith) e)

pub count_none : (n : ℕ) → settled_count (replicate {A = Bool} n false) ≡ 0
unfolding settled_count
count_none zero = refl
count_none (suc n) = omega (arith, count_none n)

pub none_settled : (n t : ℕ) → is_settled (replicate {A = Bool} n false) t ≡ false
none_settled zero t = refl
none_settled (suc n) zero = refl
none_settled (suc n) (suc t) = none_settled n t

-- the settled turns are those before and the new one
pub settled_more : (marks : List Bool) (t k : ℕ) → is_settled (set marks t true) k ≡ true → (is_settled marks k ≡ true) ⊎ (k ≡ t)
settled_more marks t k e = by (ℕ_discrete k t)
  where
    by : Dec (k ≡ t) → (is_settled marks k ≡ true) ⊎ (k ≡ t)
    by (yes same) = inr same
    by (no other) = inl (sym (get_or-set_other marks t k true false other) ∙ e)

pub settled_kept : (marks : List Bool) (t k : ℕ) → t < length marks → (is_settled marks k ≡ true) ⊎ (k ≡ t) → is_settled (set marks t true) k ≡ true
settled_kept marks t k h e = by (ℕ_discrete k t) e
  where
    new : k ≡ t → is_settled (set marks t true) k ≡ true
    new same = ap (λ (n : ℕ). is_settled (set marks t true) n) same ∙ get_or-set_same marks t true false h

    by : Dec (k ≡ t) → (is_settled marks k ≡ true) ⊎ (k ≡ t) → is_settled (set marks t true) k ≡ true
    by (yes same) either = new same
    by (no other) (inl was) = get_or-set_other marks t k true false other ∙ was
    by (no other) (inr same) = absurd (other same)

pub front_unmarked : (n m : ℕ) → n ≤ m → take n (replicate {A = Bool} m false) ≡ replicate n false
front_unmarked zero m h = refl
front_unmarked (suc n) zero h = absurd (omega arith)
front_unmarked (suc n) (suc m) h = ap (λ (rest : List Bool). false ∷ rest) (front_unmarked n m (omega arith))

-- a mark set in the front that was lent is set in the front of the whole
pub front_marked : (marks front : List Bool) (n t : ℕ) → n ≤ length marks → front ≡ set (take n marks) t true → take n (front ++ drop n marks) ≡ set (take n marks) t true
front_marked marks front n t h e = take_at front (drop n marks) n (ap length e ∙ length-set (take n marks) t true ∙ length-take-le n marks h) ∙ e
