-- Cost, then links, is a strict total order that every step respects and increases; so a good view's net has all that the theory asks.
use Prim.Native.Nat.{ℕ, suc, ◌+◌, ◌<◌}
use mathlib.Core.Path.{◌≡◌, refl, sym}
use mathlib.Core.Logic.{inl, inr}
use mathlib.Core.Bool.{Bool, true, false, ◌&&◌, ◌||◌}
use native.Mathlib.Omega.{arith}
use lib.Dec.{ltb, eqb}
use borrow.Author.Tests.{ltb-true, lt-ltb, eqb-true, eq-eqb}
use Rattle.book.proofs.Limits.{both}
use Rattle.walk.specs.View.{View}
use Rattle.walk.specs.Labels.{Key, Less}
use Rattle.walk.specs.Walks.{between, allowed}
use Rattle.walk.specs.steps.Rows.{key_less}
use Rattle.walk.specs.steps.ViewNet.{net, is_open}
use Rattle.walk.proofs.theory.Laws.{Laws, Compared, lt_tri}
use Rattle.walk.proofs.GoodView.{GoodView}
use Rattle.walk.proofs.NetWalks.{holds}
use Rattle.walk.proofs.TrueEntries.{same_key}

pub less_irrefl : (a : Key) → Less a a → ⊥
less_irrefl a (inl h) = omega arith
less_irrefl a (inr h) = omega arith

pub less_trans : (a b c : Key) → Less a b → Less b c → Less a c
less_trans a b c (inl h) (inl g) = inl (omega arith)
less_trans a b c (inl h) (inr g) = inl (omega arith)
less_trans a b c (inr h) (inl g) = inl (omega arith)
less_trans a b c (inr h) (inr g) = inr (omega arith, omega arith)

pub less_tri : (a b : Key) → Compared Less a b
less_tri a b = by (lt_tri a.cost b.cost) (lt_tri a.links b.links)
  where
    by : Compared ◌<◌ a.cost b.cost → Compared ◌<◌ a.links b.links → Compared Less a b
    by (inl h) other = inl (inl h)
    by (inr (inr h)) other = inr (inr (inl h))
    by (inr (inl e)) (inl h) = inl (inr (e, h))
    by (inr (inl e)) (inr (inl h)) = inr (inl (same_key a b e h))
    by (inr (inl e)) (inr (inr h)) = inr (inr (inr (sym e, h)))

-- the test of the order is the order
pub shown_less : (a b : Key) → key_less a b ≡ true → Less a b
shown_less a b h = by (ltb a.cost b.cost) refl h
  where
    by : (test : Bool) → ltb a.cost b.cost ≡ test → (test || eqb a.cost b.cost && ltb a.links b.links) ≡ true → Less a b
    by true e h = inl (ltb-true _ _ e)
    by false e h = inr (eqb-true _ _ (both (eqb a.cost b.cost) (ltb a.links b.links) h).0, ltb-true _ _ (both (eqb a.cost b.cost) (ltb a.links b.links) h).1)

pub less_shown : (a b : Key) → Less a b → key_less a b ≡ true
less_shown a b (inl l) = rw (lt-ltb _ _ l)
less_shown a b (inr l) = rw (eq-eqb _ _ l.0, lt-ltb _ _ l.1) (by (ltb a.cost b.cost))
  where
    by : (test : Bool) → (test || true) ≡ true
    by true = refl
    by false = refl

-- one step more for both keeps their order, and one step more is more
pub less_step : (a b : Key) (step : ℕ) → Less a b → Less (record { cost = a.cost + step; links = suc a.links }) (record { cost = b.cost + step; links = suc b.links })
less_step a b step (inl h) = inl (omega arith)
less_step a b step (inr h) = inr (omega arith, omega arith)

pub less_more : (a : Key) (step : ℕ) → Less a (record { cost = a.cost + step; links = suc a.links })
less_more a step = by (lt_tri step 0)
  where
    by : Compared ◌<◌ step 0 → Less a (record { cost = a.cost + step; links = suc a.links })
    by (inl h) = absurd (omega arith)
    by (inr (inl e)) = inr (omega arith, omega arith)
    by (inr (inr h)) = inl (omega arith)

pub laws : (U : View) → GoodView U → (r : ℕ) → Laws Key (net U r)
laws U good r =
    record {
      irrefl = less_irrefl;
      trans = less_trans;
      tri = less_tri;
      mono = λ p t a b h. less_step a b _ h;
      grows = λ p t a. less_more a _;
      size_empty = refl;
      size_alone = λ l. refl;
      size_begin = λ t. refl;
      size_extend = λ p t a. refl;
      ascend = ascend;
      second_in = good.second;
      joint = λ p t f. eqb-true _ _ (both (eqb (U.second p) (U.first t)) (is_open U t && allowed (between U p t)) (holds _ f)).0;
    }
  where
    ascend : (p t : ℕ) → p < U.turns → t < U.turns → U.second p ≡ U.second t → p < t → U.first p < U.first t
    ascend p t hp ht e h = by (lt_tri (U.first p) (U.first t))
      where
        by : Compared ◌<◌ (U.first p) (U.first t) → U.first p < U.first t
        by (inl l) = l
        by (inr (inl same)) = absurd (omega (arith, good.seconds p t h ht same))
        by (inr (inr l)) = absurd (omega (arith, good.firsts p t h ht))
