-- Labels are the same by every field and go by cost, links, back: the tests of this say it, and none goes ahead of itself.
use Prim.Native.Nat.{ℕ, ◌<◌}
use mathlib.Core.Path.{◌≡◌, refl, ap}
use mathlib.Core.Logic.{◌⊎◌, inl, inr}
use mathlib.Core.Bool.{Bool, true, false, ◌&&◌, ◌||◌}
use native.Mathlib.Omega.{arith}
use lib.Dec.{ltb, eqb}
use borrow.Author.Tests.{ltb-true, lt-ltb, le-ltb, eqb-true, eq-eqb}
use Rattle.walk.specs.Labels.{Key, Less, Entry}
use Rattle.walk.proofs.theory.Laws.{clash}
use Rattle.walk.proofs.TrueEntries.{same_key}
use Rattle.walk.proofs.CaseTests.{same_entry_lem}
use Rattle.walk.proofs.KeyLaws.{less_irrefl}
use Rattle.search.specs.steps.Tables.{stands_as, goes_ahead}

-- an entry that stands as a label is equal to it
pub stands_equal : (e label : Entry) → stands_as e label ≡ true → e ≡ label
stands_equal e label h = same_entry_lem e label h

equal_not_less : (a b : ℕ) → a ≡ b → ltb a b ≡ false
equal_not_less a b e = le-ltb a b (omega arith)

abbrev key_of : Entry → Key
key_of e = record { cost = e.cost; links = e.links }

abbrev pub Sooner : Entry → Entry → Type 0
Sooner one other = Less (key_of one) (key_of other) ⊎ ((key_of one ≡ key_of other) × (one.back < other.back))

pub never_sooner : (e : Entry) → Sooner e e → ⊥
never_sooner e (inl h) = less_irrefl (key_of e) h
never_sooner e (inr h) = omega (arith, h.1)

module _ (one other : Entry) where
  pub test_fails : goes_ahead one other ≡ false → Sooner one other → ⊥
  unfolding goes_ahead
  test_fails h (inl (inl l)) = clash (cc (rw (lt-ltb _ _ l) at h))
  test_fails h (inl (inr l)) =
      clash (cc (rw (equal_not_less _ _ l.0, eq-eqb _ _ l.0, lt-ltb _ _ l.1) at h))
  test_fails h (inr l) = alike (ap (λ (key : Key). key.cost) l.0) (ap (λ (key : Key). key.links) l.0)
    where
      alike : one.cost ≡ other.cost → one.links ≡ other.links → ⊥
      alike a b = clash (cc (rw (equal_not_less _ _ a, eq-eqb _ _ a, equal_not_less _ _ b, eq-eqb _ _ b, lt-ltb _ _ l.1) at h))

  pub test_holds : goes_ahead one other ≡ true → Sooner one other
  unfolding goes_ahead
  test_holds h = by (ltb one.cost other.cost) refl (eqb one.cost other.cost) refl (ltb one.links other.links) refl (eqb one.links other.links) refl h
    where
      by : (cheaper : Bool) → ltb one.cost other.cost ≡ cheaper → (alike : Bool) → eqb one.cost other.cost ≡ alike → (fewer : Bool) → ltb one.links other.links ≡ fewer → (same : Bool) → eqb one.links other.links ≡ same → (cheaper || alike && (fewer || same && ltb one.back other.back)) ≡ true → Sooner one other
      by true e alike a fewer f same s h = inl (inl (ltb-true _ _ e))
      by false e false a fewer f same s h = clash (cc)
      by false e true a true f same s h = inl (inr (eqb-true _ _ a, ltb-true _ _ f))
      by false e true a false f false s h = clash (cc)
      by false e true a false f true s h = inr (same_key _ _ (eqb-true _ _ a) (eqb-true _ _ s), ltb-true _ _ h)
