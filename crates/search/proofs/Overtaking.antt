-- What a turn offers a follower by its step is what the judge compares, and what a back that leads has offered.
use Rattle.std.specs.Prelude.{None, Some, Option}
use Prim.Native.Nat.{ℕ, ◌+◌, ◌≤◌, ◌<◌}
use mathlib.Core.Path.{◌≡◌, refl, ◌∙◌}
use mathlib.Core.Bool.{Bool, true, false, ◌&&◌}
use native.Mathlib.Numerals.{add-one}
use lib.Dec.{leb}
use borrow.Author.Tests.{leb-true, lt-ltb, eq-eqb, ne_eqb}
use Rattle.book.proofs.Limits.{both}
use Rattle.walk.specs.declared.Between.{Between}
use Rattle.walk.specs.View.{View}
use Rattle.walk.specs.Walks.{between, allowed, seconds}
use Rattle.walk.specs.Labels.{Entry, Table, entry_at}
use Rattle.walk.specs.steps.Pairs.{stepped, step_to, seconds_more}
use Rattle.walk.specs.steps.ViewNet.{is_open, may_follow}
use Rattle.search.specs.steps.Tables.{stands_as, goes_ahead}
use Rattle.search.specs.steps.Passing.{onward_to}
use Rattle.search.specs.steps.Judging.{limited, overtaken_by, overtaken, stepped_by, back_leads}
use Rattle.search.proofs.Offers.{step_as}

pub limits : (e : Entry) → limited e ≡ true → (2 ≤ e.links) × (e.links ≤ 4097) × (e.cost ≤ 191728800)
unfolding limited
limits e h =
    let (low, rest) = both (leb 2 e.links) (leb e.links 4097 && leb e.cost 191728800) h in
    let (high, cheap) = both (leb e.links 4097) (leb e.cost 191728800) rest in
    (leb-true _ _ low, leb-true _ _ high, leb-true _ _ cheap)

module _ (U : View) (p t : ℕ) where
  abbrev goes : Bool
  goes = is_open U t && allowed (between U p t)

  abbrev more : ℕ
  more = seconds_more U (seconds (between U p t)) t

  -- where turn t comes after turn p
  pub overtaken_at : (cost links : ℕ) (turns : Table) → U.second p ≡ U.first t → overtaken_by (step_to U (between U p t) t) p cost links (entry_at turns t) ≡ overtaken U p cost links turns t
  unfolding overtaken
  overtaken_at cost links turns meets = rw (step_as U (between U p t) t, eq-eqb _ _ meets) (by goes)
    where
      by : (may : Bool) → overtaken_by (stepped may more) p cost links (entry_at turns t) ≡ (may && goes_ahead (onward_to U p cost links t) (entry_at turns t))
      by true = rw (add-one links)
      by false = refl

  pub stepped_at : (before e : Entry) → e.back ≡ p → U.second p ≡ U.first t → stepped_by (step_to U (between U p t) t) before e ≡ (may_follow U p t && stands_as e (onward_to U p before.cost before.links t))
  stepped_at before e same meets = rw (step_as U (between U p t) t, eq-eqb _ _ meets) (by goes)
    where
      by : (may : Bool) → stepped_by (stepped may more) before e ≡ (may && stands_as e (onward_to U p before.cost before.links t))
      by true = rw (add-one before.links, same)
      by false = refl

  -- where it does not
  pub not_overtaken : (cost links : ℕ) (turns : Table) → (U.second p ≡ U.first t → ⊥) → overtaken U p cost links turns t ≡ false
  unfolding overtaken
  not_overtaken cost links turns apart = rw (ne_eqb _ _ apart)

-- a turn's label is what its back offers exactly where it is what the step from there gives
module _ (U : View) (turns : Table) (t : ℕ) (e before : Entry) (stands : Between) (step : Option ℕ) (within : e.back < U.turns) (same : before ≡ entry_at turns e.back) (small : limited before ≡ true)
    (meets : U.second e.back ≡ U.first t) (stood : stands ≡ between U e.back t) (stepping : step ≡ step_to U stands t) where
  by_step : stepped_by step before e ≡ back_leads U turns t e
  unfolding back_leads
  by_step = rw (lt-ltb _ _ within, stepping, stood, same, rw same at small) (stepped_at U e.back t (entry_at turns e.back) e refl meets)

  pub leads_barred : step ≡ None → false ≡ back_leads U turns t e
  leads_barred barred = rw barred at by_step

  pub leads_stepped : (more : ℕ) {answer : Bool} → step ≡ Some more → answer ≡ stands_as e (record { cost = before.cost + more; links = before.links + 1; back = e.back }) → answer ≡ back_leads U turns t e
  leads_stepped more adds told = told ∙ (rw adds at by_step)
