-- A further link never lowers a fare: it adds metres, and its line joins those whose dearest counts.
use Prim.Native.Nat.{ℕ, ◌≤◌, ◌<◌}
use mathlib.Core.Path.{refl, ap}
use mathlib.Core.List.{List, [], ◌∷◌, ◌++◌}
use native.Mathlib.Omega.{arith}
use native.Mathlib.Nat.{mul-le-mul_right}
use Rattle.fare.specs.declared.Won.{Won}
use Rattle.fare.specs.declared.Metres.{Metres}
use Rattle.fare.specs.Amounts.{beyond}
use Rattle.fare.specs.Fares.{Fares}
use Rattle.fare.specs.Fare.{ridden, dearest, premiums, fare_of}
use Rattle.fare.proofs.Dearer.{dearer_most, dearer_least}
use Rattle.fare.proofs.Steps.{steps_rise}
use Rattle.fare.proofs.FareLaws.{fare_none, fare_some}

ridden_rises : (metres : ℕ → Metres) (links : List ℕ) (l : ℕ) → (ridden metres links).0 ≤ (ridden metres (links ++ (l ∷ []))).0
ridden_rises metres [] l = omega arith
ridden_rises metres (a ∷ rest) l = omega (arith, ridden_rises metres rest l)

dearest_rises : (basic : ℕ → Won) (links : List ℕ) (l : ℕ) → (dearest basic links).0 ≤ (dearest basic (links ++ (l ∷ []))).0
dearest_rises basic [] l = omega arith
dearest_rises basic (a ∷ rest) l =
    let (here, later) = dearer_least (basic a) (dearest basic (rest ++ (l ∷ []))) in
    dearer_most (dearest basic (a ∷ rest ++ (l ∷ []))).0 (basic a) (dearest basic rest) here (omega (arith, dearest_rises basic rest l))

pub never_lowers : (F : Fares) → 0 < F.terms.step.0 → (links : List ℕ) (l : ℕ) → (fare_of F links).0 ≤ (fare_of F (links ++ (l ∷ []))).0
never_lowers F long [] l = omega (arith, ap (λ (x : Won). x.0) (fare_none F [] refl))
never_lowers F long (a ∷ rest) l =
    let links : List ℕ = a ∷ rest in
    let more : List ℕ = a ∷ rest ++ (l ∷ []) in
    let steps = steps_rise (beyond (ridden F.metres links) F.terms.distance) (beyond (ridden F.metres more) F.terms.distance) F.terms.step long (omega (arith, ridden_rises F.metres links l)) in
    let premium : (premiums F links).0 ≤ (premiums F more).0 = mul-le-mul_right F.terms.premium.0 steps in
    omega (
      arith,
      ap (λ (x : Won). x.0) (fare_some F links (omega arith)),
      ap (λ (x : Won). x.0) (fare_some F more (omega arith)),
      dearest_rises (λ l. F.basic (F.line l)) links l,
    )
