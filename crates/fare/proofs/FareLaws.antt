-- Good fares bound the metres, the basic fare, the premiums and so the fare.
use Prim.Native.Nat.{ℕ, ◌+◌, ◌*◌, ◌≤◌, ◌<◌}
use mathlib.Core.Path.{◌≡◌, refl, ap}
use mathlib.Core.List.{List, [], ◌∷◌, map}
use mathlib.Core.Bool.{true}
use native.Mathlib.Omega.{arith}
use native.Mathlib.Nat.{mul-le-mul}
use lib.Dec.{ltb}
use lib.ListN.{length}
use borrow.Author.Tests.{ltb-true}
use Rattle.book.specs.declared.Counts.{Counts}
use Rattle.std.specs.Prelude.{Ok}
use Rattle.book.specs.Check.{check_of}
use Rattle.book.proofs.Limits.{both}
use Rattle.book.proofs.GoodBook.{good_book}
use Rattle.walk.specs.View.{view_of}
use Rattle.walk.specs.Walks.{all}
use Rattle.fare.specs.declared.Terms.{Terms}
use Rattle.fare.specs.declared.Won.{Won}
use Rattle.fare.specs.declared.Metres.{Metres}
use Rattle.fare.specs.Amounts.{largest_held, beyond, plus, in_won}
use Rattle.fare.specs.Fares.{Fares, most_metres, most_won, fares_of, fares_good}
use Rattle.fare.specs.Fare.{ridden, dearest, premiums, fare_of}
use Rattle.fare.proofs.Dearer.{dearer_most}
use Rattle.fare.proofs.Steps.{steps_most}
use Rattle.fare.proofs.GoodFares.{good_fares}

pub fare_none : (F : Fares) (links : List ℕ) → length links ≡ 0 → fare_of F links ≡ in_won 0
unfolding fare_of
fare_none F [] h = refl
fare_none F (l ∷ rest) h = absurd (omega arith)

pub fare_some : (F : Fares) (links : List ℕ) → 0 < length links → fare_of F links ≡ plus (dearest (λ l. F.basic (F.line l)) links) (premiums F links)
unfolding fare_of
fare_some F [] h = absurd (omega arith)
fare_some F (l ∷ rest) h = refl

-- a law for the links of the book: each within the limits of a good table
pub record Limited (count : ℕ) (F : Fares) : Type 0 where
  pub metres : (l : ℕ) → l < count → (F.metres l).0 ≤ most_metres
  pub basic : (l : ℕ) → l < count → (F.basic (F.line l)).0 ≤ most_won
  pub distance : F.terms.distance.0 ≤ most_metres
  pub step : F.terms.step.0 ≤ most_metres
  pub long : 0 < F.terms.step.0
  pub premium : F.terms.premium.0 ≤ most_won

pub limited_fares : (book : List ℕ) (counts : Counts) (table : List ℕ) (terms : Terms) → check_of book ≡ Ok counts → fares_good counts table terms ≡ true → Limited counts.links (fares_of (view_of book counts) table terms)
limited_fares book counts table terms checked good =
    let fares = good_fares counts table terms good in
    record {
      metres = fares.numbers.metres;
      basic = λ l h. fares.numbers.basic _ ((good_book book counts checked).link l h).line;
      distance = fares.beside.distance;
      step = fares.beside.step;
      long = fares.beside.long;
      premium = fares.beside.premium;
    }

module _ (count : ℕ) (F : Fares) (limited : Limited count F) where
  pub ridden_most : (links : List ℕ) → all (map (λ l. ltb l count) links) ≡ true → (ridden F.metres links).0 ≤ most_metres * length links
  ridden_most [] h = omega arith
  ridden_most (l ∷ rest) h =
      let (here, later) = both (ltb l count) (all (map (λ l. ltb l count) rest)) h in
      omega (arith, limited.metres l (ltb-true l count here), ridden_most rest later)

  pub dearest_most : (links : List ℕ) → all (map (λ l. ltb l count) links) ≡ true → (dearest (λ l. F.basic (F.line l)) links).0 ≤ most_won
  dearest_most [] h = omega arith
  dearest_most (l ∷ rest) h =
      let (here, later) = both (ltb l count) (all (map (λ l. ltb l count) rest)) h in
      dearer_most most_won (F.basic (F.line l)) (dearest (λ l. F.basic (F.line l)) rest) (limited.basic l (ltb-true l count here)) (dearest_most rest later)

  module _ (links : List ℕ) (exist : all (map (λ l. ltb l count) links) ≡ true) where
    abbrev further : Metres
    further = beyond (ridden F.metres links) F.terms.distance

    pub beyond_most : further.0 ≤ most_metres * length links
    beyond_most = omega (arith, ridden_most links exist)

    pub premiums_most : (premiums F links).0 ≤ most_metres * length links * most_won
    premiums_most = mul-le-mul (omega (arith, steps_most further F.terms.step, beyond_most)) limited.premium

    -- no fare exceeds this
    pub fare_most : (fare_of F links).0 ≤ most_won + most_metres * length links * most_won
    fare_most = by links refl
      where
        by : (own : List ℕ) → links ≡ own → (fare_of F links).0 ≤ most_won + most_metres * length links * most_won
        by [] e = omega (arith, ap (λ (x : Won). x.0) (fare_none F links (rw e)))
        by (l ∷ rest) e = omega (arith, ap (λ (x : Won). x.0) (fare_some F links (rw e (omega arith))), dearest_most links exist, premiums_most)

    -- so 64 bits hold the premiums, the sum and the fare of as many links as may be given
    pub premiums_held : length links ≤ 65535 → (premiums F links).0 ≤ largest_held
    premiums_held few = omega (arith, premiums_most)

    pub sum_held : length links ≤ 65535 → (dearest (λ l. F.basic (F.line l)) links).0 + (premiums F links).0 ≤ largest_held
    sum_held few = omega (arith, premiums_most, dearest_most links exist)

    pub fare_held : length links ≤ 65535 → (fare_of F links).0 ≤ largest_held
    fare_held few = omega (arith, fare_most)
