-- One test computes every ride's fare, and tells which are the right ones and which are not.
use mathlib.Core.Path.{◌≡◌, refl, ap}
use mathlib.Core.List.{map}
use mathlib.Core.Bool.{Bool, true, not, ◌&&◌}
use lib.Dec.{eqb}
use borrow.Author.Tests.{eqb-true, eqb-false, not-true}
use Rattle.book.specs.FirstBad.{first_bad_from}
use Rattle.book.proofs.Limits.{both}
use Rattle.walk.specs.Walks.{all}
use Rattle.walk.specs.Cases.{All}
use Rattle.walk.proofs.EveryRow.{every_row}
use Rattle.fare.specs.declared.Won.{Won}
use Rattle.fare.specs.Amounts.{started_steps, in_won}
use Rattle.fare.specs.Fare.{fare_of}
use Rattle.fare.specs.Examples.{Ride, fares_in, Costs, rides}
use Rattle.fare.specs.RefusedFares.{Wrong, Denied, wrongs}

abbrev fare : Ride → Won
fare ride = fare_of (fares_in ride.network) ride.links

costs : Ride → Bool
costs ride = eqb (fare ride).0 ride.won

costs_so : (ride : Ride) → costs ride ≡ true → Costs ride
unfolding costs
costs_so ride h = ap in_won (eqb-true (fare ride).0 ride.won h)

denied : Wrong → Bool
denied wrong = costs wrong.ride && not (eqb (fare wrong.ride).0 wrong.claimed)

denied_so : (wrong : Wrong) → denied wrong ≡ true → Denied wrong
unfolding denied
denied_so wrong h =
    let (right, other) = both (costs wrong.ride) (not (eqb (fare wrong.ride).0 wrong.claimed)) h in
    (costs_so wrong.ride right, λ e. eqb-false (fare wrong.ride).0 wrong.claimed (not-true _ other) (ap (λ (won : Won). won.0) e))

all_cost : all (map costs rides) ≡ true
unfolding costs fare_of started_steps first_bad_from
all_cost = refl

all_denied : all (map denied wrongs) ≡ true
unfolding denied costs fare_of started_steps first_bad_from
all_denied = refl

pub rides_cost : All Costs rides
rides_cost = every_row Costs costs costs_so rides all_cost

pub wrongs_denied : All Denied wrongs
wrongs_denied = every_row Denied denied denied_so wrongs all_denied
