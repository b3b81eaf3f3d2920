-- What wrong reckonings would charge for a ride, each beside the right fare.
use Rattle.std.specs.Prelude.{◌≡◌, ℕ, List, [], ◌∷◌}
use Rattle.fare.specs.Amounts.{in_won}
use Rattle.fare.specs.Fare.{fare_of}
use Rattle.fare.specs.Examples.{Ride, fares_in, Costs, asked, by_bus, bus, rail}

pub record Wrong : Type 0 where
  pub ride : Ride
  pub claimed : ℕ

abbrev pub claims : Ride → ℕ → Wrong
claims ride claimed = record { ride = ride; claimed = claimed }

abbrev pub over_two : List ℕ → ℕ → Ride
over_two lines won = record { network = asked (6000 ∷ 4000 ∷ []) lines; links = 0 ∷ 1 ∷ []; won = won }

abbrev pub wrongs : List Wrong
wrongs =
    -- whole steps in place of started ones
    claims (by_bus 14999 650) 550
    -- the first line's basic fare in place of the dearest, and the last line's
    ∷ claims (over_two (bus ∷ rail ∷ []) 800) 550
    ∷ claims (over_two (rail ∷ bus ∷ []) 800) 550
    -- a premium at exactly the basic distance, and at exactly a step beyond it
    ∷ claims (by_bus 10000 550) 650
    ∷ claims (by_bus 15000 650) 750
    -- a link ridden twice counted once
    ∷ claims (record { network = asked (6000 ∷ 1000 ∷ []) (bus ∷ bus ∷ []); links = 0 ∷ 1 ∷ 0 ∷ []; won = 650 }) 550
    ∷ []

-- the ride costs what it should, and not what is claimed
abbrev pub Denied : Wrong → Type 0
Denied wrong = Costs wrong.ride × (fare_of (fares_in wrong.ride.network) wrong.ride.links ≡ in_won wrong.claimed → ⊥)
