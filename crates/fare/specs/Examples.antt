-- Document 02, request 3, and document 000: what rides cost, over the services that they use.
use Rattle.std.specs.Prelude.{ℕ, ◌≡◌, List, [], ◌∷◌, get_or}
use Rattle.fare.specs.declared.Terms.{Terms}
use Rattle.fare.specs.Amounts.{in_metres, in_won}
use Rattle.fare.specs.Fares.{Fares, metres_in, basic_in}
use Rattle.fare.specs.Fare.{fare_of}

abbrev pub beside : ℕ → ℕ → ℕ → Terms
beside distance step premium = record { distance = in_metres distance; step = in_metres step; premium = in_won premium }

-- the services of a network: each link's metres and line, and each line's basic fare
pub record Network : Type 0 where
  pub metres : List ℕ
  pub lines : List ℕ
  pub basics : List ℕ
  pub terms : Terms

abbrev pub fares_in : Network → Fares
fares_in network =
    record {
      metres = metres_in network.metres;
      line = λ l. get_or network.lines l 0;
      basic = basic_in 0 network.basics;
      terms = network.terms;
    }

pub record Ride : Type 0 where
  pub network : Network
  pub links : List ℕ
  pub won : ℕ

abbrev pub bus : ℕ
bus = 0

abbrev pub rail : ℕ
rail = 1

-- the request's own services: bus at 550 and rail at 800, with 10 km, 5 km and 100 won
abbrev pub asked : List ℕ → List ℕ → Network
asked metres lines = record { metres = metres; lines = lines; basics = 550 ∷ 800 ∷ []; terms = beside 10000 5000 100 }

abbrev pub by_bus : ℕ → ℕ → Ride
by_bus metres won = record { network = asked (metres ∷ []) (bus ∷ []); links = 0 ∷ []; won = won }

-- document 000's case study, links by its tables: 1-2, 2-3, 3-4 by bus; 1-3, 3-5, 5-6, 6-7 by the first subway; 4-5, 5-7 by the second; 1-3, 3-5, 5-7 by the third
abbrev pub studied : Network
studied =
    record {
      metres = 1000 ∷ 1000 ∷ 3000 ∷ 5000 ∷ 10000 ∷ 5000 ∷ 7000 ∷ 5000 ∷ 4000 ∷ 7000 ∷ 9000 ∷ 5000 ∷ [];
      lines = 0 ∷ 0 ∷ 0 ∷ 1 ∷ 1 ∷ 1 ∷ 1 ∷ 2 ∷ 2 ∷ 3 ∷ 3 ∷ 3 ∷ [];
      basics = 600 ∷ 800 ∷ 800 ∷ 800 ∷ [];
      terms = beside 12000 6000 100;
    }

abbrev pub listed : List ℕ → ℕ → Ride
listed links won = record { network = studied; links = links; won = won }

abbrev pub rides : List Ride
rides =
    by_bus 15000 650
    ∷ record { network = asked (12000 ∷ 10000 ∷ []) (bus ∷ rail ∷ []); links = 0 ∷ 1 ∷ []; won = 1100 }
    ∷ by_bus 10000 550
    ∷ record { network = asked [] []; links = []; won = 0 }
    ∷ by_bus 10001 650
    ∷ by_bus 15001 750
    -- twelve of the 23 routes from 1 to 7 that document 000 lists, by their numbers there: 1, 4, 5, 8, 9, 13, 16, 17, 19, 20, 21, 23
    ∷ listed (0 ∷ 1 ∷ 4 ∷ 8 ∷ []) 900
    ∷ listed (0 ∷ 1 ∷ 2 ∷ 7 ∷ 8 ∷ []) 900
    ∷ listed (3 ∷ 2 ∷ 7 ∷ 8 ∷ []) 900
    ∷ listed (0 ∷ 1 ∷ 2 ∷ 7 ∷ 11 ∷ []) 900
    ∷ listed (3 ∷ 2 ∷ 7 ∷ 11 ∷ []) 900
    ∷ listed (9 ∷ 2 ∷ 7 ∷ 8 ∷ []) 1000
    ∷ listed (9 ∷ 10 ∷ 11 ∷ []) 1000
    ∷ listed (0 ∷ 1 ∷ 4 ∷ 5 ∷ 6 ∷ []) 1000
    ∷ listed (0 ∷ 1 ∷ 2 ∷ 7 ∷ 5 ∷ 6 ∷ []) 1000
    ∷ listed (3 ∷ 4 ∷ 5 ∷ 6 ∷ []) 1100
    ∷ listed (9 ∷ 4 ∷ 5 ∷ 6 ∷ []) 1100
    ∷ listed (9 ∷ 2 ∷ 7 ∷ 5 ∷ 6 ∷ []) 1100
    ∷ []

abbrev pub Costs : Ride → Type 0
Costs ride = fare_of (fares_in ride.network) ride.links ≡ in_won ride.won
