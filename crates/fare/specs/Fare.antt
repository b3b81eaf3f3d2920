-- Document 02, request 3: the distance fare of a list of links (document 000, equation 6, with its small epsilon an exact rounding up).
use Rattle.std.specs.Prelude.{ℕ, List, [], ◌∷◌}
use Rattle.fare.specs.declared.Won.{Won}
use Rattle.fare.specs.declared.Metres.{Metres}
use Rattle.fare.specs.Amounts.{in_metres, in_won, together, beyond, started_steps, dearer, plus, times}
use Rattle.fare.specs.Fares.{Fares}

-- a link's metres are counted as often as it is ridden
abbrev pub ridden : (ℕ → Metres) → List ℕ → Metres
ridden metres [] = in_metres 0
ridden metres (l ∷ rest) = together (metres l) (ridden metres rest)

-- the dearest basic fare among the links' lines
abbrev pub dearest : (ℕ → Won) → List ℕ → Won
dearest basic [] = in_won 0
dearest basic (l ∷ rest) = dearer (basic l) (dearest basic rest)

-- the premium for each started step beyond the basic distance
abbrev pub premiums : Fares → List ℕ → Won
premiums F links = times (started_steps (beyond (ridden F.metres links) F.terms.distance) F.terms.step) F.terms.premium

-- the empty route costs 0
unfoldable pub fare_of : Fares → List ℕ → Won
fare_of F [] = in_won 0
fare_of F (l ∷ rest) = plus (dearest (λ l. F.basic (F.line l)) (l ∷ rest)) (premiums F (l ∷ rest))
