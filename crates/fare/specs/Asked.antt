-- Document 02, request 3: asked as Route is, with the fare table beside it; what Route answers, and the fare of Route's own walk.
use Rattle.std.specs.Prelude.{ℕ, ◌≡◌, List, true, false, take, Result, Ok, Err}
use Rattle.book.specs.declared.Counts.{Counts}
use Rattle.book.specs.declared.Refusal.{Refusal}
use Rattle.book.specs.Check.{check_of, number_of, place_of}
use Rattle.walk.specs.View.{view_of}
use Rattle.walk.specs.Labels.{Table}
use Rattle.search.specs.Route.{Routing, routed}
use Rattle.fare.specs.declared.Won.{Won}
use Rattle.fare.specs.declared.Terms.{Terms}
use Rattle.fare.specs.declared.Fared.{Fared}
use Rattle.fare.specs.declared.FareFigures.{FareFigures}
use Rattle.fare.specs.Amounts.{in_won}
use Rattle.fare.specs.Fares.{fares_of, fares_good}
use Rattle.fare.specs.Fare.{fare_of}
use Rattle.book.specs.declared.Refusal.TheVariants.{Fares}

abbrev pub figures : ℕ → ℕ → ℕ → ℕ → Won → FareFigures
figures number place cost links fare = record { number = number; place = place; cost = cost; links = links; fare = fare }

-- cost and number of links of Route's own walk and the fare of it, or why there is none
abbrev pub FareAnswer : Type 0
FareAnswer = Result Fared Refusal

abbrev pub fared : ℕ → ℕ → Won → FareAnswer
fared cost links fare = Ok (record { cost = cost; links = links; fare = fare })

-- number, place, cost, number of links and fare of each case of the answer: what is not given is 0
abbrev pub fare_given_back : FareAnswer → FareFigures
fare_given_back (Ok done) = figures 0 0 done.cost done.links done.fare
fare_given_back (Err found) = figures (number_of found) (place_of found) 0 0 (in_won 0)

-- the answer is this one, and its figures are these
pub record Gives (answer case : FareAnswer) (given : FareFigures) : Type 0 where
  pub answers : answer ≡ case
  pub figured : fare_given_back answer ≡ given

abbrev pub Refuses : FareAnswer → Refusal → Type 0
Refuses answer found = Gives answer (Err found) (figures (number_of found) (place_of found) 0 0 (in_won 0))

-- 1 to 10 and 12 to 15 as Route's; then 17, for a fare table of another length or a value outside its limits; else Route's own figures and links, and the fare of those links
pub data Faring (book : List ℕ) (r s : ℕ) (turns links : Table) (buffer table : List ℕ) (terms : Terms) (answer : FareAnswer) (after : List ℕ) : Type 0 where
  refused : (found : Refusal) → Routing book r s turns links buffer (Err found) buffer
      → Refuses answer found → after ≡ buffer → Faring book r s turns links buffer table terms answer after
  bad_fares : (cost count : ℕ) (written : List ℕ) → Routing book r s turns links buffer (routed cost count) written
      → (counts : Counts) → check_of book ≡ Ok counts → fares_good counts table terms ≡ false
      → Refuses answer Fares → after ≡ buffer → Faring book r s turns links buffer table terms answer after
  done : (cost count : ℕ) → Routing book r s turns links buffer (routed cost count) after
      → (counts : Counts) → check_of book ≡ Ok counts → fares_good counts table terms ≡ true
      → (fare : Won) → fare ≡ fare_of (fares_of (view_of book counts) table terms) (take count after)
      → Gives answer (fared cost count fare) (figures 0 0 cost count fare) → Faring book r s turns links buffer table terms answer after
