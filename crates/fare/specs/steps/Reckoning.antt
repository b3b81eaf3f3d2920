-- What the parts of a fare ask for, and what an answer is once the walk has been found.
use Rattle.std.specs.Prelude.{ℕ, ◌≤◌, ◌<◌, ◌≡◌, List, map, ◌++◌, true, false, ltb, length, drop, Err}
use Rattle.book.specs.declared.Counts.{Counts}
use Rattle.walk.specs.View.{view_of}
use Rattle.walk.specs.Walks.{all}
use Rattle.fare.specs.declared.Terms.{Terms}
use Rattle.fare.specs.Asked.{FareAnswer, fared}
use Rattle.fare.specs.Fares.{fares_good, fares_of}
use Rattle.fare.specs.Fare.{fare_of}
use Rattle.book.specs.declared.Refusal.TheVariants.{Fares, NoRoom}

-- at most 65,535 links, each of the book
pub record LinksGiven (counts : Counts) (links : List ℕ) : Type 0 where
  pub few : length links ≤ 65535
  pub exist : all (map (λ l. ltb l counts.links) links) ≡ true

-- what is answered of a walk of this cost, and left in the buffer: 15, 17, or the walk and its fare
pub data FoundFare (book : List ℕ) (counts : Counts) (table : List ℕ) (terms : Terms) (cost : ℕ) (walk buffer : List ℕ) (answer : FareAnswer) (after : List ℕ) : Type 0 where
  no_room : length buffer < length walk → answer ≡ Err NoRoom → after ≡ buffer → FoundFare book counts table terms cost walk buffer answer after
  bad_fares : length walk ≤ length buffer → fares_good counts table terms ≡ false → answer ≡ Err Fares → after ≡ buffer → FoundFare book counts table terms cost walk buffer answer after
  done : length walk ≤ length buffer → fares_good counts table terms ≡ true → answer ≡ fared cost (length walk) (fare_of (fares_of (view_of book counts) table terms) walk) → after ≡ walk ++ drop (length walk) buffer → FoundFare book counts table terms cost walk buffer answer after
