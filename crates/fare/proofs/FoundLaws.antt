-- What was found with room of one's own is what Route answers with the lent buffer, and the fare is that of the links found.
use Prim.Native.Nat.{ℕ}
use mathlib.Core.Path.{◌≡◌, refl, ap, ◌∙◌}
use mathlib.Core.List.{List, ◌++◌}
use native.Mathlib.Omega.{arith}
use lib.ListN.{take, drop}
use lib.Seq.{take_at}
use Rattle.book.specs.declared.Counts.{Counts}
use Rattle.book.specs.declared.Refusal.{Refusal}
use Rattle.std.specs.Prelude.{Ok, Err}
use Rattle.book.specs.Check.{check_of}
use Rattle.walk.specs.View.{view_of}
use Rattle.walk.specs.Labels.{Table}
use Rattle.search.specs.Route.{Routing}
use Rattle.search.proofs.RouteRoom.{Elsewhere}
use Rattle.fare.specs.declared.Terms.{Terms}
use Rattle.fare.specs.Fares.{fares_of}
use Rattle.fare.specs.Fare.{fare_of}
use Rattle.fare.specs.Asked.{FareAnswer, fared, Refuses, Faring, refused, bad_fares, done}
use Rattle.fare.specs.steps.Reckoning.{FoundFare, no_room, bad_fares as found-bad, done as found-done}
use Rattle.book.specs.declared.Refusal.TheVariants.{Fares, NoRoom}

refuses : (answer : FareAnswer) (found : Refusal) → answer ≡ Err found → Refuses answer found
refuses answer found e = record { answers = e; figured = rw e }

module _ (book : List ℕ) (r s : ℕ) (turns links : Table) (buffer table : List ℕ) (terms : Terms) where
  -- what Route refuses
  pub refused_faring : (found : Refusal) → Routing book r s turns links buffer (Err found) buffer → Faring book r s turns links buffer table terms (Err found) buffer
  refused_faring found routing = refused found routing (refuses (Err found) found refl) refl

  module _ (found-links : List ℕ) (counts : Counts) (checked : check_of book ≡ Ok counts) (cost count : ℕ) (found : Elsewhere book r s turns links buffer found-links counts cost count) where
    abbrev walk : List ℕ
    walk = take count found-links

    pub found_faring : (answer : FareAnswer) (after : List ℕ) → FoundFare book counts table terms cost walk buffer answer after → Faring book r s turns links buffer table terms answer after
    found_faring answer after (no_room short a b) = refused NoRoom (found.short (omega (arith, found.front))) (refuses answer NoRoom a) b
    found_faring answer after (found-bad fits bad a b) = bad_fares cost count _ (found.serves (omega (arith, found.front))) counts checked bad (refuses answer Fares a) b
    found_faring answer after (found-done fits good a b) =
        let written : after ≡ walk ++ drop count buffer = b ∙ rw found.front in
        let own : take count after ≡ walk = ap (take count) written ∙ take_at walk (drop count buffer) count found.front in
        let told : answer ≡ fared cost count (fare_of (fares_of (view_of book counts) table terms) (take count after)) = a ∙ rw (own, found.front) in
        done cost count (rw written (found.serves (omega (arith, found.front)))) counts checked good (fare_of (fares_of (view_of book counts) table terms) (take count after)) refl (record { answers = told; figured = rw told })
