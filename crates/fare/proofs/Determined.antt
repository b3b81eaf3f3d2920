-- What a fare answers and leaves is fixed by what it was lent, since Route's answer is, and the fare is reckoned from it.
use Prim.Native.Nat.{ℕ}
use mathlib.Core.Path.{◌≡◌, refl, sym, ap, ◌∙◌}
use mathlib.Core.List.{List}
use Rattle.book.specs.declared.Counts.{Counts}
use Rattle.walk.specs.Labels.{Table}
use Rattle.walk.proofs.theory.Laws.{clash}
use Rattle.search.proofs.RouteRoom.{same_figures}
use Rattle.search.proofs.Determined.{route_determined}
use Rattle.fare.specs.declared.Terms.{Terms}
use Rattle.fare.specs.Fares.{fares_good}
use Rattle.fare.specs.Asked.{FareAnswer, Faring, refused, bad_fares, done}

-- two outcomes that the contract of a fare allows for one input are equal
pub fare_determined : (book : List ℕ) (r s : ℕ) (turns links : Table) (buffer table : List ℕ) (terms : Terms) (one other : FareAnswer) (after after-other : List ℕ) → Faring book r s turns links buffer table terms one after
    → Faring book r s turns links buffer table terms other after-other → (one ≡ other) × (after ≡ after-other)
fare_determined book r s turns links buffer table terms one other a b (refused found w g e) (refused found' w' g' e') =
    let (same, _) = route_determined book r s turns links buffer _ _ _ _ w w' in
    (cc (g.answers, g'.answers, same), e ∙ sym e')
fare_determined book r s turns links buffer table terms one other a b (refused found w g e) (bad_fares cost count written w' counts h bad g' e') =
    let (same, _) = route_determined book r s turns links buffer _ _ _ _ w w' in
    clash (cc same)
fare_determined book r s turns links buffer table terms one other a b (refused found w g e) (done cost count w' counts h good fare f g') =
    let (same, _) = route_determined book r s turns links buffer _ _ _ _ w w' in
    clash (cc same)
fare_determined book r s turns links buffer table terms one other a b (bad_fares cost count written w counts h bad g e) (refused found w' g' e') =
    let (same, _) = route_determined book r s turns links buffer _ _ _ _ w w' in
    clash (cc same)
fare_determined book r s turns links buffer table terms one other a b (bad_fares cost count written w counts h bad g e) (bad_fares cost' count' written' w' counts' h' bad' g' e') = (g.answers ∙ sym g'.answers, e ∙ sym e')
fare_determined book r s turns links buffer table terms one other a b (bad_fares cost count written w counts h bad g e) (done cost' count' w' counts' h' good fare f g') =
    let same : counts ≡ counts' = cc (h, h') in
    clash (cc (bad, good, ap (λ (x : Counts). fares_good x table terms) same))
fare_determined book r s turns links buffer table terms one other a b (done cost count w counts h good fare f g) (refused found w' g' e') =
    let (same, _) = route_determined book r s turns links buffer _ _ _ _ w w' in
    clash (cc same)
fare_determined book r s turns links buffer table terms one other a b (done cost count w counts h good fare f g) (bad_fares cost' count' written' w' counts' h' bad g' e') =
    let same : counts ≡ counts' = cc (h, h') in
    clash (cc (bad, good, ap (λ (x : Counts). fares_good x table terms) same))
fare_determined book r s turns links buffer table terms one other a b (done cost count w counts h good fare f g) (done cost' count' w' counts' h' good' fare' f' g') =
    let (same, left) = route_determined book r s turns links buffer _ _ _ _ w w' in
    let counts_same : counts ≡ counts' = cc (h, h') in
    let (cost_same, count_same) = same_figures refl same in
    let fare-same : fare ≡ fare' = f ∙ rw (counts_same, count_same, left) (sym f') in
    (g.answers ∙ rw (cost_same, count_same, fare-same) (sym g'.answers), left)
