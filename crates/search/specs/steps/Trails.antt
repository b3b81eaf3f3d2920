-- A walk read back along the backs of the turns: the trail of a turn, and that of a link.
use Rattle.std.specs.Prelude.{ℕ, ◌≤◌, ◌<◌, ◌≡◌, List, [], ◌∷◌, ◌++◌, length, get_or, drop}
use Rattle.walk.specs.View.{View}
use Rattle.walk.specs.Labels.{start_back}

-- the walk that a turn's back leads to, and then the turn's second link
pub data Trail (U : View) (back : List ℕ) : ℕ → List ℕ → Type 0 where
  two : (t : ℕ) {walk : List ℕ} → t < U.turns → get_or back t 0 ≡ start_back → walk ≡ U.first t ∷ U.second t ∷ [] → Trail U back t walk
  more : (t p : ℕ) {before walk : List ℕ} → t < U.turns → get_or back t 0 ≡ p → p < U.turns → Trail U back p before → walk ≡ before ++ (U.second t ∷ []) → Trail U back t walk

-- the link alone, or the walk of the turn that its back says
pub data LinkTrail (U : View) (turn_back link_back : List ℕ) : ℕ → List ℕ → Type 0 where
  one : (l : ℕ) {walk : List ℕ} → l < U.links → get_or link_back l 0 ≡ start_back → walk ≡ l ∷ [] → LinkTrail U turn_back link_back l walk
  last : (l t : ℕ) {walk : List ℕ} → l < U.links → get_or link_back l 0 ≡ t → t < U.turns → Trail U turn_back t walk → LinkTrail U turn_back link_back l walk

-- there is a walk with this trail, it has so many links, and there is room for it
pub record Traced (Leads : List ℕ → Type 0) (links room : ℕ) : Type 0 where
  pub walk : List ℕ
  pub leads : Leads walk
  pub count : length walk ≡ links
  pub fits : links ≤ room

-- the walk with this trail stands at the front, and the rest is as before
abbrev pub Written : (List ℕ → Type 0) → List ℕ → List ℕ → Type 0
Written Leads before after = (walk : List ℕ) → Leads walk → after ≡ walk ++ drop (length walk) before
