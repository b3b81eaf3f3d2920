-- The turn to settle next: of the reached turns that are not settled, the least by cost, links, number.
use Rattle.std.specs.Prelude.{ℕ, ◌<◌, ◌≡◌, List, Bool, true, false, not, ◌&&◌, eqb, get_or, length, Some, None, Option}
use Rattle.walk.specs.Labels.{Key, Less, no_entry}
use Rattle.book.specs.declared.TurnNumber.{TurnNumber}

abbrev pub is_settled : List Bool → ℕ → Bool
is_settled settled t = get_or settled t false

abbrev pub is_candidate : List ℕ → List Bool → ℕ → Bool
is_candidate cost settled t = not (is_settled settled t) && not (eqb (get_or cost t 0) no_entry.cost)

abbrev pub key_at : List ℕ → List ℕ → ℕ → Key
key_at cost links t = record { cost = get_or cost t 0; links = get_or links t 0 }

pub record LeastOf (cost links : List ℕ) (settled : List Bool) (t : ℕ) : Type 0 where
  pub within : t < length cost
  pub candidate : is_candidate cost settled t ≡ true
  -- none is less, and none before it is as little
  pub least : (v : ℕ) → v < length cost → is_candidate cost settled v ≡ true → Less (key_at cost links v) (key_at cost links t) → ⊥
  pub first : (v : ℕ) → v < t → is_candidate cost settled v ≡ true → Less (key_at cost links t) (key_at cost links v)

abbrev pub Picks : List ℕ → List ℕ → List Bool → Option TurnNumber → Type 0
Picks cost links settled (Some turn) = LeastOf cost links settled turn.0
Picks cost links settled None = (v : ℕ) → v < length cost → is_candidate cost settled v ≡ false
