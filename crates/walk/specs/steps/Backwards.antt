-- A walk read from its last link towards its first: it grows at the head, as the proofs and the loops take it.
use Rattle.std.specs.Prelude.{ℕ, ◌+◌, List, [], ◌∷◌, map, Bool, true, not, ◌&&◌, ltb, eqb}
use Rattle.book.specs.Entries.{barred}
use Rattle.walk.specs.declared.Split.{Split}
use Rattle.walk.specs.View.{View}
use Rattle.walk.specs.Walks.{twos, all, sum, turn_of, between, allowed, seconds, link_wait, turn_wait, total}
use Rattle.walk.specs.steps.Splits.{turn_split}

abbrev pub turns_back : View → List ℕ → List ℕ
turns_back U links = twos (λ b a. turn_of U a b) links

abbrev pub leaves_back : View → ℕ → List ℕ → Bool
leaves_back U r [] = true
leaves_back U r (l ∷ []) = eqb (U.from l) r
leaves_back U r (b ∷ a ∷ rest) = leaves_back U r (a ∷ rest)

unfoldable pub permitted_back : View → ℕ → List ℕ → Bool
permitted_back U r links =
    all (map (λ l. ltb l U.links) links)
    && leaves_back U r links
    && all (twos (λ b a. eqb (U.to a) (U.from b)) links)
    && all (map (λ t. ltb t U.turns) (turns_back U links))
    && all (map (λ t. not (eqb (U.walk t) barred)) (turns_back U links))
    && all (twos (λ t p. allowed (between U p t)) (turns_back U links))

-- the first link is the last read
abbrev pub first_wait_back : View → List ℕ → ℕ
first_wait_back U [] = 0
first_wait_back U (l ∷ []) = link_wait U l
first_wait_back U (b ∷ a ∷ rest) = first_wait_back U (a ∷ rest)

unfoldable pub split_back : View → List ℕ → Split
split_back U links =
    record {
      ride = sum (map U.ride links);
      wait = first_wait_back U links + sum (map (turn_wait U) (turns_back U links));
      walk = sum (map U.walk (turns_back U links));
      extra = sum (twos (λ t p. seconds (between U p t)) (turns_back U links));
    }

abbrev pub cost_back : View → List ℕ → ℕ
cost_back U links = total (split_back U links)

-- turn t after the turns so far, last first: whether it may come, and the extra that it brings
abbrev pub may_come : View → ℕ → List ℕ → Bool
may_come U t [] = true
may_come U t (p ∷ rest) = allowed (between U p t)

abbrev pub extra_after : View → ℕ → List ℕ → ℕ
extra_after U t [] = 0
extra_after U t (p ∷ rest) = seconds (between U p t)

-- one more link b after link a
unfoldable pub step_permitted : View → ℕ → ℕ → List ℕ → Bool
step_permitted U b a turns =
    ltb b U.links
    && eqb (U.to a) (U.from b)
    && ltb (turn_of U a b) U.turns
    && not (eqb (U.walk (turn_of U a b)) barred)
    && may_come U (turn_of U a b) turns

unfoldable pub step_split : View → ℕ → ℕ → List ℕ → Split
step_split U b a turns = turn_split U (extra_after U (turn_of U a b) turns) (turn_of U a b)

abbrev pub step_cost : View → ℕ → ℕ → List ℕ → ℕ
step_cost U b a turns = total (step_split U b a turns)
