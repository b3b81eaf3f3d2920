-- What good fares give: the table's length, and each number within its limit.
use Prim.Native.Nat.{ℕ, zero, suc, ◌+◌, ◌-◌, ◌≤◌, ◌<◌}
use mathlib.Core.Path.{◌≡◌, refl, sym, ap, ◌∙◌}
use mathlib.Core.List.{List, [], ◌∷◌, map}
use mathlib.Core.Bool.{Bool, true, false, ◌&&◌}
use native.Mathlib.Omega.{arith}
use lib.Dec.{ltb, leb}
use lib.ListN.{length, get_or, take, drop, length-drop}
use lib.Seq.{get_or-take, get_or-drop, length-take-le, take-length}
use borrow.Author.Tests.{ltb-true, leb-true, eqb-true, eq-eqb, ne_eqb}
use Rattle.std.specs.List.{list_all}
use Rattle.book.specs.declared.Counts.{Counts}
use Rattle.book.proofs.Limits.{both}
use Rattle.walk.specs.Walks.{all}
use Rattle.fare.specs.declared.Terms.{Terms}
use Rattle.fare.specs.steps.Reckoning.{LinksGiven}
use Rattle.fare.specs.Fares.{most_metres, most_won, all_within, table_good, terms_good, fares_good}

-- a test of all is a test of each
pub each : (test : ℕ → Bool) (list : List ℕ) → all (map test list) ≡ true → (k : ℕ) → k < length list → test (get_or list k 0) ≡ true
each test [] h k l = absurd (omega arith)
each test (n ∷ rest) h zero l = (both (test n) (all (map test rest)) h).0
each test (n ∷ rest) h (suc k) l = each test rest (both (test n) (all (map test rest)) h).1 k (omega arith)

within_at : (most : ℕ) (numbers : List ℕ) → all_within most numbers ≡ true → (k : ℕ) → k < length numbers → get_or numbers k 0 ≤ most
within_at most numbers h k l = leb-true _ most (each (λ n. leb n most) numbers h k l)

-- a pass over the numbers tells whether all are within their limit
pub passed_within : (most : ℕ) (numbers : List ℕ) → list_all (λ n. leb n most) numbers ≡ all_within most numbers
passed_within most [] = refl
passed_within most (n ∷ rest) = ap (λ (later : Bool). leb n most && later) (passed_within most rest)

-- a part up to the end is all that is left
pub rest_whole : (k : ℕ) (list : List ℕ) → take (length list - k) (drop k list) ≡ drop k list
rest_whole k list = ap (λ (n : ℕ). take n (drop k list)) (sym (length-drop k list)) ∙ take-length (drop k list)

-- a table of another length is not good
pub other_length : (counts : Counts) (table : List ℕ) → (length table ≡ counts.links + counts.lines → ⊥) → table_good counts table ≡ false
unfolding table_good
other_length counts table h = rw (ne_eqb (length table) (counts.links + counts.lines) h)

pub record GoodTable (counts : Counts) (table : List ℕ) : Type 0 where
  pub size : length table ≡ counts.links + counts.lines
  pub metres : (l : ℕ) → l < counts.links → get_or table l 0 ≤ most_metres
  pub basic : (k : ℕ) → k < counts.lines → get_or table (counts.links + k) 0 ≤ most_won

pub good_table : (counts : Counts) (table : List ℕ) → table_good counts table ≡ true → GoodTable counts table
unfolding table_good
good_table counts table h =
    let (sized, rest) = both _ _ h in
    let (near, cheap) = both _ _ rest in
    let size = eqb-true _ _ sized in
    record {
      size = size;
      metres = λ l i. omega (arith, get_or-take counts.links table l 0 i, within_at most_metres (take counts.links table) near l (omega (arith, length-take-le counts.links table (omega arith))));
      basic = λ k i. omega (arith, get_or-drop counts.links table k 0, within_at most_won (drop counts.links table) cheap k (omega (arith, length-drop counts.links table)));
    }

-- a link's metres, and the basic fare of a line
module _ (counts : Counts) (table : List ℕ) (good : table_good counts table ≡ true) where
  pub link_inside : (l : ℕ) → l < counts.links → l < length table
  link_inside l h = omega (arith, (good_table counts table good).size)

  pub line_inside : (k : ℕ) → k < counts.lines → counts.links + k < length table
  line_inside k h = omega (arith, (good_table counts table good).size)

  pub metres_within : (l : ℕ) → l < counts.links → get_or table l 0 ≤ most_metres
  metres_within l h = (good_table counts table good).metres l h

  pub basic_within : (k : ℕ) → k < counts.lines → get_or table (counts.links + k) 0 ≤ most_won
  basic_within k h = (good_table counts table good).basic k h

-- each link that is given is one of the book
pub link_exists : (counts : Counts) (links : List ℕ) → LinksGiven counts links → (k : ℕ) → k < length links → get_or links k 0 < counts.links
link_exists counts links given k h = ltb-true _ _ (each (λ l. ltb l counts.links) links given.exist k h)

pub record GoodTerms (terms : Terms) : Type 0 where
  pub distance : terms.distance.0 ≤ most_metres
  pub step : terms.step.0 ≤ most_metres
  pub long : 0 < terms.step.0
  pub premium : terms.premium.0 ≤ most_won

pub good_terms : (terms : Terms) → terms_good terms ≡ true → GoodTerms terms
unfolding terms_good
good_terms terms h =
    let (d, rest) = both (leb terms.distance.0 most_metres) (leb terms.step.0 most_metres && (ltb 0 terms.step.0 && leb terms.premium.0 most_won)) h in
    let (s, rest) = both (leb terms.step.0 most_metres) (ltb 0 terms.step.0 && leb terms.premium.0 most_won) rest in
    let (l, p) = both (ltb 0 terms.step.0) (leb terms.premium.0 most_won) rest in
    record { distance = leb-true _ _ d; step = leb-true _ _ s; long = ltb-true _ _ l; premium = leb-true _ _ p }

pub record GoodFares (counts : Counts) (table : List ℕ) (terms : Terms) : Type 0 where
  pub tabled : table_good counts table ≡ true
  pub numbers : GoodTable counts table
  pub beside : GoodTerms terms

pub good_fares : (counts : Counts) (table : List ℕ) (terms : Terms) → fares_good counts table terms ≡ true → GoodFares counts table terms
unfolding fares_good
good_fares counts table terms h =
    let (t, u) = both (table_good counts table) (terms_good terms) h in
    record { tabled = t; numbers = good_table counts table t; beside = good_terms terms u }

pub fares_tabled : (counts : Counts) (table : List ℕ) (terms : Terms) → fares_good counts table terms ≡ true → table_good counts table ≡ true
fares_tabled counts table terms h = (good_fares counts table terms h).tabled

pub step_long : (counts : Counts) (table : List ℕ) (terms : Terms) → fares_good counts table terms ≡ true → 0 < terms.step.0
step_long counts table terms h = (good_fares counts table terms h).beside.long

-- a table of the right length is good where its two parts are within their limits
pub right_length : (counts : Counts) (table : List ℕ) → length table ≡ counts.links + counts.lines → table_good counts table ≡ (all_within most_metres (take counts.links table) && all_within most_won (drop counts.links table))
unfolding table_good
right_length counts table h = rw (eq-eqb (length table) (counts.links + counts.lines) h)
