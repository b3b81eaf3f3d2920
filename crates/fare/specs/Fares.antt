-- Document 02, request 3: a lent table gives metres per link, then basic fare per line, with basic distance, step and premium beside it.
use Rattle.std.specs.Prelude.{ℕ, ◌+◌, List, map, Bool, ◌&&◌, ltb, leb, eqb, length, get_or, take, drop}
use Rattle.book.specs.declared.Counts.{Counts}
use Rattle.walk.specs.View.{View}
use Rattle.walk.specs.Walks.{all}
use Rattle.fare.specs.declared.Won.{Won}
use Rattle.fare.specs.declared.Metres.{Metres}
use Rattle.fare.specs.declared.Terms.{Terms}
use Rattle.fare.specs.Amounts.{in_metres, in_won}

-- what a fare is reckoned by
pub record Fares : Type 0 where
  -- of a link
  pub metres : ℕ → Metres
  pub line : ℕ → ℕ
  -- of a line
  pub basic : ℕ → Won
  pub terms : Terms

abbrev pub metres_in : List ℕ → ℕ → Metres
metres_in table link = in_metres (get_or table link 0)

-- the basic fares stand after the metres of so many links
abbrev pub basic_in : ℕ → List ℕ → ℕ → Won
basic_in links table line = in_won (get_or table (links + line) 0)

abbrev pub fares_of : View → List ℕ → Terms → Fares
fares_of U table terms = record { metres = metres_in table; line = U.line; basic = basic_in U.links table; terms = terms }

-- metres per link, and the two distances, are at most 200,000; amounts at most 100,000; the step is at least 1
abbrev pub most_metres : ℕ
most_metres = 200000

abbrev pub most_won : ℕ
most_won = 100000

unfoldable pub terms_good : Terms → Bool
terms_good terms = leb terms.distance.0 most_metres && (leb terms.step.0 most_metres && (ltb 0 terms.step.0 && leb terms.premium.0 most_won))

-- every number of a part of the table is within its limit
abbrev pub all_within : ℕ → List ℕ → Bool
all_within most numbers = all (map (λ n. leb n most) numbers)

-- one number a link and one a line, exactly; every one is tested, used by a route or not
unfoldable pub table_good : Counts → List ℕ → Bool
table_good counts table =
    eqb (length table) (counts.links + counts.lines)
    && (all_within most_metres (take counts.links table) && all_within most_won (drop counts.links table))

unfoldable pub fares_good : Counts → List ℕ → Terms → Bool
fares_good counts table terms = table_good counts table && terms_good terms
