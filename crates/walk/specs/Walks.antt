-- Document 01, "Permitted walks and their cost". A walk is its list of link numbers in travel order.
use Rattle.std.specs.Prelude.{ℕ, ◌+◌, ◌/◌, List, [], ◌∷◌, map, Bool, true, false, not, ◌&&◌, ◌||◌, ltb, eqb}
use Rattle.std.proofs.Math.Option.{Option, none, some}
use Rattle.book.specs.Entries.{barred}
use Rattle.book.specs.FirstBad.{first_bad}
use Rattle.walk.specs.declared.Between.{Between}
use Rattle.walk.specs.declared.Between.TheVariants.{Listed, Forbidden, CarriedOver, Nothing}
use Rattle.walk.specs.declared.Split.{Split}
use Rattle.walk.specs.View.{View}

-- f of each two successive ones of a list
abbrev pub twos : {A : Type 0} → (ℕ → ℕ → A) → List ℕ → List A
twos f [] = []
twos f (a ∷ []) = []
twos f (a ∷ b ∷ rest) = f a b ∷ twos f (b ∷ rest)

abbrev pub all : List Bool → Bool
all [] = true
all (test ∷ rest) = test && all rest

abbrev pub sum : List ℕ → ℕ
sum [] = 0
sum (n ∷ rest) = n + sum rest

-- the number of the turn from link a to link b, or the count of turns where that change is not in the table
unfoldable pub turn_of : View → ℕ → ℕ → ℕ
turn_of U a b = first_bad (λ t. not (eqb (U.first t) a && eqb (U.second t) b)) U.turns

-- the turns of a walk: each two successive links
abbrev pub turns_of : View → List ℕ → List ℕ
turns_of U links = twos (turn_of U) links

abbrev pub listed_as : Bool → ℕ → Between
listed_as true extra = Forbidden
listed_as false extra = Listed extra

abbrev pub carried_if : Bool → ℕ → Between
carried_if true carried = CarriedOver carried
carried_if false carried = Nothing

-- document 004's cost between two turns: the listed extra stands; if the pair is unlisted, the carry-over where both walks are above 0, else nothing
unfoldable pub look_up : Option ℕ → ℕ → ℕ → ℕ → Between
look_up (some extra) carried before after = listed_as (eqb extra barred) extra
look_up none carried before after = carried_if (ltb 0 before && ltb 0 after) carried

-- what stands between two successive turns
abbrev pub between : View → ℕ → ℕ → Between
between U p t = look_up (U.listed p t) U.carry_over (U.walk p) (U.walk t)

abbrev pub allowed : Between → Bool
allowed (Listed extra) = true
allowed Forbidden = false
allowed (CarriedOver extra) = true
allowed Nothing = true

abbrev pub seconds : Between → ℕ
seconds (Listed extra) = extra
seconds Forbidden = 0
seconds (CarriedOver extra) = extra
seconds Nothing = 0

abbrev pub leaves : View → ℕ → List ℕ → Bool
leaves U r [] = true
leaves U r (l ∷ rest) = eqb (U.from l) r

-- from r: the links exist, the first leaves r, and each begins where the one before ends;
-- each two successive links are a turn in the table that is not closed; no two successive turns are a forbidden pair
unfoldable pub permitted : View → ℕ → List ℕ → Bool
permitted U r links =
    all (map (λ l. ltb l U.links) links)
    && leaves U r links
    && all (twos (λ a b. eqb (U.to a) (U.from b)) links)
    && all (map (λ t. ltb t U.turns) (turns_of U links))
    && all (map (λ t. not (eqb (U.walk t) barred)) (turns_of U links))
    && all (twos (λ p t. allowed (between U p t)) (turns_of U links))

-- half a line's headway (document 004, equation 6), rounded up
abbrev pub half : ℕ → ℕ
half headway = (headway + 1) / 2

-- the wait for a link: half its line's headway
abbrev pub link_wait : View → ℕ → ℕ
link_wait U l = half (U.headway (U.line l))

-- document 02, request 1: it is paid for the walk's first link,
abbrev pub first_wait : View → List ℕ → ℕ
first_wait U [] = 0
first_wait U (l ∷ rest) = link_wait U l

-- and where the turn into a link has a walk above 0 or joins two lines
abbrev pub boarding : ℕ → ℕ → ℕ → Bool
boarding walk line_before line = ltb 0 walk || not (eqb line_before line)

abbrev pub boards : View → ℕ → Bool
boards U t = boarding (U.walk t) (U.line (U.first t)) (U.line (U.second t))

abbrev pub paid_if : Bool → ℕ → ℕ
paid_if true wait = wait
paid_if false wait = 0

abbrev pub turn_wait : View → ℕ → ℕ
turn_wait U t = paid_if (boards U t) (link_wait U (U.second t))

-- the four sums of a walk's cost
abbrev pub ride_of : View → List ℕ → ℕ
ride_of U links = sum (map U.ride links)

abbrev pub wait_of : View → List ℕ → ℕ
wait_of U links = first_wait U links + sum (map (turn_wait U) (turns_of U links))

abbrev pub walk_of : View → List ℕ → ℕ
walk_of U links = sum (map U.walk (turns_of U links))

abbrev pub extra_of : View → List ℕ → ℕ
extra_of U links = sum (twos (λ p t. seconds (between U p t)) (turns_of U links))

unfoldable pub cost_of : View → List ℕ → ℕ
cost_of U links = ride_of U links + wait_of U links + walk_of U links + extra_of U links

-- document 02, request 5: where the minutes go
abbrev pub split_of : View → List ℕ → Split
split_of U links = record { ride = ride_of U links; wait = wait_of U links; walk = walk_of U links; extra = extra_of U links }

abbrev pub total : Split → ℕ
total split = split.ride + split.wait + split.walk + split.extra

abbrev pub figures_of : Split → List ℕ
figures_of split = split.ride ∷ split.wait ∷ split.walk ∷ split.extra ∷ []
