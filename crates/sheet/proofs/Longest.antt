-- No line is longer than 20,542 bytes: a route has at most 4,097 links, each below 2,048, and costs at most 191,728,800, which none of its four figures exceeds.
use Prim.Native.Nat.{ℕ, suc, ◌*◌, ◌^◌, ◌≤◌, ◌<◌}
use mathlib.Core.Path.{◌≡◌, ap}
use mathlib.Core.List.{List, [], ◌∷◌, map}
use mathlib.Core.Bool.{true}
use native.Mathlib.Omega.{arith}
use lib.Dec.{ltb}
use lib.ListN.{length, length-append}
use borrow.Author.Tests.{ltb-true}
use Rattle.std.specs.Prelude.{Ok}
use Rattle.book.specs.declared.Counts.{Counts}
use Rattle.book.specs.Check.{number_of, place_of, check_of}
use Rattle.book.proofs.Limits.{both}
use Rattle.book.proofs.GoodBook.{good_book}
use Rattle.walk.specs.declared.Split.{Split}
use Rattle.walk.specs.View.{view_of}
use Rattle.walk.specs.Walks.{all, cost_of, split_of, total, figures_of}
use Rattle.walk.specs.Labels.{Route}
use Rattle.walk.proofs.SplitLaws.{adds_up}
use Rattle.search.proofs.RouteRoom.{room_serves, links_exist}
use Rattle.sheet.specs.Line.{decimal, further, line}
use Rattle.sheet.specs.Sheet.{origin_of, destination_of, book_of, route_fields, Planned, refused, no_walk, done, Says, short, asked, longest_line}
use Rattle.sheet.proofs.DigitLaws.{length_below}
use Rattle.sheet.proofs.LineLaws.{further_one, length_two, length_four, length_route}
use Rattle.sheet.proofs.TestLaws.{tests_limited, tests_passed}

-- a field that is not the first has a blank and its digits
further_below : (places n : ℕ) → n < 10 ^ suc places → length (further (n ∷ [])) ≤ suc (suc places)
further_below places n h = omega (arith, ap length (further_one n), length_below places n h)

-- links of four digits take five bytes each
links_bounded : (count : ℕ) → count ≤ 10 ^ 4 → (links : List ℕ) → all (map (λ l. ltb l count) links) ≡ true → length (further links) ≤ 5 * length links
unfolding further
links_bounded count h [] e = omega arith
links_bounded count h (l ∷ rest) e =
    let (here, later) = both (ltb l count) (all (map (λ l. ltb l count) rest)) e in
    omega (arith, length-append (decimal l) (further rest), length_below 3 l (omega (arith, ltb-true l count here)), links_bounded count h rest later)

-- figures of nine digits
split_below : (split : Split) → total split < 10 ^ 9 → length (further (figures_of split)) ≤ 40
split_below split h =
    omega (
      arith,
      length_four split.ride split.wait split.walk split.extra,
      further_below 8 split.ride (omega arith),
      further_below 8 split.wait (omega arith),
      further_below 8 split.walk (omega arith),
      further_below 8 split.extra (omega arith),
    )

module _ (book : List ℕ) (r s : ℕ) (counts : Counts) (checked : check_of book ≡ Ok counts) (links : List ℕ) (route : Route (view_of book counts) r s links) where
  links_room : length (further links) ≤ 5 * length links
  links_room =
      let few = (good_book book counts checked).limited.links in
      links_bounded counts.links (omega arith) links (links_exist (view_of book counts) r s links route.walk)

  abbrev split : Split
  split = split_of (view_of book counts) links

  route_line : length (line (route_fields (view_of book counts) links)) ≤ longest_line
  route_line =
      let (few, cheap) = room_serves book r s counts checked links route in
      let nought = length_below 0 0 (omega arith) in
      let figure = further_below 8 (cost_of (view_of book counts) links) (omega arith) in
      let count = further_below 3 (length links) (omega arith) in
      let four = split_below split (omega (arith, adds_up (view_of book counts) links)) in
      omega (arith, length_route (cost_of (view_of book counts) links) split links, links_room)

pub refusal_line : (number place : ℕ) → number ≤ 17 → place ≤ 4096 → length (line (number ∷ place ∷ [])) ≤ longest_line
refusal_line number place n p = omega (arith, length_two number place, length_below 1 number (omega arith), further_below 3 place (omega arith))

pub longest_plan : (book : List ℕ) (r s : ℕ) (fields : List ℕ) → Planned book r s fields → length (line fields) ≤ longest_line
longest_plan book r s fields (refused found t f) =
    let (n, p) = tests_limited book r s found t in
    rw f (refusal_line (number_of found) (place_of found) (omega arith) p)
longest_plan book r s fields (no_walk counts t none f) = rw f (refusal_line 14 0 (omega arith) (omega arith))
longest_plan book r s fields (done counts t links route f) = rw f (route_line book r s counts (tests_passed book r s counts t) links route)

pub longest_line_lem : (input fields : List ℕ) → Says input fields → length (line fields) ≤ longest_line
longest_line_lem input fields (short l f) = rw f (refusal_line 1 0 (omega arith) (omega arith))
longest_line_lem input fields (asked l plan) = longest_plan (book_of input) (origin_of input) (destination_of input) fields plan
