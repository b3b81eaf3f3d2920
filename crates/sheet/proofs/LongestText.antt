-- No text is longer than 20,557 bytes: the longest line, and a fare of at most 81,940,000,100,000 won with its newline.
use Prim.Native.Nat.{ℕ, ◌+◌, ◌≤◌}
use mathlib.Core.Path.{◌≡◌, refl}
use mathlib.Core.List.{List, [], ◌∷◌, map}
use mathlib.Core.Bool.{Bool, true}
use native.Mathlib.Omega.{arith}
use lib.Dec.{ltb}
use lib.ListN.{length, length-append}
use Rattle.std.specs.Prelude.{Ok}
use Rattle.book.specs.declared.Counts.{Counts}
use Rattle.book.specs.Check.{check_of}
use Rattle.walk.specs.View.{view_of}
use Rattle.walk.specs.Walks.{all}
use Rattle.search.specs.steps.Routes.{route_room}
use Rattle.search.proofs.RouteRoom.{room_serves, links_exist}
use Rattle.fare.specs.declared.Won.{Won}
use Rattle.fare.specs.declared.Terms.{Terms}
use Rattle.fare.specs.Fares.{fares_of, fares_good}
use Rattle.fare.specs.Fare.{fare_of}
use Rattle.fare.proofs.FareLaws.{limited_fares, fare_most}
use Rattle.sheet.specs.Line.{line}
use Rattle.sheet.specs.Sheet.{origin_of, destination_of, route_fields, done as planned}
use Rattle.sheet.specs.FareSheet.{book_in, table_in, terms_of, entries_of, FarePlanned, refused, bad_fares, done, FareSays, short, asked, text_of, longest_text}
use Rattle.sheet.specs.steps.Faring.{FaresRead, RouteToFare}
use Rattle.sheet.proofs.DigitLaws.{length_below}
use Rattle.sheet.proofs.LineLaws.{length_one}
use Rattle.sheet.proofs.TestLaws.{tests_passed}
use Rattle.sheet.proofs.Longest.{refusal_line, longest_plan}
use Rattle.sheet.proofs.FareTables.{good_entries, read_good}
use Rattle.sheet.proofs.FareText.{text_one, text_two}

-- a fare has 14 digits at most
fare_line : (book : List ℕ) (counts : Counts) (table : List ℕ) (terms : Terms) (links : List ℕ) → check_of book ≡ Ok counts → fares_good counts table terms ≡ true → all (map (λ l. ltb l counts.links) links) ≡ true → length links ≤ route_room
    → length (line ((fare_of (fares_of (view_of book counts) table terms) links).0 ∷ [])) ≤ 15
fare_line book counts table terms links checked good exist few =
    let most = fare_most counts.links (fares_of (view_of book counts) table terms) (limited_fares book counts table terms checked good) links exist in
    omega (arith, length_one (fare_of (fares_of (view_of book counts) table terms) links).0, length_below 13 (fare_of (fares_of (view_of book counts) table terms) links).0 (omega arith))

pub fare_fits : {book : List ℕ} {counts : Counts} {r cost : ℕ} {links bytes : List ℕ} {terms : Terms} {table after : List ℕ} {answer : Bool} → RouteToFare book counts r cost links → length table ≡ counts.links + counts.lines → FaresRead counts bytes terms table answer after → answer ≡ true
    → (fare : Won) → fare ≡ fare_of (fares_of (view_of book counts) after terms) links → length (line (fare.0 ∷ [])) ≤ 15
fare_fits {book} {counts} {r} {cost} {links} {bytes} {terms} {table} {after} route sized read good fare e = rw e (fare_line book counts after terms links route.checked (read_good sized read good) route.given.exist route.few)

one_line : (lines : List (List ℕ)) (fields : List ℕ) → lines ≡ fields ∷ [] → length (text_of lines) ≡ length (line fields)
one_line lines fields e = rw (e, text_one fields)

longest_fare_plan : (book : List ℕ) (r s : ℕ) (table : List ℕ) (terms : Terms) (lines : List (List ℕ)) → FarePlanned book r s table terms lines → length (text_of lines) ≤ longest_text
longest_fare_plan book r s table terms lines (refused number place plan f) = omega (arith, one_line lines _ f, longest_plan book r s _ plan)
longest_fare_plan book r s table terms lines (bad_fares counts t links route bad f) = omega (arith, one_line lines _ f, refusal_line 17 0 (omega arith) (omega arith))
longest_fare_plan book r s table terms lines (done counts t links route good f) =
    let checked = tests_passed book r s counts t in
    let own = longest_plan book r s _ (planned counts t links route refl) in
    let fare = fare_line book counts (entries_of table) terms links checked (good_entries counts table terms good) (links_exist (view_of book counts) r s links route.walk) (room_serves book r s counts checked links route).0 in
    rw (f, text_two) (omega (arith, length-append (line (route_fields (view_of book counts) links)) (line ((fare_of (fares_of (view_of book counts) (entries_of table) terms) links).0 ∷ []))))

pub longest_text_lem : (input : List ℕ) (lines : List (List ℕ)) → FareSays input lines → length (text_of lines) ≤ longest_text
longest_text_lem input lines (short l f) = omega (arith, one_line lines _ f, refusal_line 1 0 (omega arith) (omega arith))
longest_text_lem input lines (asked l plan) = longest_fare_plan (book_in input) (origin_of input) (destination_of input) (table_in input) (terms_of input) lines plan
