-- The route that was found, with its fares, is the plan of the fare sheet, and the lines of it are the sheet of the input.
use Prim.Native.Nat.{ℕ, ◌+◌, ◌-◌, ◌≤◌}
use mathlib.Core.Path.{◌≡◌, refl, sym, ap, ◌∙◌, subst}
use mathlib.Core.Logic.{◌⊎◌, inl, inr}
use mathlib.Core.List.{List, [], ◌∷◌}
use native.Mathlib.Omega.{arith}
use lib.ListN.{length, take, drop, length-drop, drop_of_length-le}
use lib.Seq.{take_all}
use Rattle.std.specs.Prelude.{Ok, Err, Some}
use Rattle.std.proofs.lemmas.List.{take_rest}
use Rattle.book.specs.declared.Counts.{Counts}
use Rattle.book.specs.Check.{Checked, check_of}
use Rattle.book.specs.declared.Refusal.{Refusal}
use Rattle.walk.specs.View.{view_of}
use Rattle.walk.specs.Labels.{Route}
use Rattle.search.proofs.RouteRoom.{room_serves, links_exist}
use Rattle.fare.specs.declared.Terms.{Terms}
use Rattle.sheet.specs.declared.Page.{Page}
use Rattle.sheet.specs.Sheet.{route_fields, Planned, done as planned}
use Rattle.sheet.specs.FareSheet.{FarePlanned, refused, bad_fares, done, FareSays, longest_text, FareSheet, printed}
use Rattle.sheet.specs.steps.Faring.{RouteToFare, FareTold, bad_fares as told-bad, done as told-fare, LinesPut, BookEnd}
use Rattle.sheet.specs.steps.Routes.{asked_fields}
use Rattle.sheet.proofs.TestLaws.{tests_passed}
use Rattle.sheet.proofs.StoreLaws.{whole}
use Rattle.sheet.proofs.Longest.{longest_plan}
use Rattle.sheet.proofs.LongestText.{longest_text_lem}
use Rattle.sheet.specs.Line.{line}
use Rattle.sheet.specs.steps.Storing.{Put}
use Rattle.sheet.proofs.FareText.{one_line_put}
use Rattle.sheet.proofs.Plans.{refusal_fields, book_refused, Led, led_fields, led_planned}

module _ (book : List ℕ) (r s : ℕ) (links : List ℕ) (cost : ℕ) (led : Led book r s links cost) (counts : Counts) (checked : check_of book ≡ Ok counts) where
  same : led.counts ≡ counts
  same =
      let passed = tests_passed book r s led.counts led.passed in
      cc (passed, checked)

  route : Route (view_of book counts) r s links
  route = subst (λ (x : Counts). Route (view_of book x) r s links) same led.route

  pub led_to_fare : RouteToFare book counts r cost links
  led_to_fare =
      let few = (room_serves book r s counts checked links route).0 in
      record {
        checked = checked;
        given = record { few = omega arith; exist = links_exist (view_of book counts) r s links route.walk };
        few = few;
        fits = longest_plan book r s _ (led_planned led);
      }

  pub told_planned : (table : List ℕ) (terms : Terms) (lines : List (List ℕ)) → FareTold book counts table terms r cost links lines → FarePlanned book r s table terms lines
  told_planned table terms lines (told-bad bad f) = bad_fares counts (rw (← same) led.passed) links route bad f
  told_planned table terms lines (told-fare good f) =
      let own : asked_fields book r cost links ≡ route_fields (view_of book counts) links = rw (← same) (led_fields led) in
      done counts (rw (← same) led.passed) links route good (rw (← own) f)

-- the parts of the input before and after the book's end
module _ (input : List ℕ) (from bytes place : ℕ) (ends : BookEnd from bytes (length input) place) where
  pub book_part : take (place - from) (drop from input) ≡ take bytes (drop from input)
  book_part = by ends.part
    where
      by : (place ≡ from + bytes) ⊎ ((place ≡ length input) × (length input ≤ from + bytes)) → take (place - from) (drop from input) ≡ take bytes (drop from input)
      by (inl e) =
          let size : place - from ≡ bytes = omega arith in
          ap (λ (n : ℕ). take n (drop from input)) size
      by (inr (e, l)) = take_all (place - from) (drop from input) (omega (arith, length-drop from input)) ∙ sym (take_all bytes (drop from input) (omega (arith, length-drop from input)))

  pub table_part : take (length input - place) (drop place input) ≡ drop (from + bytes) input
  table_part = take_rest input place ∙ by ends.part
    where
      by : (place ≡ from + bytes) ⊎ ((place ≡ length input) × (length input ≤ from + bytes)) → drop place input ≡ drop (from + bytes) input
      by (inl e) = ap (λ (n : ℕ). drop n input) e
      by (inr (e, l)) =
          let long : length input ≤ place = omega arith in
          drop_of_length-le input long ∙ sym (drop_of_length-le input l)

-- lines that are put from the start, and that the input says, are the sheet of the input
pub text_said : (input text left : List ℕ) {before after : Page} → LinesPut (FareSays input) before after → before.at ≡ 0 → before.text.now ≡ text → left ≡ after.text.now → longest_text ≤ length text → FareSheet input text (Some after.at) left
text_said input text left lines start lent kept room =
    let (stands, end) = whole lines.put start (rw lent (omega (arith, longest_text_lem input lines.lines lines.told))) in
    printed room lines.lines lines.told (ap Some end) (kept ∙ rw lent at stands)

-- what the check refuses is put as the plan
pub check_told : (book : List ℕ) (r s : ℕ) (table : List ℕ) (terms : Terms) (answer : Checked) (found : Refusal) {before after : Page} → answer ≡ check_of book → answer ≡ Err found → Put before (line (refusal_fields found)) after → LinesPut (FarePlanned book r s table terms) before after
check_told book r s table terms answer found told is put = one_line_put _ (refused _ _ (book_refused book r s found (sym told ∙ is)) refl) put

-- the same plan under other names
pub plan_moved : {book book-too : List ℕ} {r r-too s s-too : ℕ} {table table-too : List ℕ} {terms terms-too : Terms} (lines : List (List ℕ)) → book ≡ book-too → r ≡ r-too → s ≡ s-too → table ≡ table-too → terms ≡ terms-too
    → FarePlanned book r s table terms lines → FarePlanned book-too r-too s-too table-too terms-too lines
plan_moved lines e f g h i plan = rw (e, f, g, h, i) at plan

-- the printed line stays: the first line is the printer's own, or 17 and 0
pub first_stays : (book : List ℕ) (r s : ℕ) (table : List ℕ) (terms : Terms) (first : List ℕ) (rest : List (List ℕ)) → FarePlanned book r s table terms (first ∷ rest) → Planned book r s first ⊎ (first ≡ 17 ∷ 0 ∷ [])
first_stays book r s table terms first rest (refused number place plan f) =
    let same : first ≡ number ∷ place ∷ [] = cc in
    inl (rw same plan)
first_stays book r s table terms first rest (bad_fares counts e links route bad f) = inr (cc)
first_stays book r s table terms first rest (done counts e links route good f) = inl (planned counts e links route (cc))
