-- The right bytes are what book A's route and fare say, and others are none, since the contracts allow one outcome only.
use Prim.Native.Nat.{ℕ}
use mathlib.Core.Path.{◌≡◌, refl, ap₂}
use mathlib.Core.List.{List, [], ◌∷◌, ◌++◌, map}
use mathlib.Core.Bool.{true}
use native.Mathlib.Omega.{arith}
use lib.ListN.{length}
use Rattle.std.specs.Prelude.{Some, Option}
use Rattle.walk.specs.Walks.{all}
use Rattle.walk.specs.Cases.{All}
use Rattle.walk.specs.Labelled.{RightAlone}
use Rattle.walk.proofs.CaseTests.{differ}
use Rattle.walk.proofs.EveryRow.{every_row}
use Rattle.walk.proofs.LabelledTrue.{right_alone}
use Rattle.sheet.specs.Sheet.{printed}
use Rattle.sheet.specs.FareSheet.{printed as fare-printed}
use Rattle.sheet.specs.RefusedLines.{input_a, line_a, wrong_lines, Prints, LinesRefused, fare_input_a, text_a, wrong_texts, FarePrints, TextsRefused}
use Rattle.sheet.proofs.Determined.{sheet_determined}
use Rattle.sheet.proofs.FareDetermined.{fare_sheet_determined}
use Rattle.sheet.proofs.BookALine.{says_a, line_a_lem}
use Rattle.sheet.proofs.BookAFare.{fare_says_a, text_a_lem}

same_front : (one other xs ys : List ℕ) → length one ≡ length other → one ++ xs ≡ other ++ ys → one ≡ other
same_front [] [] xs ys h e = refl
same_front [] (b ∷ others) xs ys h e = absurd (omega arith)
same_front (a ∷ rest) [] xs ys h e = absurd (omega arith)
same_front (a ∷ rest) (b ∷ others) xs ys h e = ap₂ ◌∷◌ (cc) (same_front rest others xs ys (omega arith) (cc))

-- what stands at the front of a text is told by the answer and by what is left in the text
bytes_one : (one other xs ys : List ℕ) → ◌≡◌ {A = Option ℕ} (Some (length one)) (Some (length other)) → one ++ xs ≡ other ++ ys → one ≡ other
bytes_one one other xs ys answer after = same_front one other xs ys (cc) after

-- where one text alone is printed, others are refused
bytes_refused : (Prints : List ℕ → Type 0) → ((one other : List ℕ) → Prints one → Prints other → one ≡ other) → (right : List ℕ) → Prints right
    → (claims : List (List ℕ)) → all (map (λ claimed. differ claimed right) claims) ≡ true → All (RightAlone Prints right) claims
bytes_refused Prints one_only right allowed =
    every_row (RightAlone Prints right) (λ claimed. differ claimed right) (λ claimed. right_alone Prints (λ bytes. bytes) one_only right claimed allowed)

lines_one : (text one other : List ℕ) → Prints text one → Prints text other → one ≡ other
lines_one text one other a b =
    let (answer, after) = sheet_determined input_a text _ _ _ _ a b in
    bytes_one one other _ _ answer after

pub lines_refused : LinesRefused
lines_refused text room = bytes_refused (Prints text) (lines_one text) line_a (printed room _ says_a (rw (line_a_lem)) (rw (line_a_lem))) wrong_lines refl

texts_one : (text one other : List ℕ) → FarePrints text one → FarePrints text other → one ≡ other
texts_one text one other a b =
    let (answer, after) = fare_sheet_determined fare_input_a text _ _ _ _ a b in
    bytes_one one other _ _ answer after

pub texts_refused : TextsRefused
texts_refused text room = bytes_refused (FarePrints text) (texts_one text) text_a (fare-printed room _ fare_says_a (rw (text_a_lem)) (rw (text_a_lem))) wrong_texts refl
