-- What a sheet answers stands whole at the front of the text.
use Prim.Native.Nat.{ℕ, ◌≤◌}
use mathlib.Core.Path.{◌≡◌, ap}
use mathlib.Core.List.{List, ◌++◌}
use native.Mathlib.Omega.{arith}
use lib.ListN.{length, drop, length-append}
use Rattle.std.specs.Prelude.{Some, None, Option}
use Rattle.walk.proofs.theory.Laws.{clash}
use Rattle.sheet.specs.Line.{line}
use Rattle.sheet.specs.Sheet.{longest_line, Sheet, no_room, printed}
use Rattle.sheet.specs.FareSheet.{text_of, longest_text, FareSheet, no_room as fare-no-room, printed as fare-printed}

front_within : (bytes text after : List ℕ) → after ≡ bytes ++ drop (length bytes) text → length bytes ≤ length after
front_within bytes text after e = omega (arith, ap length e, length-append bytes (drop (length bytes) text))

pub line_within : {input text after : List ℕ} {answer : Option ℕ} {end : ℕ} → Sheet input text answer after → answer ≡ Some end → end ≤ length after
line_within (no_room h a b) e = clash (cc)
line_within {text = text} {after = after} {end = end} (printed h fields says a b) e =
    let same : end ≡ length (line fields) = cc in
    omega (arith, front_within (line fields) text after b)

-- a text of the longest line's room is never refused
pub always_room : {input text after : List ℕ} {answer : Option ℕ} → Sheet input text answer after → longest_line ≤ length text → answer ≡ None → ⊥
always_room (no_room h a b) room e = omega arith
always_room (printed h fields says a b) room e = clash (cc)

-- the same of a fare sheet
pub fare_within : {input text after : List ℕ} {answer : Option ℕ} {end : ℕ} → FareSheet input text answer after → answer ≡ Some end → end ≤ length after
fare_within (fare-no-room h a b) e = clash (cc)
fare_within {text = text} {after = after} {end = end} (fare-printed h lines says a b) e =
    let same : end ≡ length (text_of lines) = cc in
    omega (arith, front_within (text_of lines) text after b)

pub fare_always_room : {input text after : List ℕ} {answer : Option ℕ} → FareSheet input text answer after → longest_text ≤ length text → answer ≡ None → ⊥
fare_always_room (fare-no-room h a b) room e = omega arith
fare_always_room (fare-printed h lines says a b) room e = clash (cc)
