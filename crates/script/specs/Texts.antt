-- The text of an answer.
use Rattle.std.specs.Prelude.{ℕ, Bool, ◌==◌, if◌then◌else◌, List, [], ◌∷◌, ◌++◌, codes, take}
use Rattle.script.specs.declared.writing.TheConstants.{TEXT_ROOM}
use Rattle.script.specs.declared.writing.Text.{Text}

-- the text's bytes
abbrev pub text_in : Text → List ℕ
text_in text = take text.length text.bytes

-- the text as far as there is room
abbrev pub within_room : List ℕ → List ℕ
within_room bytes = take TEXT_ROOM bytes

-- what stands before a byte: the sign between lines, where a line ended
abbrev pub between_lines : Bool → List ℕ
between_lines ended = if ended then codes " / " else []

-- a byte, unless it ends a line
abbrev pub byte_of_line : ℕ → List ℕ
byte_of_line byte = if byte == 10 then [] else byte ∷ []

-- lines without the last one's end, joined by ` / `, where a line ended before or did not
abbrev pub joined_after : Bool → List ℕ → List ℕ
joined_after ended [] = []
joined_after ended (byte ∷ rest) =
    between_lines ended ++ (byte_of_line byte ++ joined_after (byte == 10) rest)
