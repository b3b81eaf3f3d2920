use Rattle.std.proofs.Common.{◌≡◌, ◌++◌, false, drop}
use Rattle.script.specs.Texts.{joined_after, text_in, within_room}
use Rattle.script.proofs.writing.Text.put_lines.Given as goal

-- with what the bytes that are left put behind it, the text is the whole one
abbrev pub invariant-loop-byte : goal.invariant-loop-byte
invariant-loop-byte l =
    within_room (text_in l.self ++ joined_after l.ended (drop l.byte-index l.lines))
    ≡ within_room (text_in l.initial.self ++ joined_after false l.lines)
