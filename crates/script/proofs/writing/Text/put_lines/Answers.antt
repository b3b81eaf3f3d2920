-- Each byte puts its own part behind the text, and the rest still stands to come.
use Rattle.std.proofs.Common.{List, ℕ, ◌+◌, ◌++◌, ◌==◌, ◌∙◌, ap, arith, drop, get_or, sym, take}
use Rattle.std.proofs.lemmas.Bool.{eq-eqb, ne_eqb}
use Rattle.std.proofs.lemmas.List.{length-take}
use Rattle.script.proofs.TextLaws.{sign_put, no_sign_put, byte_put, no_byte_put, joined_next, joined_end, put_none}
use Rattle.script.specs.Texts.{byte_of_line, joined_after, text_in}
use Rattle.script.specs.declared.writing.TheConstants.{TEXT_ROOM}
use Rattle.script.proofs.writing.Text.put_lines.Goals as goal
use Rattle.script.proofs.writing.Text.put_lines.Goals.{then-ended, else-ended, then-not-ended, else-not-ended}

pub loop-byte-preserved : goal.loop-byte-preserved
loop-byte-preserved c =
    let byte = get_or c.args.lines.now c.loop-byte.byte-index 0 in
    let rest = joined_after (byte == 10) (drop (c.loop-byte.byte-index + 1) c.args.lines.now) in
    elim c.if-not-ended.branch [
      | then-not-ended w ↦ byte_put TEXT_ROOM byte (text_in c.if-ended.self) (text_in c.if-not-ended.self) rest
          (ne_eqb byte 10 w.if-not-ended.true) (ap text_in w.self-is ∙ w.put_byte.ensures)
      | else-not-ended w ↦ no_byte_put TEXT_ROOM byte (text_in c.if-ended.self) (text_in c.if-not-ended.self) rest
          (eq-eqb byte 10 w.if-not-ended.false) (ap text_in w.self-is)
    ]
    ∙ elim c.if-ended.branch [
      | then-ended w ↦ sign_put TEXT_ROOM c.loop-byte.ended (text_in c.loop-byte.self) (text_in c.if-ended.self)
          (byte_of_line byte ++ rest) w.if-ended.true (ap text_in w.self-is ∙ w.put.ensures)
      | else-ended w ↦ no_sign_put TEXT_ROOM c.loop-byte.ended (text_in c.loop-byte.self) (text_in c.if-ended.self)
          (byte_of_line byte ++ rest) w.if-ended.false (ap text_in w.self-is)
    ]
    ∙ ap (λ (part : List ℕ). take TEXT_ROOM (text_in c.loop-byte.self ++ part))
    (sym (joined_next c.loop-byte.ended c.args.lines.now c.loop-byte.byte-index (omega arith)))
    ∙ c.loop-byte.invariant

pub returns : goal.returns
returns c =
    put_none TEXT_ROOM (text_in c.loop-byte.self)
    (omega (arith, length-take c.loop-byte.self.length c.loop-byte.self.bytes))
    ∙ ap (λ (part : List ℕ). take TEXT_ROOM (text_in c.loop-byte.self ++ part))
    (sym (joined_end c.loop-byte.ended c.args.lines.now c.loop-byte.byte-index (omega arith)))
    ∙ c.loop-byte.invariant
