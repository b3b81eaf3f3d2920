-- The library's `position` stops at the first blank, where the first word ends.
use Rattle.std.proofs.Common.{◌∙◌, sym, rules}
use Rattle.std.proofs.lemmas.Iterator.{YieldsList-from_slice}
use Rattle.std.proofs.lemmas.Iterator.Search.{position_from_yields_List}
use Rattle.script.specs.Words.{is_blank_byte}
use Rattle.script.proofs.WordLaws.{word_to, whole_word}
use Rattle.script.proofs.words.split_word.Goals as goal

pub returns-in-Some-clause-word : goal.returns-in-Some-clause-word
returns-in-Some-clause-word c =
    word_to c.args.line.now c.in-Some.at
    (sym (position_from_yields_List is_blank_byte _ _ c.position.result c.position.ensures.ran (YieldsList-from_slice _ c.iter.ensures.rest) (λ x b q k. search rules)) ∙ c.in-Some.is)

pub returns-in-None-clause-word : goal.returns-in-None-clause-word
returns-in-None-clause-word c =
    whole_word c.args.line.now
    (sym (position_from_yields_List is_blank_byte _ _ c.position.result c.position.ensures.ran (YieldsList-from_slice _ c.iter.ensures.rest) (λ x b q k. search rules)) ∙ c.in-None.is)
