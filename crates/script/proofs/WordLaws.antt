-- A line's first word ends at its first blank, or it is the whole line.
use Rattle.std.proofs.Common.{◌≡◌, ℕ, Bool, true, false, Option, Some, None, List, length, take, ltb, cond, ap, sym, refl, arith}
use Rattle.std.specs.List.{before_first, position_or_len}
use Rattle.std.proofs.lemmas.List.{take_all}
use Rattle.std.proofs.lemmas.Bool.{ltb-false}
use Rattle.script.specs.Words.{is_blank_byte}

-- where the first blank is found, if one is
abbrev pub first_blank : List ℕ → Option ℕ
first_blank line = cond (ltb (position_or_len is_blank_byte line) (length line)) (Some (position_or_len is_blank_byte line)) None

same : (b : Bool) (n at : ℕ) → cond b (Some n) None ≡ Some at → at ≡ n
same true n at e = grind (arith, e)
same false n at e = grind (arith, e)

past : (b : Bool) (n : ℕ) → cond b (Some n) None ≡ None → b ≡ false
past true n e = grind (arith, e)
past false n e = refl

pub word_to : (line : List ℕ) (at : ℕ) → first_blank line ≡ Some at → take at line ≡ before_first is_blank_byte line
word_to line at e = ap (λ (n : ℕ). take n line) (same _ _ at e)

pub whole_word : (line : List ℕ) → first_blank line ≡ None → line ≡ before_first is_blank_byte line
whole_word line e =
    let none : ltb (position_or_len is_blank_byte line) (length line) ≡ false = past _ (position_or_len is_blank_byte line) e in
    sym (take_all (position_or_len is_blank_byte line) line (ltb-false _ _ none))
