-- Each end of the code is one case of the contract.
use Rattle.std.proofs.Common.{rules, refl}
use Rattle.std.proofs.lemmas.List.{take_rest}
use Rattle.sheet.specs.Sheet.{before_book, short, asked}
use Rattle.sheet.proofs.Plans.{line_said}
use Rattle.sheet.proofs.asking.sheet.Goals as goal

pub returns-then-input-lt-BEFORE_BOOK : goal.returns-then-input-lt-BEFORE_BOOK
returns-then-input-lt-BEFORE_BOOK c = line_said _ _ _ c.put_refusal.ensures refl refl (search rules) c.if-text-lt-LONGEST_LINE.false (short c.if-input-lt-BEFORE_BOOK.true refl)

pub returns : goal.returns
returns c =
    let planned = rw (take_rest c.args.input.now before_book, c.way_of.ensures.origin, c.way_of.ensures.destination) at c.print_book.ensures.planned in
    line_said _ _ _ c.print_book.ensures.put refl refl (search rules) c.if-text-lt-LONGEST_LINE.false (asked c.if-input-lt-BEFORE_BOOK.false planned)
