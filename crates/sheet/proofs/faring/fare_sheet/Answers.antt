-- Each end of the code is one case of the contract.
use Rattle.std.proofs.Common.{rules, ℕ, ◌+◌, take, drop, refl, ap, ◌∙◌}
use Rattle.sheet.specs.FareSheet.{before_fare_book, short, asked}
use Rattle.sheet.proofs.FareText.{one_line_put, lines_told}
use Rattle.sheet.proofs.FarePlans.{book_part, table_part, text_said, plan_moved}
use Rattle.sheet.proofs.faring.fare_sheet.Goals as goal

pub returns-then-end-lt-BEFORE_FARE_BOOK : goal.returns-then-end-lt-BEFORE_FARE_BOOK
returns-then-end-lt-BEFORE_FARE_BOOK c = text_said _ _ _ (one_line_put _ (short c.if-end-lt-BEFORE_FARE_BOOK.true refl) c.put_refusal.ensures) refl refl (search rules) c.if-text-lt-LONGEST_TEXT.false

pub returns : goal.returns
returns c =
    let book = book_part c.args.input.now _ _ _ c.book_end-middle.ensures ∙ ap (λ (bytes : ℕ). take bytes (drop before_fare_book c.args.input.now)) c.long_at-bytes.ensures in
    let table = table_part c.args.input.now _ _ _ c.book_end-middle.ensures ∙ ap (λ (bytes : ℕ). drop (before_fare_book + bytes) c.args.input.now) c.long_at-bytes.ensures in
    let said = lines_told (λ lines plan. asked c.if-end-lt-BEFORE_FARE_BOOK.false (plan_moved lines book c.way_of.ensures.origin c.way_of.ensures.destination table c.terms_of.ensures plan)) c.print_fare_book.ensures in
    text_said _ _ _ said refl refl (search rules) c.if-text-lt-LONGEST_TEXT.false
