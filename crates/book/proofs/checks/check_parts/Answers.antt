-- Each scan that finds nothing hands the answer to the next table; the first that does gives its refusal.
use Rattle.std.proofs.Common.{rules, ◌∙◌, refl}
use Rattle.std.proofs.lemmas.Result.{err_from_is_err_and}
use Rattle.book.specs.Check.{tables_of}
use Rattle.book.specs.declared.Refusal.TheVariants.{Line, Link, Turn, Pair}
use Rattle.book.proofs.Answers.{bad_table, clean_table}
use Rattle.book.proofs.checks.check_parts.Goals as goal

pub returns-in_err-scan : goal.returns-in_err-scan
unfolding tables_of
returns-in_err-scan c =
    let p = err_from_is_err_and c.from_residual.result c.from_residual.ensures.1 in
    rw (p.1, p.2) (bad_table _ Line _ _ (c.in_err-scan.ensures Line _ (search rules) (search rules)) refl)

pub returns-in_err-scan-2 : goal.returns-in_err-scan-2
unfolding tables_of
returns-in_err-scan-2 c =
    let p = err_from_is_err_and c.from_residual-in_err-scan-2.result c.from_residual-in_err-scan-2.ensures.1 in
    rw (p.1, p.2) (bad_table _ Link _ _ (c.in_err-scan-2.ensures Link _ (search rules) (search rules)) refl ∙ clean_table _ Line _ _ (c.in_ok-scan.ensures Line _ (search rules) (search rules)) refl)

pub returns-in_err-scan-3 : goal.returns-in_err-scan-3
unfolding tables_of
returns-in_err-scan-3 c =
    let p = err_from_is_err_and c.from_residual-in_err-scan-3.result c.from_residual-in_err-scan-3.ensures.1 in
    rw (p.1, p.2) (bad_table _ Turn _ _ (c.in_err-scan-3.ensures Turn _ (search rules) (search rules)) refl ∙ clean_table _ Link _ _ (c.in_ok-scan-2.ensures Link _ (search rules) (search rules)) refl ∙ clean_table _ Line _ _ (c.in_ok-scan.ensures Line _ (search rules) (search rules)) refl)

pub returns-in_err-scan-4 : goal.returns-in_err-scan-4
unfolding tables_of
returns-in_err-scan-4 c =
    let p = err_from_is_err_and c.from_residual-in_err-scan-4.result c.from_residual-in_err-scan-4.ensures.1 in
    rw (p.1, p.2) (bad_table _ Pair _ _ (c.in_err-scan-4.ensures Pair _ (search rules) (search rules)) refl ∙ clean_table _ Turn _ _ (c.in_ok-scan-3.ensures Turn _ (search rules) (search rules)) refl ∙ clean_table _ Link _ _ (c.in_ok-scan-2.ensures Link _ (search rules) (search rules)) refl ∙ clean_table _ Line _ _ (c.in_ok-scan.ensures Line _ (search rules) (search rules)) refl)

pub returns : goal.returns
unfolding tables_of
returns c = clean_table _ Pair _ _ (c.in_ok-scan-4.ensures Pair _ (search rules) (search rules)) refl ∙ clean_table _ Turn _ _ (c.in_ok-scan-3.ensures Turn _ (search rules) (search rules)) refl ∙ clean_table _ Link _ _ (c.in_ok-scan-2.ensures Link _ (search rules) (search rules)) refl ∙ clean_table _ Line _ _ (c.in_ok-scan.ensures Line _ (search rules) (search rules)) refl
