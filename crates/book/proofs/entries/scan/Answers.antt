-- The entries passed were good.
use Rattle.std.proofs.Common.{◌∙◌, refl, ap, Err}
use Rattle.book.proofs.Scans.{none_passed, one_more, clean, found}
use Rattle.book.proofs.entries.scan.Goals as goal
use Rattle.book.proofs.entries.scan.Goals.{else-entries-test, then-entries-test+then-not-good}

pub entries-init : goal.entries-init
entries-init g c = (refl, λ holds told. none_passed _ _)

pub entries-preserved : goal.entries-preserved
entries-preserved g c = (c.entries.invariant.0, λ holds told. one_more _ _ _ (c.entries.invariant.1 holds told) c.entries-test.true (told _ _ c.entries-test.true c.good.ensures) c.if-not-good.false)

pub returns : goal.returns
returns g c =
    elim c.entries-test.branch [
      | else-entries-test w ↦ λ refusal holds made told. w.found-is ∙ c.entries.invariant.0 ∙ clean _ _ _ (c.entries.invariant.1 holds told) refusal w.entries-test.false
      | then-entries-test+then-not-good w ↦ λ refusal holds made told. w.found-is ∙ ap Err (made _ _ w.refused.ensures) ∙ found _ _ _ (c.entries.invariant.1 holds told) w.entries-test.true (told _ _ w.entries-test.true w.good.ensures) refusal w.if-not-good.true
    ]
