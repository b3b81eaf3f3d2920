-- The entries that pass the filter are those that differ.
use borrow.Author.Tests.{tests}
use mathlib.Core.Bool.{not}
use Rattle.std.proofs.Common.{rules, arith, ℕ, ◌≡◌, ◌∙◌}
use Rattle.std.proofs.lemmas.Iterator.{YieldsList-from_slice}
use Rattle.std.proofs.lemmas.Iterator.Consumers.{count_from_yields_List, YieldsList-from_filter, YieldsList-from_enumerate}
use Rattle.std.specs.Prelude.{length}
use Rattle.walk.specs.Counting.{same_entry, differing}
use Rattle.walk.specs.Labels.{entry_at}
use Rattle.search.specs.declared.Label.{Label}
use Rattle.search.specs.Lent.{labels_in}
use Rattle.search.specs.steps.Tables.{as_entry}
use Rattle.edit.specs.steps.KeptLabels.{kept_at}
use Rattle.edit.proofs.Counted.{all_passed}
use Rattle.edit.proofs.counting.count_differing.Goals as goal

pub returns : goal.returns
returns c =
    let counted : c.count.result ≡ differing (kept_at c.args.kept.now) (entry_at (labels_in c.args.labels)) (length c.args.kept.now) =
    count_from_yields_List _ _ c.count.ensures.ran
    (YieldsList-from_filter _ (λ (p : ℕ × Label). not (same_entry (as_entry p.1) (entry_at (labels_in c.args.labels) p.0))) (YieldsList-from_enumerate (YieldsList-from_slice c.args.kept.now (cc)) (cc)) c.filter.ensures.closure (λ x b q k. search (rules, tests)))
    ∙ all_passed (labels_in c.args.labels) c.args.kept.now in
    omega (arith, counted)
