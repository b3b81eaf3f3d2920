-- The entries passed are kept.
use Rattle.std.proofs.Common.{rules, refl}
use Rattle.edit.proofs.KeptSoFar.{none_kept, one_kept, all_kept}
use Rattle.edit.proofs.keeping.keep_table.Goals as goal

pub loop-entry-init : goal.loop-entry-init
loop-entry-init c = none_kept _ _ _ refl

pub loop-entry-preserved : goal.loop-entry-preserved
loop-entry-preserved c = one_kept _ _ _ _ _ (search rules) c.at.ensures c.loop-entry.invariant

pub returns : goal.returns
returns c = all_kept _ _ _ _ (search rules) c.loop-entry.invariant
