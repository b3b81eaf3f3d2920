-- The entries passed stand at the front of the table.
use Rattle.std.proofs.Common.{rules, refl}
use Rattle.walk.specs.View.{up_to}
use Rattle.walk.proofs.Filling.{one_filled}
use Rattle.sheet.proofs.faring.read_table.Goals as goal

pub loop-k-init : goal.loop-k-init
unfolding up_to
loop-k-init c = refl

pub loop-k-preserved : goal.loop-k-preserved
loop-k-preserved c = one_filled _ _ _ (search rules) c.long_at.ensures c.loop-k.invariant
