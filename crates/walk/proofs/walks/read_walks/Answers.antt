-- The walks passed are filled.
use Rattle.std.proofs.Common.{rules, refl}
use Rattle.walk.specs.View.{up_to}
use Rattle.walk.proofs.Filling.{one_filled, all_filled}
use Rattle.walk.proofs.walks.read_walks.Goals as goal

pub loop-turn-init : goal.loop-turn-init
unfolding up_to
loop-turn-init c = refl

pub loop-turn-preserved : goal.loop-turn-preserved
loop-turn-preserved c = one_filled _ _ _ (search rules) c.turn_walk.ensures c.loop-turn.invariant

pub returns : goal.returns
returns c = all_filled _ _ _ _ (search rules) (search rules) c.loop-turn.invariant
