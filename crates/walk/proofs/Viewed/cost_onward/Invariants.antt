-- So far the walk is permitted, with the figures so far.
use Rattle.std.proofs.Common.{◌+◌, ◌∷◌}
use Rattle.walk.specs.View.{view_in}
use Rattle.walk.proofs.GivenWalks.{Along}
use Rattle.walk.proofs.Viewed.cost_onward.Given as goal

abbrev pub invariant-loop-number : goal.invariant-loop-number
invariant-loop-number l = Along (view_in l.self) ((view_in l.self).from l.fn.first.0) (l.fn.first.0 ∷ l.rest) l.last.0 l.before l.split (l.number-index + 1)
