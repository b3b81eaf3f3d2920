-- The entries that need no turn before them: a turn whose first link leaves the origin, a link that does.
use Rattle.std.specs.Prelude.{ℕ}
use Rattle.std.proofs.Math.Option.{some}
use Rattle.walk.specs.View.{View}
use Rattle.walk.specs.Labels.{Entry}
use Rattle.walk.specs.steps.Sweep.{when, based}
use Rattle.walk.specs.steps.ViewNet.{net, figures}

unfoldable pub start_entry : View → ℕ → ℕ → Entry
start_entry U r t = figures (based (when ((net U r).begins t) (some ((net U r).begin t))))

unfoldable pub alone_entry : View → ℕ → ℕ → Entry
alone_entry U r l = figures (based (when ((net U r).leaves l) (some ((net U r).alone l))))
