-- One step of label setting: turn u is settled at key k and offers every turn that may follow it one step more.
use Rattle.std.specs.Prelude.{Bool, ℕ}
use Rattle.std.proofs.Math.Option.{some}
use Rattle.walk.specs.steps.Net.{Net, Back, via, Entry, Table}
use Rattle.walk.specs.steps.Sweep.{when, offer}

abbrev pub settle_to : (K : Type 0) → (K → Back → K → Back → Bool) → Net K → Table K → ℕ → K → ℕ → Entry K
settle_to K ahead N tab u k t = offer K ahead (tab t) (when (N.follows u t) (some (N.extend u t k))) (via u)
