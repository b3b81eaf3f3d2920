-- The metres of the links passed and of those left are all metres.
use Rattle.std.proofs.Common.{◌≡◌, ◌+◌, ◌≤◌, drop}
use Prim.Native.Nat.{◌*◌}
use Rattle.fare.specs.Fares.{metres_in, most_metres}
use Rattle.fare.specs.Fare.{ridden}
use Rattle.fare.proofs.reckoning.CheckedFares.metres_ridden.Given as goal

abbrev pub invariant-loop-link : goal.invariant-loop-link
invariant-loop-link l = ((ridden (metres_in l.self.fares.table.now) l.links).0 ≡ l.metres.0 + (ridden (metres_in l.self.fares.table.now) (drop l.link-index l.links)).0) × (l.metres.0 ≤ most_metres * l.link-index)
