use Rattle.std.proofs.Common.{◌≡◌, take}
use Rattle.script.proofs.laid.Fares.take.Given as goal

-- the figures so far stand in the table, and the three terms stay
abbrev pub invariant-loop-at : goal.invariant-loop-at
invariant-loop-at l = record {
  figures : take l.at l.self.table ≡ take l.at l.table;
  basic_distance : l.self.basic_distance ≡ l.initial.self.basic_distance;
  step : l.self.step ≡ l.initial.self.step;
  premium : l.self.premium ≡ l.initial.self.premium;
}
