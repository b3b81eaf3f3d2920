-- Every turn passed has stood its test.
use Rattle.std.proofs.Common.{rules}
use Rattle.search.proofs.EveryBelow.{one_failed}
use Rattle.search.proofs.judging.Judge.turns_stand.Goals as goal

pub returns-then-not-turn_stands : goal.returns-then-not-turn_stands
returns-then-not-turn_stands c = one_failed _ _ _ (search rules) c.turn_stands.ensures c.if-not-turn_stands.true
