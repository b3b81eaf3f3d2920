-- Every link passed has stood its test.
use Rattle.std.proofs.Common.{rules}
use Rattle.search.proofs.EveryBelow.{one_failed}
use Rattle.search.proofs.judging.Judge.links_stand.Goals as goal

pub returns-then-not-link_stands : goal.returns-then-not-link_stands
returns-then-not-link_stands c = one_failed _ _ _ (search rules) c.link_stands.ensures c.if-not-link_stands.true
