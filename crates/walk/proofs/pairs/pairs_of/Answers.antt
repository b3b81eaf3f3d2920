-- A run ends where the next one begins.
use Rattle.walk.proofs.Runs.{ends_after}
use Rattle.walk.proofs.pairs.pairs_of.Goals as goal

pub returns-clause-within : goal.returns-clause-within
returns-clause-within c = (ends_after _ _ _ c.pairs_from-start.ensures.value c.pairs_from-end.ensures.value, c.pairs_from-end.ensures.within)
