-- The derived order is the definition's.
use Rattle.std.proofs.Common.{◌∙◌, ltb, eqb}
use Rattle.search.proofs.DerivedOrder.{by_fields}
use Rattle.search.specs.steps.Tables.{goes_ahead}
use Rattle.search.proofs.Label.goes_ahead.Goals as goal

pub returns : goal.returns
unfolding goes_ahead
returns c = c.lt.ensures ∙ by_fields (ltb c.args.self.cost c.args.other.cost) (eqb c.args.self.cost c.args.other.cost) (ltb c.args.self.links c.args.other.links) (eqb c.args.self.links c.args.other.links) (ltb c.args.self.back c.args.other.back) (eqb c.args.self.back c.args.other.back)
