-- Buffers that stay the lender's own through two steps stay so through both.
use Rattle.std.proofs.Common.{refl, ◌∙◌}
use Rattle.search.specs.declared.LabelsMut.{LabelsMut}
use Rattle.search.specs.Lent.{SameBuffers}

pub same_self : (lent : LabelsMut) → SameBuffers lent lent
same_self lent = record { cost = refl; links = refl; back = refl }

pub same_on : {one other last : LabelsMut} → SameBuffers one other → SameBuffers other last → SameBuffers one last
same_on a b = record { cost = b.cost ∙ a.cost; links = b.links ∙ a.links; back = b.back ∙ a.back }
