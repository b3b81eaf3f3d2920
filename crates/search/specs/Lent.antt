-- Labels lie in lent buffers, three to a table: the table in buffers that are lent for reading, and in those that are lent to be written.
use Rattle.std.specs.Prelude.{◌≡◌}
use Rattle.walk.specs.Labels.{Table, three}
use Rattle.search.specs.declared.Labels.{Labels}
use Rattle.search.specs.declared.LabelsMut.{LabelsMut}

abbrev pub labels_in : Labels → Table
labels_in labels = three labels.cost.now labels.links.now labels.back.now

abbrev pub table_in : LabelsMut → Table
table_in labels = three labels.cost.now labels.links.now labels.back.now

-- the buffers stay the lender's own
pub record SameBuffers (before after : LabelsMut) : Type 0 where
  pub cost : after.cost.ghost_name ≡ before.cost.ghost_name
  pub links : after.links.ghost_name ≡ before.links.ghost_name
  pub back : after.back.ghost_name ≡ before.back.ghost_name
