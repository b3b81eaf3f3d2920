-- The judge's answer is one case of the contract, and what follows a true answer is the other.
use Rattle.std.proofs.Common.{refl}
use Rattle.search.proofs.RouteLaws.{not_so, so}
use Rattle.edit.specs.Edit.{untrue, done}
use Rattle.edit.proofs.Tested.{edit_passed}
use Rattle.edit.proofs.editing.edit_judged.Goals as goal

pub carry-checked-requires : goal.carry-checked-requires
carry-checked-requires c = (edit_passed _ _ _ _ _ _ _ c.requires).checked

pub labels_true-requires : goal.labels_true-requires
labels_true-requires c =
    let known = edit_passed _ _ _ _ _ _ _ c.requires in
    record {
      turns_sized = rw (c.carry-checked.ensures.counts, c.lent.ensures) known.turns_sized;
      links_sized = rw (c.carry-checked.ensures.counts, c.lent-2.ensures) known.links_sized;
    }

pub returns-then-not-labels_true-clause-edited : goal.returns-then-not-labels_true-clause-edited
returns-then-not-labels_true-clause-edited c = untrue _ c.requires (not_so c.labels_true.result (rw (c.carry-checked.ensures.bytes, c.carry-checked.ensures.counts, c.lent.ensures, c.lent-2.ensures) at c.labels_true.ensures) c.if-not-labels_true.true) refl refl refl refl

pub edit_on-requires : goal.edit_on-requires
edit_on-requires c = record { tested = c.requires; labels = so c.labels_true.result (rw (c.carry-checked.ensures.bytes, c.carry-checked.ensures.counts, c.lent.ensures, c.lent-2.ensures) at c.labels_true.ensures) c.if-not-labels_true.false }

pub returns-clause-edited : goal.returns-clause-edited
returns-clause-edited c =
    let labels = so c.labels_true.result (rw (c.carry-checked.ensures.bytes, c.carry-checked.ensures.counts, c.lent.ensures, c.lent-2.ensures) at c.labels_true.ensures) c.if-not-labels_true.false in
    let edited = c.edit_on.ensures.relabelled in
    done _ c.requires labels edited.written edited.labels edited.counted
