-- The search of the edited book leaves its true labels, and what differs from those kept is counted.
use Rattle.std.proofs.Common.{subst, sym}
use Rattle.search.specs.steps.Tables.{Sized}
use Rattle.edit.proofs.NewLabels.{passed, turns_beside, links_beside, relabelled}
use Rattle.edit.proofs.editing.relabel.Goals as goal

pub write_walk-requires : goal.write_walk-requires
write_walk-requires c =
    let known = passed _ _ _ _ _ _ _ c.requires.asked in
    (known.checked, known.listed)

pub count_differing-requires : goal.count_differing-requires
count_differing-requires c = subst (Sized _) (sym c.lent.ensures) (turns_beside _ _ _ _ _ _ _ c.requires.asked _ c.write_walk.ensures _ _ _ c.search.ensures.searched _ _ c.requires.turns_kept c.requires.links_kept)

pub count_differing-requires-2 : goal.count_differing-requires-2
count_differing-requires-2 c = subst (Sized _) (sym c.lent-2.ensures) (links_beside _ _ _ _ _ _ _ c.requires.asked _ c.write_walk.ensures _ _ _ c.search.ensures.searched _ _ c.requires.turns_kept c.requires.links_kept)

pub returns-clause-relabelled : goal.returns-clause-relabelled
returns-clause-relabelled c = relabelled _ _ _ _ _ _ _ c.requires.asked _ c.write_walk.ensures _ _ _ c.search.ensures.searched _ _ c.requires.turns_kept c.requires.links_kept _ _ (rw c.lent.ensures at c.count_differing.ensures) (rw c.lent-2.ensures at c.count_differing-2.ensures)
