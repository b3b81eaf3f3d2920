-- The edit's own buffers, cut to the book's counts, keep the labels; what was lent keeps its length.
use Rattle.std.proofs.Common.{sym, subst}
use lib.Seq.{length-take-le}
use Rattle.book.proofs.GoodBook.{good_book}
use Rattle.search.specs.steps.Tables.{Sized}
use Rattle.edit.proofs.KeptSoFar.{cut_sized, front_room, front_whole}
use Rattle.edit.proofs.NewLabels.{passed}
use Rattle.edit.proofs.editing.edit_on.Goals as goal

pub slice_bounds-turns_kept-end : goal.slice_bounds-turns_kept-end
slice_bounds-turns_kept-end c = (good_book _ _ (passed _ _ _ _ _ _ _ c.requires).checked).limited.turns

pub slice_bounds-keep_table-end : goal.slice_bounds-keep_table-end
slice_bounds-keep_table-end c = sym (length-take-le _ _ (good_book _ _ (passed _ _ _ _ _ _ _ c.requires).checked).limited.turns)

pub keep_table-requires : goal.keep_table-requires
keep_table-requires c = subst (Sized _) (sym c.lent.ensures) (cut_sized _ _ _ (good_book _ _ (passed _ _ _ _ _ _ _ c.requires).checked).limited.turns (passed _ _ _ _ _ _ _ c.requires).turns_sized)

pub slice_bounds-links_kept-end : goal.slice_bounds-links_kept-end
slice_bounds-links_kept-end c = (good_book _ _ (passed _ _ _ _ _ _ _ c.requires).checked).limited.links

pub slice_bounds-keep_table-end-2 : goal.slice_bounds-keep_table-end-2
slice_bounds-keep_table-end-2 c = sym (length-take-le _ _ (good_book _ _ (passed _ _ _ _ _ _ _ c.requires).checked).limited.links)

pub keep_table-requires-2 : goal.keep_table-requires-2
keep_table-requires-2 c = subst (Sized _) (sym c.lent-2.ensures) (cut_sized _ _ _ (good_book _ _ (passed _ _ _ _ _ _ _ c.requires).checked).limited.links (passed _ _ _ _ _ _ _ c.requires).links_sized)

pub slice_bounds-turns_kept-end-2 : goal.slice_bounds-turns_kept-end-2
slice_bounds-turns_kept-end-2 c = front_room _ _ _ (good_book _ _ (passed _ _ _ _ _ _ _ c.requires).checked).limited.turns _ c.keep_table.ensures

pub slice_bounds-relabel-end : goal.slice_bounds-relabel-end
slice_bounds-relabel-end c = sym (length-take-le _ _ (front_room _ _ _ (good_book _ _ (passed _ _ _ _ _ _ _ c.requires).checked).limited.turns _ c.keep_table.ensures))

pub slice_bounds-links_kept-end-2 : goal.slice_bounds-links_kept-end-2
slice_bounds-links_kept-end-2 c = front_room _ _ _ (good_book _ _ (passed _ _ _ _ _ _ _ c.requires).checked).limited.links _ c.keep_table-2.ensures

pub slice_bounds-relabel-end-2 : goal.slice_bounds-relabel-end-2
slice_bounds-relabel-end-2 c = sym (length-take-le _ _ (front_room _ _ _ (good_book _ _ (passed _ _ _ _ _ _ _ c.requires).checked).limited.links _ c.keep_table-2.ensures))

pub relabel-requires-clause-turns_kept : goal.relabel-requires-clause-turns_kept
relabel-requires-clause-turns_kept c = rw c.lent.ensures at (front_whole _ _ _ (good_book _ _ (passed _ _ _ _ _ _ _ c.requires).checked).limited.turns _ c.keep_table.ensures)

pub relabel-requires-clause-links_kept : goal.relabel-requires-clause-links_kept
relabel-requires-clause-links_kept c = rw c.lent-2.ensures at (front_whole _ _ _ (good_book _ _ (passed _ _ _ _ _ _ _ c.requires).checked).limited.links _ c.keep_table-2.ensures)
