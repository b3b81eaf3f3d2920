-- The table, cut to the counts, has its length.
use Rattle.std.proofs.Common.{sym}
use Rattle.std.proofs.lemmas.List.{length-take-le}
use Rattle.sheet.proofs.FareTables.{table_room}
use Rattle.sheet.proofs.faring.print_fares.Goals as goal

pub slice_bounds-put_fares-end : goal.slice_bounds-put_fares-end
slice_bounds-put_fares-end c = sym (length-take-le _ _ (table_room _ _ c.args.book.good))

pub put_fares-requires-clause-sized : goal.put_fares-requires-clause-sized
put_fares-requires-clause-sized c = length-take-le _ _ (table_room _ _ c.args.book.good)
