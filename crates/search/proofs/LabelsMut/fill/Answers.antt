-- Whatever entries the labels made are, those passed are filled.
use Rattle.std.proofs.Common.{arith}
use Rattle.search.proofs.Buffers.{same_self, same_on}
use Rattle.search.proofs.TableLaws.{placed_sized, holds_in}
use Rattle.search.proofs.FilledTables.{none_placed, one_placed, all_placed}
use Rattle.search.proofs.LabelsMut.fill.Goals as goal

pub loop-entry-init : goal.loop-entry-init
loop-entry-init g c = (c.requires.sized, (λ entry told. none_placed _ _ _ c.requires.sized), same_self _)

pub place-requires : goal.place-requires
place-requires g c = holds_in c.loop-entry.invariant.0 _ (omega (arith, c.from.ensures, c.loop-entry-test.true))

pub loop-entry-preserved : goal.loop-entry-preserved
loop-entry-preserved g c =
    let stored = rw c.from.ensures at c.place.ensures.placed in
    let told-label = c.label_of-label.ensures in (
      rw stored (placed_sized c.loop-entry.invariant.0 _ _),
      (λ entry told. one_placed _ _ _ _ _ _ c.loop-entry-test.true (told _ _ c.loop-entry-test.true told-label) stored (c.loop-entry.invariant.1 entry told)),
      same_on c.loop-entry.invariant.2 c.place.ensures.same,
    )

pub returns : goal.returns
returns g c = record { filled = λ entry told. all_placed _ _ _ _ c.loop-entry-test.false (c.loop-entry.invariant.1 entry told); same = c.loop-entry.invariant.2 }
