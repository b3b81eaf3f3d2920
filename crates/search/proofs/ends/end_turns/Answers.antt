-- The turns passed have offered their figures.
use Rattle.search.proofs.Buffers.{same_self, same_on}
use Rattle.search.proofs.EndedTurns.{none_ended, one_ended, all_ended}
use Rattle.search.proofs.ends.end_turns.Goals as goal

pub loop-turn-init : goal.loop-turn-init
loop-turn-init c = (none_ended c.requires.links_sized, same_self _)

pub end_turn-requires : goal.end_turn-requires
end_turn-requires c = record { turns_sized = (c.requires.turns_sized, c.loop-turn-test.true); links_sized = c.loop-turn.invariant.0.sized }

pub loop-turn-preserved : goal.loop-turn-preserved
loop-turn-preserved c = (one_ended c.loop-turn.invariant.0 c.loop-turn-test.true c.end_turn.ensures.ended, same_on c.loop-turn.invariant.1 c.end_turn.ensures.same)

pub returns : goal.returns
returns c = record { ended = all_ended c.loop-turn.invariant.0 c.loop-turn-test.false; same = c.loop-turn.invariant.1 }
