-- The starts are those of this origin, so the end is true of it.
use Rattle.search.proofs.settling.label_turns.Goals as goal

pub returns-clause-labelled : goal.returns-clause-labelled
returns-clause-labelled c = c.settle_all.ensures.settled c.args.origin.0 c.start_turns.ensures.started
