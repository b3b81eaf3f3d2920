-- The followers passed are not overtaken, and the pairs passed are theirs.
use Rattle.search.proofs.NoneOvertaken.{none_yet, none_next, none_at_all, one_overtaken}
use Rattle.search.proofs.judging.Judge.followers_stand.Goals as goal

pub loop-turn-init : goal.loop-turn-init
loop-turn-init c = none_yet
    (record {
      checked = c.args.self.view.book.good;
      link = _;
      leads = c.turn_second-link.ensures.value;
      starts = c.followers-run.ensures.start;
      ends = c.followers-run.ensures.end;
      pairs_start = c.pairs_of-pairs.ensures.start;
      pairs_end = c.pairs_of-pairs.ensures.end;
    })

pub loop-turn-preserved : goal.loop-turn-preserved
loop-turn-preserved c = none_next c.loop-turn.invariant c.pair_from-at.ensures c.loop-turn-test.true c.is_overtaken.ensures c.if-is_overtaken.false

pub returns-then-is_overtaken : goal.returns-then-is_overtaken
returns-then-is_overtaken c = one_overtaken c.loop-turn.invariant c.pair_from-at.ensures c.loop-turn-test.true c.is_overtaken.ensures c.if-is_overtaken.true

pub returns : goal.returns
returns c = none_at_all c.loop-turn.invariant c.loop-turn-test.false
