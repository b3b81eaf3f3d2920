-- The followers before the one in hand have been passed the label, and the pairs before the one in hand are theirs.
use Rattle.std.proofs.Common.{arith}
use Rattle.search.proofs.Buffers.{same_self, same_on}
use Rattle.search.proofs.Spreading.{set_out, goes_on, arrived}
use Rattle.search.proofs.BothRuns.{followers_listed, pairs_listed}
use Rattle.search.proofs.passing.spread.Goals as goal

pub loop-turn-init : goal.loop-turn-init
loop-turn-init c = (
  set_out
      (record {
        checked = c.args.view.book.good;
        link = _;
        leads = c.turn_second-link.ensures.value;
        starts = c.followers-run.ensures.start;
        ends = c.followers-run.ensures.end;
        pairs_start = c.pairs_of-pairs.ensures.start;
        pairs_end = c.pairs_of-pairs.ensures.end;
      })
      c.requires.sized,
  same_self _,
)

pub pair_from-at-requires : goal.pair_from-at-requires
pair_from-at-requires c =
    let both = c.loop-turn.invariant.0.both in
    (both.pairs_within, pairs_listed both.runs)

pub pass-requires : goal.pass-requires
pass-requires c =
    let spreading = c.loop-turn.invariant.0 in
    let listed = followers_listed spreading.both.runs in
    record {
      numbers = (c.requires.fits.0, omega (arith, c.loop-turn-test.true), pairs_listed spreading.both.runs);
      fits = c.requires.fits.1;
      sized = spreading.sized;
    }

pub loop-turn-preserved : goal.loop-turn-preserved
loop-turn-preserved c = (goes_on c.loop-turn.invariant.0 c.pair_from-at.ensures c.pass.ensures.passed c.loop-turn-test.true, same_on c.loop-turn.invariant.1 c.pass.ensures.same)

pub returns : goal.returns
returns c = record { spread = arrived c.loop-turn.invariant.0 c.loop-turn-test.false; same = c.loop-turn.invariant.1 }
