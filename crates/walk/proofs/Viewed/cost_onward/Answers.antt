-- So far the walk is permitted, with the figures so far.
use Rattle.std.proofs.Common.{arith, ◌∷◌}
use native.Mathlib.Numerals.{add-one}
use Rattle.walk.proofs.GivenWalks.{set_out, arrived, barred_on, goes_on}
use Rattle.walk.proofs.Viewed.cost_onward.Goals as goal

pub loop-number-init : goal.loop-number-init
loop-number-init c = set_out c.args.self.book.bytes.now c.args.self.book.counts c.args.self.walks.now c.args.self.book.good c.requires.own (c.args.first.0 ∷ c.args.rest.now) _ (omega arith) c.requires.begins c.link_split-split.ensures

pub returns-in_default : goal.returns-in_default
returns-in_default c = barred_on c.args.self.book.bytes.now c.args.self.book.counts c.args.self.walks.now c.args.self.book.good c.requires.own (c.args.first.0 ∷ c.args.rest.now) _ c.loop-number.invariant (omega (arith, c.loop-number-test.true)) (rw add-one) c.advance.ensures c.in_default.is

pub together-split-requires : goal.together-split-requires
together-split-requires c =
    let (more, along) = goes_on c.args.self.book.bytes.now c.args.self.book.counts c.args.self.walks.now c.args.self.book.good c.requires.own (c.args.first.0 ∷ c.args.rest.now) _ c.loop-number.invariant (omega (arith, c.loop-number-test.true)) (rw add-one) c.advance.ensures c.in-Some.is in
    omega (arith, c.loop-number.invariant.limit, c.requires.few_links)

pub loop-number-preserved : goal.loop-number-preserved
loop-number-preserved c = rw c.together-split.ensures (goes_on c.args.self.book.bytes.now c.args.self.book.counts c.args.self.walks.now c.args.self.book.good c.requires.own (c.args.first.0 ∷ c.args.rest.now) _ c.loop-number.invariant (omega (arith, c.loop-number-test.true)) (rw add-one) c.advance.ensures c.in-Some.is).1

pub total-requires : goal.total-requires
total-requires c = omega (arith, c.loop-number.invariant.limit, c.loop-number.invariant.within, c.requires.few_links)

pub returns : goal.returns
returns c = rw c.total.ensures (arrived c.args.self.book.bytes.now c.args.self.book.counts c.args.self.walks.now c.args.self.book.good c.requires.own (c.args.first.0 ∷ c.args.rest.now) _ c.loop-number.invariant (omega (arith, c.loop-number-test.false)))
