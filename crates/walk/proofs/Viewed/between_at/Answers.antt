-- Each test of the code is the test of the definition.
use Rattle.std.proofs.Common.{sym, ap, ◌∙◌, ℕ}
use lib.Dec.{eqb}
use borrow.Author.Tests.{lt-ltb, le-ltb}
use Rattle.walk.specs.Walks.{look_up}
use Rattle.walk.specs.steps.Pairs.{listed_at}
use Rattle.walk.proofs.Viewed.between_at.Goals as goal
use Rattle.walk.proofs.Viewed.between_at.Goals.{else-at-to-via-then-at-to+else-eq, else-at-to-via-else-at-to}

pub returns-then-eq : goal.returns-then-eq
unfolding listed_at look_up
returns-then-eq c = rw (lt-ltb _ _ c.if-at-to.true, sym (ap (λ (s : ℕ). eqb s c.args.turn.0) c.pair_second.ensures) ∙ sym c.eq.ensures ∙ c.if-eq.true, ← c.pair_extra.ensures) c.listed.ensures

pub returns : goal.returns
unfolding listed_at
returns c =
    elim c.else-at-to.branch [
      | else-at-to-via-then-at-to+else-eq w ↦ rw (lt-ltb _ _ w.if-at-to.true, sym (ap (λ (s : ℕ). eqb s c.args.turn.0) w.pair_second.ensures) ∙ sym w.eq.ensures ∙ w.if-eq.false) (rw (c.from.ensures, c.from-2.ensures) at c.unlisted.ensures)
      | else-at-to-via-else-at-to w ↦ rw (le-ltb _ _ w.if-at-to.false) (rw (c.from.ensures, c.from-2.ensures) at c.unlisted.ensures)
    ]
