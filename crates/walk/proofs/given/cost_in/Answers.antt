-- The walks are the book's own, and the tests stand in the definition's order.
use Rattle.std.proofs.Common.{ap, ◌∙◌, length, List, ℕ}
use Rattle.walk.specs.View.{view_with}
use lib.Seq.{take_at}
use borrow.Author.Tests.{le-leb, lt-leb, lt-ltb, le-ltb}
use Rattle.walk.specs.Given.{cost_answer}
use Rattle.walk.specs.steps.Onward.{walk_answer}
use Rattle.walk.proofs.Filling.{up_to_length}
use Rattle.walk.proofs.given.cost_in.Goals as goal

pub returns-then-book-from : goal.returns-then-book-from
unfolding cost_answer
returns-then-book-from c = rw (le-leb _ _ (rw c.from.ensures at c.if-book-from.true))

pub returns-then-links-gt-MOST_LINKS_GIVEN : goal.returns-then-links-gt-MOST_LINKS_GIVEN
unfolding cost_answer
returns-then-links-gt-MOST_LINKS_GIVEN c = rw (lt-leb _ _ (rw c.from.ensures at c.if-book-from.false), lt-ltb _ _ c.if-links-gt-MOST_LINKS_GIVEN.true)

pub returns : goal.returns
unfolding cost_answer walk_answer
returns c = rw (lt-leb _ _ (rw c.from.ensures at c.if-book-from.false), le-ltb _ _ c.if-links-gt-MOST_LINKS_GIVEN.false) (c.cost_along.ensures ∙ ap (λ (seen : List ℕ). walk_answer (view_with c.args.book.bytes.now c.args.book.counts seen) c.args.origin.0 c.args.links.now) (take_at _ _ _ (ap length c.read_walks.ensures ∙ up_to_length _ _) ∙ c.read_walks.ensures))
