-- The pairs passed were of earlier second turns.
use Rattle.std.proofs.Common.{rules, tests, ◌≡◌, ◌∙◌, ℕ, Bool, true, false}
use Rattle.std.proofs.lemmas.Iterator.{first_from_Range}
use lib.Dec.{ltb}
use Rattle.book.specs.Entries.{pair_second}
use Rattle.book.specs.Tables.{pair_table}
use Rattle.book.proofs.FirstBad.{found_first}
use Rattle.walk.specs.steps.Pairs.{pair_from}
use Rattle.walk.proofs.pairs.pair_from.Goals as goal

pub returns : goal.returns
unfolding pair_from
returns c =
    let earlier : ℕ → Bool = λ k. ltb (pair_second (pair_table c.args.book.bytes.now c.args.book.counts) k) c.args.turn.0 in
    c.unwrap_or.ensures ∙ found_first earlier c.args.from c.args.to c.requires.0 _ (first_from_Range _ _ _ _ (λ k. earlier k ≡ false) (λ k. earlier k ≡ true) c.find.ensures.ran (λ x q k. search (rules, tests)) (λ x q k. (search rules, search (rules, tests))))
