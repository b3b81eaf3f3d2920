-- The two ends close in on the first entry of the run.
use Rattle.std.proofs.Common.{rules, arith}
use Rattle.book.proofs.Halving.{whole, upper, lower, met}
use Rattle.book.proofs.runs.run_from.Goals as goal

pub halving-init : goal.halving-init
halving-init c = whole _ _ _

pub halving-preserved-then-first-n : goal.halving-preserved-then-first-n
halving-preserved-then-first-n c = upper _ _ _ c.requires _ _ _ c.halving.invariant (search rules) (search rules) (search rules)

pub halving-preserved : goal.halving-preserved
halving-preserved c = lower _ _ _ c.requires _ _ _ c.halving.invariant (search rules) (search rules) (search rules)

pub returns : goal.returns
returns c = record { value = met _ _ _ _ _ c.halving.invariant (search rules); within = omega (arith, c.halving.invariant.order, c.halving.invariant.within) }
