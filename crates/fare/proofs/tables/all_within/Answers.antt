-- A pass over the numbers tells whether all are within their limit.
use borrow.Author.Tests.{tests}
use Rattle.std.proofs.Common.{rules, ◌∙◌}
use Rattle.std.proofs.lemmas.Iterator.{YieldsList-from_slice}
use Rattle.std.proofs.lemmas.Iterator.Search.{all_from_yields_List}
use lib.Dec.{leb}
use Rattle.fare.proofs.GoodFares.{passed_within}
use Rattle.fare.proofs.tables.all_within.Goals as goal

pub returns : goal.returns
returns c = all_from_yields_List (λ n. leb n c.args.most) _ _ _ c.all.ensures.ran (YieldsList-from_slice c.args.numbers.now cc) (λ x b q k. search (rules, tests)) ∙ passed_within c.args.most c.args.numbers.now
