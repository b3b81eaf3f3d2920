-- The fares that were read are good, or 17 is printed; a fare has its room after the longest line.
use Rattle.std.proofs.Common.{arith, refl, sym, ◌∙◌}
use Rattle.sheet.specs.steps.Faring.{bad_fares}
use Rattle.sheet.proofs.FareTables.{read_good, fare_told}
use Rattle.sheet.proofs.FareText.{one_line_put, two_lines_put}
use Rattle.sheet.proofs.LongestText.{fare_fits}
use Rattle.sheet.proofs.faring.put_fares.Goals as goal

pub returns-then-not-read_fares-clause-lines_put : goal.returns-then-not-read_fares-clause-lines_put
returns-then-not-read_fares-clause-lines_put c = one_line_put _ (bad_fares (sym c.read_fares.ensures.tells ∙ c.if-not-read_fares.true) refl) c.put_refusal.ensures

pub fare_of-fare-requires-clause-good : goal.fare_of-fare-requires-clause-good
fare_of-fare-requires-clause-good c = read_good c.requires.sized c.read_fares.ensures c.if-not-read_fares.false

pub put_number-requires : goal.put_number-requires
put_number-requires c = omega (arith, fare_fits c.requires.route c.requires.sized c.read_fares.ensures c.if-not-read_fares.false _ c.fare_of-fare.ensures)

pub returns-clause-lines_put : goal.returns-clause-lines_put
returns-clause-lines_put c = two_lines_put _ _ (fare_told c.requires.sized c.read_fares.ensures c.if-not-read_fares.false _ c.fare_of-fare.ensures) c.print_route.ensures c.put_number.ensures
