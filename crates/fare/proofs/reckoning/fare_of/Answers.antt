-- No sum is too large for 64 bits, since a good table and at most 65,535 links bound the metres.
use Rattle.std.proofs.Common.{sym, arith}
use Rattle.std.proofs.lemmas.Bool.Decides.{nat_tests}
use Rattle.walk.specs.View.{view_of}
use Rattle.fare.specs.Fares.{fares_of}
use Rattle.fare.proofs.FareLaws.{limited_fares, fare_some, premiums_held, sum_held}
use Rattle.fare.proofs.reckoning.fare_of.Goals as goal

pub times-premiums-requires : goal.times-premiums-requires
times-premiums-requires c = rw (c.started_steps.ensures, c.beyond-metres.ensures, c.metres_ridden.ensures) (premiums_held _ _ (limited_fares _ _ _ _ c.args.book.good c.requires.good) c.args.links.now c.requires.given.exist c.requires.given.few)

pub plus-requires : goal.plus-requires
plus-requires c = rw (c.dearest_basic.ensures, c.times-premiums.ensures, c.started_steps.ensures, c.beyond-metres.ensures, c.metres_ridden.ensures) (sum_held _ _ (limited_fares _ _ _ _ c.args.book.good c.requires.good) c.args.links.now c.requires.given.exist c.requires.given.few)

pub returns : goal.returns
returns c = rw (c.plus.ensures, c.dearest_basic.ensures, c.times-premiums.ensures, c.started_steps.ensures, c.beyond-metres.ensures, c.metres_ridden.ensures) (sym (fare_some (fares_of (view_of c.args.book.bytes.now c.args.book.counts) c.args.fares.table.now c.args.fares.terms) c.args.links.now (grind (arith, nat_tests))))
