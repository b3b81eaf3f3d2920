-- The fare of book A's route from 0 to 3: link 1 is ridden twice, so 17,002 metres begin two steps of 5,000 beyond 10,000, and the dearer of the two lines costs 800.
use mathlib.Core.Path.{◌≡◌, refl, sym}
use mathlib.Core.List.{[], ◌∷◌}
use native.Mathlib.Omega.{arith}
use Rattle.book.specs.Number.{number_at}
use Rattle.book.specs.FirstBad.{first_bad_from}
use Rattle.book.specs.BookA.{counts_a}
use Rattle.walk.specs.View.{up_to, view_of}
use Rattle.walk.specs.RefusedSplits.{loop_a}
use Rattle.search.proofs.RoutesRefused.{route_to_three}
use Rattle.fare.specs.Amounts.{started_steps}
use Rattle.fare.specs.Fares.{fares_of, table_good, terms_good, fares_good}
use Rattle.fare.specs.Fare.{fare_of}
use Rattle.sheet.specs.Line.{decimal_in, decimal, further, line}
use Rattle.sheet.specs.FareSheet.{long_at, terms_of, book_in, table_in, entries_of, bytes_good, done, FareSays, asked, text_of}
use Rattle.sheet.specs.RefusedLines.{fare_input_a, text_a}
use Rattle.sheet.proofs.BookALine.{fields_a, nodes_a, fields_a_lem}

fare_a : (fare_of (fares_of (view_of (book_in fare_input_a) counts_a) (entries_of (table_in fare_input_a)) (terms_of fare_input_a)) loop_a).0 ≡ 1000
unfolding number_at long_at up_to fare_of started_steps first_bad_from
fare_a = refl

pub fare_says_a : FareSays fare_input_a (fields_a ∷ (1000 ∷ []) ∷ [])
unfolding number_at long_at up_to bytes_good fares_good table_good terms_good
fare_says_a = asked (omega arith) (done counts_a nodes_a loop_a route_to_three.route refl (λ i. fields_a_lem i ∷ (sym fare_a i ∷ []) ∷ []))

pub text_a_lem : text_of (fields_a ∷ (1000 ∷ []) ∷ []) ≡ text_a
unfolding text_of line further decimal decimal_in
text_a_lem = refl
