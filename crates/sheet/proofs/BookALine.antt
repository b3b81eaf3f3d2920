-- Document 01's own line, the route of book A from 0 to 3: what the printer says, and byte for byte the line of it.
use Prim.Native.Nat.{ℕ}
use mathlib.Core.Path.{◌≡◌, refl, sym, ap, ◌∙◌}
use mathlib.Core.List.{List, ◌∷◌}
use native.Mathlib.Omega.{arith}
use Rattle.std.specs.Prelude.{Ok, Err}
use Rattle.book.specs.Number.{number_at}
use Rattle.book.specs.BookA.{book_a, counts_a}
use Rattle.book.proofs.BookA.{book_a_good}
use Rattle.walk.specs.View.{view_of}
use Rattle.walk.specs.RefusedSplits.{loop_a}
use Rattle.walk.proofs.SplitsRefused.{loop_splits}
use Rattle.walk.specs.Given.{Answer}
use Rattle.walk.specs.steps.Splits.{split_in}
use Rattle.search.specs.Tests.{node_test, both_nodes}
use Rattle.search.proofs.RouteAccounted.{route_costed}
use Rattle.search.proofs.RoutesRefused.{route_to_three}
use Rattle.sheet.specs.Line.{decimal_in, decimal, further, line}
use Rattle.sheet.specs.Sheet.{fields_of, route_fields, Planned, done, Says, asked}
use Rattle.sheet.specs.RefusedLines.{input_a, line_a}

abbrev pub fields_a : List ℕ
fields_a = 0 ∷ 342 ∷ 230 ∷ 3 ∷ 9 ∷ 100 ∷ 5 ∷ loop_a

pub nodes_a : both_nodes book_a 0 3 ≡ Ok counts_a
unfolding node_test
nodes_a = rw (book_a_good)

abbrev cost_in : Answer → ℕ
cost_in (Ok found) = found.cost
cost_in (Err none) = 0

pub fields_a_lem : fields_a ≡ route_fields (view_of book_a counts_a) loop_a
fields_a_lem = ap (λ (answer : Answer). fields_of (cost_in answer) (split_in answer) loop_a) (sym loop_splits ∙ route_costed book_a 0 3 counts_a nodes_a loop_a route_to_three.route)

planned_a : Planned book_a 0 3 fields_a
planned_a = done counts_a nodes_a loop_a route_to_three.route fields_a_lem

pub says_a : Says input_a fields_a
unfolding number_at
says_a = asked (omega arith) planned_a

pub line_a_lem : line fields_a ≡ line_a
unfolding line further decimal decimal_in
line_a_lem = refl
