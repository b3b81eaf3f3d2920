-- The order that is derived field by field is that of cost, then links, then back.
use Rattle.std.proofs.Common.{◌≡◌, refl, Bool, true, false, Ordering, Less, Equal, Greater}
use mathlib.Core.Bool.{◌&&◌, ◌||◌}
use Rattle.std.specs.Prelude.{cond, Option, Some}
use Rattle.std.specs.Ordering.{is_lt, is_some_and, partial_ordering_then}

abbrev compared : Bool → Bool → Option Ordering
compared less same = Some (cond less Less (cond same Equal Greater))

pub by_fields : (a b c d e f : Bool) → is_some_and is_lt (partial_ordering_then (compared a b) (partial_ordering_then (compared c d) (compared e f))) ≡ (a || b && (c || d && e))
by_fields true b c d e f = refl
by_fields false false c d e f = refl
by_fields false true true d e f = refl
by_fields false true false false e f = refl
by_fields false true false true true f = refl
by_fields false true false true false true = refl
by_fields false true false true false false = refl
