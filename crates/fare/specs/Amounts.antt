-- Document 02, request 3: won and metres are kept apart. A sum of metres is metres, an amount is won, and neither stands where the other is meant.
use Rattle.std.specs.Prelude.{ℕ, ◌+◌, ◌-◌, ◌*◌, Bool, true, false, ltb}
use Rattle.book.specs.FirstBad.{first_bad}
use Rattle.fare.specs.declared.Won.{Won}
use Rattle.fare.specs.declared.Metres.{Metres}

abbrev pub in_metres : ℕ → Metres
in_metres n = record { 0 = n }

abbrev pub in_won : ℕ → Won
in_won n = record { 0 = n }

abbrev pub together : Metres → Metres → Metres
together one other = in_metres (one.0 + other.0)

-- the metres beyond the basic distance, none up to it
abbrev pub beyond : Metres → Metres → Metres
beyond ridden distance = in_metres (ridden.0 - distance.0)

-- started steps are rounded up: the least number of steps that reaches these metres. A step has at least one metre, so as many steps as metres reach them.
unfoldable pub started_steps : Metres → Metres → ℕ
started_steps metres step = first_bad (λ n. ltb (n * step.0) metres.0) metres.0

abbrev pub or_else : Bool → Won → Won → Won
or_else true one other = one
or_else false one other = other

abbrev pub dearer : Won → Won → Won
dearer one other = or_else (ltb one.0 other.0) other one

abbrev pub plus : Won → Won → Won
plus one other = in_won (one.0 + other.0)

-- a premium for each of so many steps
abbrev pub times : ℕ → Won → Won
times steps premium = in_won (steps * premium.0)

-- what 64 bits hold
abbrev pub largest_held : ℕ
largest_held = 18446744073709551615
