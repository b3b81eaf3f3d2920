-- What a walk's first link and each turn after it add to the four figures, and the figures in an answer.
use Rattle.std.specs.Prelude.{ℕ, ◌+◌, Ok, Err}
use Rattle.walk.specs.declared.Split.{Split}
use Rattle.walk.specs.View.{View}
use Rattle.walk.specs.Walks.{link_wait, turn_wait}
use Rattle.walk.specs.Given.{Answer}

abbrev pub no_split : Split
no_split = record { ride = 0; wait = 0; walk = 0; extra = 0 }

abbrev pub link_split : View → ℕ → Split
link_split U l = record { ride = U.ride l; wait = link_wait U l; walk = 0; extra = 0 }

-- ride and wait of its second link, its walk, and the extra between it and the turn before
abbrev pub turn_split : View → ℕ → ℕ → Split
turn_split U extra t = record { ride = U.ride (U.second t); wait = turn_wait U t; walk = U.walk t; extra = extra }

abbrev pub together : Split → Split → Split
together a b = record { ride = a.ride + b.ride; wait = a.wait + b.wait; walk = a.walk + b.walk; extra = a.extra + b.extra }

-- noughts where the walk has no cost
abbrev pub split_in : Answer → Split
split_in (Err none) = no_split
split_in (Ok costed) = costed.split
