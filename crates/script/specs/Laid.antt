-- The route buffer and the fares on the desk.
use Rattle.std.specs.Prelude.{ℕ, List, take, replicate}
use Rattle.script.specs.declared.figures.TheConstants.{LENT_ROOM}
use Rattle.script.specs.declared.laid.RouteBuffer.{RouteBuffer}
use Rattle.script.specs.declared.laid.Fares.{Fares}

-- the links that are lent
abbrev pub links_lent_in : RouteBuffer → List ℕ
links_lent_in buffer = take buffer.room buffer.links

-- the buffer with another room lent
abbrev pub with_room : RouteBuffer → ℕ → RouteBuffer
with_room buffer room = record buffer { room = room }

-- a buffer of noughts, all of it lent
abbrev pub no_route : RouteBuffer
no_route = record { links = replicate LENT_ROOM 0; room = LENT_ROOM }

-- the fare table
abbrev pub fare_table : Fares → List ℕ
fare_table fares = take fares.count fares.table
