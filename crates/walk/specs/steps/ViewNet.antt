-- A view from one origin as a net of turns: document 01's cost and number of links are the key.
use Rattle.std.specs.Prelude.{ℕ, suc, ◌+◌, Bool, true, false, not, ◌&&◌, eqb}
use Rattle.book.specs.Entries.{barred}
use Rattle.walk.specs.View.{View}
use Rattle.walk.specs.Walks.{between, allowed, seconds}
use Rattle.walk.specs.steps.Costs.{link_cost, turn_cost}
use Rattle.walk.specs.Labels.{Key, Less, Entry, start_back, no_entry}
use Rattle.walk.specs.steps.Net.{Net, Back, start, via, Entry as Reached, unreached, reached}

abbrev pub is_open : View → ℕ → Bool
is_open U t = not (eqb (U.walk t) barred)

abbrev pub may_follow : View → ℕ → ℕ → Bool
may_follow U p t = eqb (U.second p) (U.first t) && (is_open U t && allowed (between U p t))

abbrev pub key : ℕ → ℕ → Key
key cost links = record { cost = cost; links = links }

abbrev pub net : View → ℕ → Net Key
net U r =
    record {
      lt = Less;
      size = λ k. k.links;
      links = U.links;
      turns = U.turns;
      first = U.first;
      second = U.second;
      leaves = λ l. eqb (U.from l) r;
      alone = λ l. key (link_cost U l) 1;
      begins = λ t. is_open U t && eqb (U.from (U.first t)) r;
      begin = λ t. key (link_cost U (U.first t) + turn_cost U t) 2;
      follows = may_follow U;
      extend = λ p t k. key (k.cost + (seconds (between U p t) + turn_cost U t)) (suc k.links);
      empty = key 0 0;
      enters = U.to;
    }

-- an entry of the net as the three numbers that stand in the buffers
abbrev pub back_number : Back → ℕ
back_number start = start_back
back_number (via p) = p

abbrev pub figures : Reached Key → Entry
figures unreached = no_entry
figures (reached k back) = record { cost = k.cost; links = k.links; back = back_number back }

-- three numbers of the buffers as an entry of the net
abbrev pub unless_none : Bool → Reached Key → Reached Key
unless_none true entry = unreached
unless_none false entry = entry

abbrev pub backed : Bool → ℕ → Back
backed true p = start
backed false p = via p

unfoldable pub is_none : Entry → Bool
is_none e = eqb e.cost no_entry.cost && (eqb e.links no_entry.links && eqb e.back no_entry.back)

unfoldable pub reading : Entry → Reached Key
reading e = unless_none (is_none e) (reached (key e.cost e.links) (backed (eqb e.back start_back) e.back))
