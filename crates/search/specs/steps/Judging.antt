-- The judge's tests: an entry is one that its start or its back offers, or none, and nothing that is offered goes ahead of it.
use Rattle.std.specs.Prelude.{ℕ, zero, suc, List, Bool, true, false, not, ◌&&◌, ◌||◌, ltb, leb, eqb, get_or, None, Some, Option}
use Rattle.walk.specs.View.{View}
use Rattle.walk.specs.Labels.{Entry, Table, entry_at, no_entry}
use Rattle.walk.specs.steps.ViewNet.{may_follow, is_none}
use Rattle.search.specs.steps.Tables.{own_label, one_turn_on, stands_as, goes_ahead}
use Rattle.search.specs.steps.Starts.{start_entry, alone_entry}
use Rattle.search.specs.steps.Passing.{onward_to}

-- the test holds of every number below n
unfoldable pub every_below : (ℕ → Bool) → ℕ → Bool
every_below test zero = true
every_below test (suc k) = every_below test k && test k

-- document 01, "Labels": a chosen walk has at most 4,097 links and costs at most 191,728,800; that of a turn has two links or more
unfoldable pub limited : Entry → Bool
limited e = leb 2 e.links && (leb e.links 4097 && leb e.cost 191728800)

-- the label that turn p, of this cost and these links, offers by a step, goes ahead of an entry
abbrev pub overtaken_by : Option ℕ → ℕ → ℕ → ℕ → Entry → Bool
overtaken_by None p cost links e = false
overtaken_by (Some more) p cost links e = goes_ahead (one_turn_on cost links more p) e

-- turn t may follow turn p, and what it is offered goes ahead of its entry
unfoldable pub overtaken : View → ℕ → ℕ → ℕ → Table → ℕ → Bool
overtaken U p cost links turns t = may_follow U p t && goes_ahead (onward_to U p cost links t) (entry_at turns t)

-- the entry e of turn t is what the step of this kind from its back offers
abbrev pub stepped_by : Option ℕ → Entry → Entry → Bool
stepped_by None before e = false
stepped_by (Some more) before e = stands_as e (one_turn_on before.cost before.links more e.back)

-- the entry e of turn t is what its back offers
unfoldable pub back_leads : View → Table → ℕ → Entry → Bool
back_leads U turns t e =
    ltb e.back U.turns
    && (limited (entry_at turns e.back)
    && (may_follow U e.back t && stands_as e (onward_to U e.back (entry_at turns e.back).cost (entry_at turns e.back).links t)))

-- the entry of a reached turn: where it comes from, and that it overtakes neither its link nor its followers
unfoldable pub reached_stands : View → Entry → Table → Table → ℕ → Bool
reached_stands U start turns links t =
    (stands_as (entry_at turns t) start || back_leads U turns t (entry_at turns t))
    && (not (goes_ahead (own_label turns.cost turns.links t) (entry_at links (U.second t)))
    && every_below (λ v. not (overtaken U t (entry_at turns t).cost (entry_at turns t).links turns v)) U.turns)

unfoldable pub turn_stands : View → ℕ → Table → Table → ℕ → Bool
turn_stands U r turns links t =
    not (goes_ahead (start_entry U r t) (entry_at turns t))
    && (is_none (entry_at turns t) || (limited (entry_at turns t) && reached_stands U (start_entry U r t) turns links t))

-- the entry e of link l is that of its back, a reached turn that ends with it; of the turns these are the costs and numbers of links
unfoldable pub end_leads : View → List ℕ → List ℕ → ℕ → Entry → Bool
end_leads U cost links l e =
    ltb e.back U.turns
    && (not (eqb (get_or cost e.back 0) no_entry.cost)
    && (eqb (U.second e.back) l && stands_as e (own_label cost links e.back)))

unfoldable pub link_stands : View → ℕ → List ℕ → List ℕ → Table → ℕ → Bool
link_stands U r cost links table l =
    not (goes_ahead (alone_entry U r l) (entry_at table l))
    && (is_none (entry_at table l) || (stands_as (entry_at table l) (alone_entry U r l) || end_leads U cost links l (entry_at table l)))

-- every turn, then every link
unfoldable pub all_stand : View → ℕ → Table → Table → Bool
all_stand U r turns links = every_below (turn_stands U r turns links) U.turns && every_below (link_stands U r turns.cost turns.links links) U.links

-- the answer says whether it is so
abbrev pub Tells : Bool → Type 0 → Type 0
Tells true A = A
Tells false A = A → ⊥
