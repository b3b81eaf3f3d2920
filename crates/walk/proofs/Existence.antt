-- Every good view has true entries from every origin, since rounds over all turns compute them.
use Prim.Native.Nat.{ℕ, suc, ◌<◌}
use mathlib.Core.List.{List, reverse}
use Rattle.walk.specs.View.{View}
use Rattle.walk.specs.Labels.{Key, Entry, TrueTurn, TrueLink, NodeWalk, Route}
use Rattle.walk.specs.steps.Net as net-walks
use Rattle.walk.specs.steps.Net.{Entry as Reached, TrueTurns, TrueLinks}
use Rattle.walk.specs.steps.Sweep.{link_entry, route_entry}
use Rattle.walk.specs.steps.ViewNet.{net, figures}
use Rattle.walk.specs.steps.Rows.{key_less}
use Rattle.walk.proofs.theory.Rounds.{rounds, exists}
use Rattle.walk.proofs.theory.Sweep.{link_true, route_true}
use Rattle.walk.proofs.GoodView.{GoodView}
use Rattle.walk.proofs.KeyLaws.{laws}
use Rattle.walk.proofs.CaseTests.{tested}
use Rattle.walk.proofs.TrueEntries.{true_outward, chosen_outward, turn_matches, link_matches, node_matches}

-- a destination has its route, or no permitted walk leads to it
pub data Reaches (U : View) (r s : ℕ) : Type 0 where
  by_route : (links : List ℕ) → Route U r s links → Reaches U r s
  by_none : ((links : List ℕ) → NodeWalk U r s links → ⊥) → Reaches U r s

module _ (U : View) (good : GoodView U) (r : ℕ) where
  -- the computed entries
  pub turn_inside : ℕ → Reached Key
  turn_inside t = rounds Key (net U r) (laws U good r) key_less (tested U r) (suc U.turns) t

  pub link_inside : ℕ → Reached Key
  link_inside l = link_entry Key (net U r) key_less turn_inside l

  pub turns_inside : TrueTurns Key (net U r) turn_inside
  unfolding turn_inside
  turns_inside = exists Key (net U r) (laws U good r) key_less (tested U r)

  pub links_inside : TrueLinks Key (net U r) link_inside
  unfolding link_inside
  links_inside = link_true Key (net U r) (laws U good r) key_less (tested U r) turn_inside turns_inside

  pub turn_exists : (t : ℕ) → t < U.turns → (e : Entry) × TrueTurn U r t e
  turn_exists t l = (figures (turn_inside t), true_outward U r _ _ _ (turn_matches U good r t) (turn_inside t) (turns_inside t l))

  pub link_exists : (l : ℕ) → l < U.links → (e : Entry) × TrueLink U r l e
  link_exists l m = (figures (link_inside l), true_outward U r _ _ _ (link_matches U good r l) (link_inside l) (links_inside l m))

  pub reaches : (s : ℕ) → Reaches U r s
  reaches s = by (route_entry Key (net U r) key_less link_inside r s) (route_true Key (net U r) (laws U good r) key_less (tested U r) link_inside links_inside r s)
    where
      by : (e : Reached Key) → net-walks.TrueRoute Key (net U r) r s e → Reaches U r s
      by _ (net-walks.chosen q c) = by_route (reverse q) (chosen_outward U r _ _ _ (node_matches U good r s) c)
      by _ (net-walks.absent n) = by_none (λ links w. let (k, b, w') = (node_matches U good r s).inward links w in n (reverse links) k b w')
