-- The way to a node is the best of the links that enter it: its certificate, its uniqueness, and the link that it ends with.
use mathlib.Core.Path.{◌≡◌}
use mathlib.Core.Logic.{◌↔◌}
use mathlib.Core.List.{List}
use Prim.Native.Nat.{ℕ}
use Rattle.walk.specs.steps.Net.{Net, Back, via, Entry, reached, Table, LinkWalk, NodeWalk, Chosen, TrueLinks, TrueRoute, NodeCand}
use Rattle.walk.specs.steps.Net.{Least}
use Rattle.walk.proofs.theory.Laws.{Laws}
use Rattle.walk.proofs.theory.Walks.{node_regular}
use Rattle.walk.proofs.theory.Least.{least_iff, chosen_equal, true_unique}
use Rattle.walk.proofs.theory.Stage.{stage_certificate, stage_back}
use Rattle.walk.proofs.theory.ThreeStages.{node_staged, node_cands}

module _ (K : Type 0) (N : Net K) (L : Laws K N) where
  pub route_unique : {r s : ℕ} {e e' : Entry K} → TrueRoute K N r s e → TrueRoute K N r s e' → e ≡ e'
  route_unique {r} {s} = true_unique K N L (node_regular K N L r s)

  module _ (ltab : Table K) (true : TrueLinks K N ltab) (r s : ℕ) where
    pub route_certificate : {e : Entry K} → Least K N (NodeCand K N ltab r s) e ↔ TrueRoute K N r s e
    route_certificate =
        let c = stage_certificate K N (node_staged K N L r s) L ltab true in
        (λ m. c.0 ((least_iff K N (node_cands K N)).1 m), λ e. (least_iff K N (node_cands K N)).0 (c.1 e))

    -- the chosen walk to s is the chosen walk of the link that it ends with
    pub route_last : {q : List ℕ} {k : K} {l : ℕ} → Chosen K N (NodeWalk K N r s) q k (via l)
        → (b : Back) × (Chosen K N (LinkWalk K N l) q k b × (ltab l ≡ reached k b))
    route_last c = let (q', k', b, c', e, i, j) = stage_back K N (node_staged K N L r s) L ltab true c in (b, chosen_equal K N i j c' e)
