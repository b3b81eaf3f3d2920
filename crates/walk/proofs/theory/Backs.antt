-- A chosen walk without its last link is the chosen walk of its back.
use mathlib.Core.Path.{◌≡◌, ap, ◌∙◌}
use mathlib.Core.List.{List, ◌∷◌}
use Prim.Native.Nat.{ℕ, suc}
use Rattle.walk.specs.steps.Net.{Net, Back, via, reached, Table, Walk, LinkWalk, Chosen, TrueTurns}
use Rattle.walk.proofs.theory.Laws.{Laws}
use Rattle.walk.proofs.theory.Walks.{below, link_head}
use Rattle.walk.proofs.theory.Least.{chosen_equal}
use Rattle.walk.proofs.theory.Stage.{stage_back}
use Rattle.walk.proofs.theory.ThreeStages.{turn_staged, link_staged}

-- the number of links falls by one
pub back_size : (K : Type 0) (N : Net K) → Laws K N → {t p : ℕ} {k k' : K} → k ≡ N.extend p t k' → N.size k ≡ suc (N.size k')
back_size K N L {t} {p} {k} {k'} e = ap N.size e ∙ L.size_extend p t k'

module _ (K : Type 0) (N : Net K) (L : Laws K N) (tab : Table K) (true : TrueTurns K N tab) where
  pub back_turn : {t : ℕ} {q : List ℕ} {k : K} {p : ℕ} → Chosen K N (Walk K N t) q k (via p)
      → (q' : List ℕ) × (k' : K) × (b' : Back) × Chosen K N (Walk K N p) q' k' b' × (tab p ≡ reached k' b')
      × (q ≡ N.second t ∷ q') × (k ≡ N.extend p t k')
  back_turn {t} c = stage_back K N (turn_staged K N L t (below K N c.walk)) L tab true c

  pub link_back_lem : {l : ℕ} {q : List ℕ} {k : K} {t : ℕ} → Chosen K N (LinkWalk K N l) q k (via t)
      → (b : Back) × (Chosen K N (Walk K N t) q k b × (tab t ≡ reached k b))
  link_back_lem {l} c =
      let (q', k', b, c', e, i, j) = stage_back K N (link_staged K N L l (link_head K N L c.walk).0) L tab true c in
      (b, chosen_equal K N i j c' e)
