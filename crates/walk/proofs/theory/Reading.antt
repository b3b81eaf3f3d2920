-- What is read back along true entries is the chosen walk.
use mathlib.Core.Path.{◌≡◌, refl, sym, ap}
use mathlib.Core.List.{List, ◌∷◌}
use Prim.Native.Nat.{ℕ, zero, suc, ◌≤◌}
use native.Mathlib.Omega.{arith}
use Rattle.walk.specs.steps.Net.{Net, Back, start, via, reached, Table, Walk, LinkWalk, NodeWalk, Chosen, chosen, TrueTurns}
use Rattle.walk.specs.steps.Net.{TrueLinks}
use Rattle.walk.specs.steps.Reading.{read_turn, read_link, read_route}
use Rattle.walk.proofs.theory.Laws.{Laws}
use Rattle.walk.proofs.theory.Walks.{below, two_or_more, start_turn, start_link, start_node}
use Rattle.walk.proofs.theory.Certificate.{turn_unique}
use Rattle.walk.proofs.theory.Destination.{route_last}
use Rattle.walk.proofs.theory.Backs.{back_turn, back_size, link_back_lem}

module _ (K : Type 0) (N : Net K) (L : Laws K N) (tab : Table K) (true : TrueTurns K N tab) where
  pub chosen_entry : {t : ℕ} {q : List ℕ} {k : K} {b : Back} → Chosen K N (Walk K N t) q k b → tab t ≡ reached k b
  chosen_entry {t} {q} c = turn_unique K N L (true t (below K N c.walk)) (chosen q c)

  pub read_turn_lem : (n t : ℕ) (q : List ℕ) (k : K) (b : Back) → Chosen K N (Walk K N t) q k b → N.size k ≤ n → read_turn K N tab n t ≡ q
  read_turn_lem zero t q k b c h = absurd (omega (arith, two_or_more K N L c.walk))
  read_turn_lem (suc n) t q k start c h = rw (chosen_entry c) (sym (start_turn K N c.walk refl))
  read_turn_lem (suc n) t q k (via p) c h =
      let (q', k', b', c', e, i, j) = back_turn K N L tab true c in
      rw (chosen_entry c, i) (ap (λ (x : List ℕ). N.second t ∷ x) (read_turn_lem n p q' k' b' c' (omega (arith, back_size K N L j))))

  pub read_link_lem : (n l : ℕ) (q : List ℕ) (k : K) (b : Back) → Chosen K N (LinkWalk K N l) q k b → N.size k ≤ n
      → read_link K N tab n l (reached k b) ≡ q
  read_link_lem n l q k start c h = sym (start_link K N c.walk refl)
  read_link_lem n l q k (via t) c h = let (b, (c', e)) = link_back_lem K N L tab true c in read_turn_lem n t q k b c' h

  pub read_route_lem : (ltab : Table K) → TrueLinks K N ltab → (r s n : ℕ) (q : List ℕ) (k : K) (b : Back)
      → Chosen K N (NodeWalk K N r s) q k b → N.size k ≤ n → read_route K N tab ltab n (reached k b) ≡ q
  read_route_lem ltab ltrue r s n q k start c h = sym (start_node K N c.walk refl)
  read_route_lem ltab ltrue r s n q k (via l) c h = let (b, (c', e)) = route_last K N L ltab ltrue r s c in rw e (read_link_lem n l q k b c' h)
