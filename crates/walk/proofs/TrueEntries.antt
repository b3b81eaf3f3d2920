-- An entry is true by document 01 exactly when it stands for a true entry of the net; so what the theory shows of the net holds of labels.
use Prim.Native.Nat.{ℕ}
use mathlib.Core.Path.{◌≡◌, refl, sym, ap, ◌∙◌, subst}
use mathlib.Core.Logic.{inl, inr}
use mathlib.Core.List.{List, [], ◌∷◌, ◌++◌, reverse, drop_last, reverse-cons, reverse-append, reverse-reverse, append_assoc}
use mathlib.Core.Bool.{true}
use lib.Dec.{ltb, eqb}
use lib.ListN.{length, length-reverse}
use borrow.Author.Tests.{lt-ltb, ltb-true}
use Rattle.book.proofs.Limits.{both}
use Rattle.walk.specs.View.{View}
use Rattle.walk.specs.Walks.{turn_of, permitted, cost_of}
use Rattle.walk.specs.steps.Costs.{link_cost}
use Rattle.walk.specs.Labels.{Key, Less, key_of, Better, Chosen, TurnWalk, LinkWalk, NodeWalk, stays, enters, Entry, start_back, last_or, link_back, turn_back, True, chosen, absent}
use Rattle.walk.specs.steps.Backwards.{turns_back, permitted_back, split_back, cost_back}
use Rattle.walk.specs.steps.Net as net-walks
use Rattle.walk.specs.steps.Net.{Walks, Back, start, via, Entry as Reached, unreached, reached, Walk, one, last, stay, into}
use Rattle.walk.specs.steps.ViewNet.{net, key, back_number, figures}
use Rattle.walk.proofs.Lists.{last_snoc, drop_last_lem}
use Rattle.walk.proofs.Backwards.{turns_reverse, permitted_reverse, cost_reverse}
use Rattle.walk.proofs.Growth.{and_true, permitted_one, cost_one}
use Rattle.walk.proofs.GoodView.{GoodView, turn_of_lem, turn_links}
use Rattle.walk.proofs.NetWalks.{holds, shown, BackIs, built, walked}

pub same_key : (a b : Key) → a.cost ≡ b.cost → a.links ≡ b.links → a ≡ b
same_key a b c l = λ i. record { cost = c i; links = l i }

module _ (U : View) (r : ℕ) where
  -- the walks W of document 01 are the walks of the net, read backwards, with their keys and backs
  pub record Matches (W : List ℕ → Type 0) (back : List ℕ → ℕ) (inner : Walks Key) : Type 0 where
    pub outward : {links : List ℕ} {k : Key} {b : Back} → inner links k b → W (reverse links) × (key_of U (reverse links) ≡ k) × (back (reverse links) ≡ back_number b)
    pub inward : (links : List ℕ) → W links → (k : Key) × (b : Back) × inner (reverse links) k b

  module _ (W : List ℕ → Type 0) (back : List ℕ → ℕ) (inner : Walks Key) (m : Matches W back inner) where
    -- the key of a walk, by the net
    key_inward : (links : List ℕ) {k : Key} {b : Back} → inner (reverse links) k b → key_of U links ≡ k
    key_inward links w = ap (key_of U) (sym (reverse-reverse links)) ∙ (m.outward w).1

    better_inward : (links other : List ℕ) (k k' : Key) → key_of U links ≡ k → key_of U other ≡ k' → Better U links other → net-walks.Better Key (net U r) k (reverse links) k' (reverse other)
    better_inward links other k k' e e' (inl h) = inl (subst (λ (x : Key). Less x k') e (subst (λ (x : Key). Less (key_of U links) x) e' h))
    better_inward links other k k' e e' (inr h) = inr (sym e ∙ h.0 ∙ e', h.1)

    better_outward : (links other : List ℕ) (k k' : Key) → key_of U links ≡ k → key_of U other ≡ k' → net-walks.Better Key (net U r) k (reverse links) k' (reverse other) → Better U links other
    better_outward links other k k' e e' (inl h) = inl (subst (λ (x : Key). Less x (key_of U other)) (sym e) (subst (λ (x : Key). Less k x) (sym e') h))
    better_outward links other k k' e e' (inr h) = inr (e ∙ h.0 ∙ sym e', h.1)

    pub chosen_outward : {links : List ℕ} {k : Key} {b : Back} → net-walks.Chosen Key (net U r) inner links k b → Chosen U W (reverse links)
    chosen_outward {links} {k} {b} c =
        record {
          walk = (m.outward c.walk).0;
          best = λ other w better.
              let (k', b', w') = m.inward other w in
              let b'' = better_inward other (reverse links) k' k (key_inward other w') (m.outward c.walk).1 better in
              c.best w' (subst (λ (x : List ℕ). net-walks.Better Key (net U r) k' (reverse other) k x) (reverse-reverse links) b'');
        }

    unbeaten : (links : List ℕ) → Chosen U W links → (k : Key) → key_of U links ≡ k → (other : List ℕ) (k' : Key) (b' : Back) → inner other k' b'
        → net-walks.Better Key (net U r) k' other k (reverse links) → ⊥
    unbeaten links c k e other k' b' w better =
        c.best (reverse other) (m.outward w).0
        (better_outward (reverse other) links k' k (m.outward w).1 e (subst (λ (x : List ℕ). net-walks.Better Key (net U r) k' x k (reverse links)) (sym (reverse-reverse other)) better))

    pub chosen_inward : (links : List ℕ) → Chosen U W links → (k : Key) × (b : Back) × net-walks.Chosen Key (net U r) inner (reverse links) k b
    chosen_inward links c =
        let (k, b, w) = m.inward links c.walk in
        (k, b, record { walk = w; best = λ {q'} {k'} {b'} w' better. unbeaten links c k (key_inward links w) q' k' b' w' better })

    -- the figures of a walk, by the net
    figures_of : {links : List ℕ} {k : Key} {b : Back} → inner links k b → ◌≡◌ {A = Entry} (figures (reached k b)) (record { cost = cost_of U (reverse links); links = length (reverse links); back = back (reverse links) })
    unfolding key_of
    figures_of {links} {k} {b} w =
        let (walk, e, back-same) = m.outward w in
        λ i. record { cost = ap (λ (x : Key). x.cost) (sym e) i; links = ap (λ (x : Key). x.links) (sym e) i; back = sym back-same i }

    pub true_outward : (entry : Reached Key) → net-walks.True Key (net U r) inner entry → True U W back (figures entry)
    true_outward _ (net-walks.chosen links c) = chosen (reverse links) (chosen_outward c) (figures_of c.walk)
    true_outward _ (net-walks.absent n) = absent (λ links w. let (k, b, w') = m.inward links w in n (reverse links) k b w') refl

    pub true_inward : {entry : Entry} → True U W back entry → (inside : Reached Key) × net-walks.True Key (net U r) inner inside × (entry ≡ figures inside)
    true_inward (chosen links c e) =
        let (k, b, c') = chosen_inward links c in
        (reached k b, net-walks.chosen (reverse links) c', e ∙ ap (λ (x : List ℕ). record { cost = cost_of U x; links = length x; back = back x }) (sym (reverse-reverse links)) ∙ sym (figures_of c'.walk))
    true_inward (absent n e) = (unreached, net-walks.absent (λ links k b w. n (reverse links) (m.outward w).0), e)

module _ (U : View) (good : GoodView U) (r : ℕ) where
  -- two links at the head are two links at the end
  reverse_two : (b a : ℕ) (rest : List ℕ) → reverse (b ∷ a ∷ rest) ≡ reverse rest ++ (a ∷ b ∷ [])
  reverse_two b a rest = reverse-cons b (a ∷ rest) ∙ ap (λ (l : List ℕ). l ++ (b ∷ [])) (reverse-cons a rest) ∙ append_assoc (reverse rest) (a ∷ []) (b ∷ [])

  key_of_lem : (links : List ℕ) (k : Key) → cost_back U links ≡ k.cost → length links ≡ k.links → key_of U (reverse links) ≡ k
  unfolding key_of
  key_of_lem links k c l = same_key _ k (cost_reverse U links ∙ c) (length-reverse links ∙ l)

  cost_none : cost_back U [] ≡ 0
  unfolding split_back
  cost_none = refl

  link_back_lem : (links turns : List ℕ) (t : ℕ) → turns_back U links ≡ t ∷ turns → link_back U (reverse links) ≡ t
  link_back_lem links turns t e = ap (last_or start_back) (turns_reverse U links ∙ ap reverse e ∙ reverse-cons t turns) ∙ last_snoc start_back t (reverse turns)

  -- the last turn of the walk without its last link
  back_of : (back : Back) (links turns : List ℕ) → turns_back U links ≡ turns → BackIs back turns → link_back U (reverse links) ≡ back_number back
  back_of start links turns e b = ap (last_or start_back) (turns_reverse U links ∙ ap reverse (e ∙ b))
  back_of (via p) links turns e b = link_back_lem links b.0 p (e ∙ b.1)

  pub turn_matches : (t : ℕ) → Matches U r (TurnWalk U r t) (turn_back U) (Walk Key (net U r) t)
  turn_matches t = record { outward = outward; inward = inward }
    where
      outward : {links : List ℕ} {k : Key} {b : Back} → Walk Key (net U r) t links k b → TurnWalk U r t (reverse links) × (key_of U (reverse links) ≡ k) × (turn_back U (reverse links) ≡ back_number b)
      outward {links} {k} {b} w =
          let w' = built U good r w in
          let inside : turns_back U (U.first t ∷ w'.before) ≡ w'.turns = cc (ap (turns_back U) w'.ends, w'.last) in (
            record {
              goes = permitted_reverse U r links ∙ w'.goes;
              within = w'.within;
              before = reverse w'.before;
              ends = ap reverse w'.ends ∙ reverse_two (U.second t) (U.first t) w'.before;
            },
            key_of_lem links k w'.cost w'.count,
            ap (link_back U) (ap drop_last (ap reverse w'.ends ∙ reverse-cons (U.second t) (U.first t ∷ w'.before)) ∙ drop_last_lem (reverse (U.first t ∷ w'.before)) (U.second t))
                ∙ back_of b (U.first t ∷ w'.before) w'.turns inside w'.backed,
          )

      inward : (links : List ℕ) → TurnWalk U r t links → (k : Key) × (b : Back) × Walk Key (net U r) t (reverse links) k b
      inward links w =
          let e : reverse links ≡ U.second t ∷ U.first t ∷ reverse w.before = ap reverse w.ends ∙ reverse-append w.before (U.first t ∷ U.second t ∷ []) in
          let goes : permitted_back U r (U.second t ∷ U.first t ∷ reverse w.before) ≡ true = ap (permitted_back U r) (sym e) ∙ sym (permitted_reverse U r (reverse links)) ∙ ap (permitted U r) (reverse-reverse links) ∙ w.goes in
          let (k, b, w') = walked U good r (U.second t) (U.first t) (reverse w.before) goes in
          (k, b, subst (λ (l : List ℕ). Walk Key (net U r) t l k b) (sym e) (subst (λ (x : ℕ). Walk Key (net U r) x (U.second t ∷ U.first t ∷ reverse w.before) k b) (turn_of_lem U good t w.within) w'))

  pub link_matches : (l : ℕ) → Matches U r (LinkWalk U r l) (link_back U) (net-walks.LinkWalk Key (net U r) l)
  link_matches l = record { outward = outward; inward = λ links w. inward links (reverse w.before) (ap reverse w.ends ∙ reverse-append w.before (l ∷ [])) w.goes }
    where
      outward : {l : ℕ} {links : List ℕ} {k : Key} {b : Back} → net-walks.LinkWalk Key (net U r) l links k b → LinkWalk U r l (reverse links) × (key_of U (reverse links) ≡ k) × (link_back U (reverse links) ≡ back_number b)
      outward (one l h s) = (
        record {
          goes = permitted_reverse U r (l ∷ []) ∙ permitted_one U r l ∙ and_true (lt-ltb _ _ h) (holds _ s);
          before = [];
          ends = refl;
        },
        key_of_lem (l ∷ []) (key (link_cost U l) 1) (cost_one U r l) refl,
        refl,
      )
      outward (last t {q = links} {k = k} w) =
          let w' = built U good r w in (
            record {
              goes = permitted_reverse U r links ∙ w'.goes;
              before = reverse (U.first t ∷ w'.before);
              ends = ap reverse w'.ends ∙ reverse-cons (U.second t) (U.first t ∷ w'.before);
            },
            key_of_lem links k w'.cost w'.count,
            link_back_lem links w'.turns t w'.last,
          )

      inward : (links rest : List ℕ) → reverse links ≡ l ∷ rest → permitted U r links ≡ true → (k : Key) × (b : Back) × net-walks.LinkWalk Key (net U r) l (reverse links) k b
      inward links rest e goes = by rest e (ap (permitted_back U r) (sym e) ∙ sym (permitted_reverse U r (reverse links)) ∙ ap (permitted U r) (reverse-reverse links) ∙ goes)
        where
          by : (rest : List ℕ) → reverse links ≡ l ∷ rest → permitted_back U r (l ∷ rest) ≡ true → (k : Key) × (b : Back) × net-walks.LinkWalk Key (net U r) l (reverse links) k b
          by [] e h =
              let (exist, leave) = both (ltb l U.links) (eqb (U.from l) r) (sym (permitted_one U r l) ∙ h) in
              (_, _, subst (λ (x : List ℕ). net-walks.LinkWalk Key (net U r) l x (key (link_cost U l) 1) start) (sym e) (one l (ltb-true _ _ exist) (shown leave)))
          by (a ∷ rest) e h =
              let (k, b, w) = walked U good r l a rest h in
              let second : U.second (turn_of U a l) ≡ l = (turn_links U a l (built U good r w).within).1 in
              (_, _, subst (λ (x : ℕ). net-walks.LinkWalk Key (net U r) x (reverse links) k (via (turn_of U a l))) second (last (turn_of U a l) (subst (λ (x : List ℕ). Walk Key (net U r) (turn_of U a l) x k b) (sym e) w)))

  pub node_matches : (s : ℕ) → Matches U r (NodeWalk U r s) (last_or start_back) (net-walks.NodeWalk Key (net U r) r s)
  node_matches s = record { outward = outward; inward = inward }
    where
      outward : {links : List ℕ} {k : Key} {b : Back} → net-walks.NodeWalk Key (net U r) r s links k b → NodeWalk U r s (reverse links) × (key_of U (reverse links) ≡ k) × (last_or start_back (reverse links) ≡ back_number b)
      outward (stay e) = (stays refl e, key_of_lem [] (key 0 0) cost_none refl, refl)
      outward (into l w e) =
          let (w', k, b) = (link_matches l).outward w in
          (enters l w' e, k, ap (last_or start_back) w'.ends ∙ last_snoc start_back l w'.before)

      inward : (links : List ℕ) → NodeWalk U r s links → (k : Key) × (b : Back) × net-walks.NodeWalk Key (net U r) r s (reverse links) k b
      inward links (stays e h) = (_, _, subst (λ (x : List ℕ). net-walks.NodeWalk Key (net U r) r s x (key 0 0) start) (sym (ap reverse e)) (stay h))
      inward links (enters l w h) =
          let (k, b, w') = (link_matches l).inward links w in
          (k, via l, into l w' h)
