-- A table of entries is local exactly when every entry is the true one; true entries are one, and every good view has them.
use Prim.Native.Nat.{ℕ, ◌<◌}
use mathlib.Core.Path.{◌≡◌, refl, sym, ap, ◌∙◌, subst}
use mathlib.Core.Logic.{◌↔◌}
use mathlib.Core.List.{List, reverse, reverse-reverse}
use mathlib.Core.Bool.{Bool, true, false, ◌&&◌}
use native.Mathlib.Omega.{arith}
use lib.Dec.{eqb}
use lib.ListN.{length}
use borrow.Author.Tests.{ne_eqb, eqb-true}
use Rattle.book.proofs.Limits.{both}
use Rattle.walk.specs.View.{View}
use Rattle.walk.specs.Labels.{Key, Entry, start_back, no_entry, TrueTurn, TrueLink, Route, key_of, NodeWalk, last_or}
use Rattle.walk.specs.steps.Net as net-walks
use Rattle.walk.specs.steps.Net.{Back, start, via, Entry as Reached, unreached, reached, Local, LocalLinks}
use Rattle.walk.specs.steps.ViewNet.{net, key, figures, unless_none, backed, is_none, reading, back_number}
use Rattle.walk.proofs.theory.Laws.{clash}
use Rattle.walk.proofs.theory.Walks.{below, two_or_more, link_sized, link_head, node_regular}
use Rattle.walk.proofs.theory.Least.{chosen_one}
use Rattle.walk.proofs.theory.Destination.{route_certificate}
use Rattle.walk.proofs.theory.Certificate.{certificate, link_certificate, turn_unique, link_unique}
use Rattle.walk.proofs.GoodView.{GoodView}
use Rattle.walk.proofs.KeyLaws.{laws}
use Rattle.walk.proofs.TrueEntries.{true_outward, true_inward, chosen_inward, turn_matches, link_matches, node_matches, chosen_outward}

-- what stands in the buffers is read as an entry of the net, and back
pub figures_reading : (e : Entry) → figures (reading e) ≡ e
unfolding reading is_none
figures_reading e = by (is_none e) refl
  where
    none : is_none e ≡ true → no_entry ≡ e
    none h =
        let (c, rest) = both (eqb e.cost no_entry.cost) (eqb e.links no_entry.links && eqb e.back no_entry.back) h in
        let (l, b) = both (eqb e.links no_entry.links) (eqb e.back no_entry.back) rest in
        λ i. record { cost = sym (eqb-true e.cost no_entry.cost c) i; links = sym (eqb-true e.links no_entry.links l) i; back = sym (eqb-true e.back no_entry.back b) i }

    some : (test : Bool) → eqb e.back start_back ≡ test → ◌≡◌ {A = Entry} (figures (reached (key e.cost e.links) (backed test e.back))) e
    some true h = λ i. record { cost = e.cost; links = e.links; back = sym (eqb-true e.back start_back h) i }
    some false h = refl

    by : (test : Bool) → is_none e ≡ test → figures (unless_none test (reached (key e.cost e.links) (backed (eqb e.back start_back) e.back))) ≡ e
    by true h = none h
    by false h = some (eqb e.back start_back) refl

-- an entry whose walk has a link and whose back is no more than the turns' number
pub reading_figures : (k : Key) (b : Back) → 0 < k.links → ((p : ℕ) → b ≡ via p → p < start_back) → reading (figures (reached k b)) ≡ reached k b
unfolding reading is_none
reading_figures k start h few = rw (ne_eqb k.links 0 (λ e. omega arith)) (by (eqb k.cost no_entry.cost))
  where
    by : (test : Bool) → unless_none (test && (false && false)) (reached k start) ≡ reached k start
    by true = refl
    by false = refl
reading_figures k (via p) h few =
    rw (ne_eqb k.links 0 (λ e. omega arith), ne_eqb p start_back (λ e. omega (arith, few p refl))) (by (eqb k.cost no_entry.cost))
  where
    by : (test : Bool) → unless_none (test && (false && eqb p no_entry.back)) (reached k (via p)) ≡ reached k (via p)
    by true = refl
    by false = refl

pub reading_none : reading no_entry ≡ unreached
unfolding reading is_none
reading_none = refl

module _ (U : View) (good : GoodView U) (few : U.turns < start_back) (r : ℕ) where
  back_below : {t p : ℕ} {q : List ℕ} {k : Key} {b : Back} → net-walks.Walk Key (net U r) t q k b → b ≡ via p → p < U.turns
  back_below (net-walks.two t h s) e = clash (cc)
  back_below {p = p} (net-walks.more p' t w h f) e =
      let same : p' ≡ p = cc in
      rw (sym same) (below Key (net U r) w)

  link_back_below : {l p : ℕ} {q : List ℕ} {k : Key} {b : Back} → net-walks.LinkWalk Key (net U r) l q k b → b ≡ via p → p < U.turns
  link_back_below (net-walks.one l h s) e = clash (cc)
  link_back_below {p = p} (net-walks.last t w) e =
      let same : t ≡ p = cc in
      rw (sym same) (below Key (net U r) w)

  turn_read : (e : Reached Key) → (t : ℕ) → net-walks.TrueTurn Key (net U r) t e → reading (figures e) ≡ e
  turn_read _ t (net-walks.absent n) = reading_none
  turn_read _ t (net-walks.chosen q {k = k} {b = b} c) =
      reading_figures k b (omega (arith, two_or_more Key (net U r) (laws U good r) c.walk)) (λ p e. omega (arith, back_below c.walk e))

  link_read : (e : Reached Key) → (l : ℕ) → net-walks.TrueLink Key (net U r) l e → reading (figures e) ≡ e
  link_read _ l (net-walks.absent n) = reading_none
  link_read _ l (net-walks.chosen q {k = k} {b = b} c) =
      let (h, (rest, e)) = link_head Key (net U r) (laws U good r) c.walk in
      reading_figures k b (omega (arith, link_sized Key (net U r) (laws U good r) c.walk, ap length e)) (λ p e. omega (arith, link_back_below c.walk e))

  -- a true entry of the buffers is a true entry of the net
  pub turn_inside : (t : ℕ) {e : Entry} → TrueTurn U r t e → net-walks.TrueTurn Key (net U r) t (reading e)
  turn_inside t h =
      let (inside, true-inside, same) = true_inward U r _ _ _ (turn_matches U good r t) h in
      subst (λ (x : Reached Key). net-walks.TrueTurn Key (net U r) t x) (sym (ap reading same ∙ turn_read inside t true-inside)) true-inside

  pub link_inside : (l : ℕ) {e : Entry} → TrueLink U r l e → net-walks.TrueLink Key (net U r) l (reading e)
  link_inside l h =
      let (inside, true-inside, same) = true_inward U r _ _ _ (link_matches U good r l) h in
      subst (λ (x : Reached Key). net-walks.TrueLink Key (net U r) l x) (sym (ap reading same ∙ link_read inside l true-inside)) true-inside

  -- and the other way
  pub turn_outside : (t : ℕ) (e : Entry) → net-walks.TrueTurn Key (net U r) t (reading e) → TrueTurn U r t e
  turn_outside t e h = subst (TrueTurn U r t) (figures_reading e) (true_outward U r _ _ _ (turn_matches U good r t) (reading e) h)

  pub link_outside : (l : ℕ) (e : Entry) → net-walks.TrueLink Key (net U r) l (reading e) → TrueLink U r l e
  link_outside l e h = subst (TrueLink U r l) (figures_reading e) (true_outward U r _ _ _ (link_matches U good r l) (reading e) h)

  -- the theorem: a table is local exactly when every entry is the true one
  pub local_true : (table : ℕ → Entry) → Local Key (net U r) (λ t. reading (table t)) ↔ ((t : ℕ) → t < U.turns → TrueTurn U r t (table t))
  local_true table =
      let both_ways = certificate Key (net U r) (laws U good r) (λ t. reading (table t)) in
      (λ h t l. turn_outside t (table t) (both_ways.0 h t l), λ h. both_ways.1 (λ t l. turn_inside t (h t l)))

  -- and so is a table of links over true turns
  pub local_links_true : (turns links : ℕ → Entry) → ((t : ℕ) → t < U.turns → TrueTurn U r t (turns t))
      → LocalLinks Key (net U r) (λ t. reading (turns t)) (λ l. reading (links l)) ↔ ((l : ℕ) → l < U.links → TrueLink U r l (links l))
  local_links_true turns links turns_true =
      let both_ways = link_certificate Key (net U r) (laws U good r) (λ t. reading (turns t)) (λ l. reading (links l)) (λ t l. turn_inside t (turns_true t l)) in
      (λ h l m. link_outside l (links l) (both_ways.0 h l m), λ h. both_ways.1 (λ l m. link_inside l (h l m)))

  -- true entries are one
  pub turn_one : (t : ℕ) (e f : Entry) → TrueTurn U r t e → TrueTurn U r t f → e ≡ f
  turn_one t e f h g = sym (figures_reading e) ∙ ap figures (turn_unique Key (net U r) (laws U good r) (turn_inside t h) (turn_inside t g)) ∙ figures_reading f

  pub link_one : (l : ℕ) (e f : Entry) → TrueLink U r l e → TrueLink U r l f → e ≡ f
  link_one l e f h g = sym (figures_reading e) ∙ ap figures (link_unique Key (net U r) (laws U good r) (link_inside l h) (link_inside l g)) ∙ figures_reading f

-- the chosen walk to a destination is one
pub route_one : (U : View) → GoodView U → (r s : ℕ) (links other : List ℕ) → Route U r s links → Route U r s other → links ≡ other
route_one U good r s links other h g =
    let (k, b, c) = chosen_inward U r _ _ _ (node_matches U good r s) links h in
    let (k', b', c') = chosen_inward U r _ _ _ (node_matches U good r s) other g in
    let (same, _, _) = chosen_one Key (net U r) (laws U good r) (node_regular Key (net U r) (laws U good r) r s) c c' in
    sym (reverse-reverse links) ∙ ap reverse same ∙ reverse-reverse other

-- A destination by one sweep over true link entries: the least of those that enter it stands for its route, and there is none where it has no walk
module _ (U : View) (good : GoodView U) (few : U.turns < start_back) (r s : ℕ) (links : ℕ → Entry) (links_true : (l : ℕ) → l < U.links → TrueLink U r l (links l)) where
  pub data Found : Reached Key → Type 0 where
    route_found : {k : Key} {b : Back} (walk : List ℕ) → Route U r s walk → key_of U walk ≡ k → last_or start_back walk ≡ back_number b → Found (reached k b)
    none_found : ((walk : List ℕ) → NodeWalk U r s walk → ⊥) → Found unreached

  pub destination_found : (e : Reached Key) → net-walks.Least Key (net U r) (net-walks.NodeCand Key (net U r) (λ l. reading (links l)) r s) e → Found e
  destination_found e h = by e ((route_certificate Key (net U r) (laws U good r) (λ l. reading (links l)) (λ l m. link_inside U good few r l (links_true l m)) r s).0 h)
    where
      by : (e : Reached Key) → net-walks.TrueRoute Key (net U r) r s e → Found e
      by _ (net-walks.chosen q c) =
          let (w, key_same, back-same) = (node_matches U good r s).outward c.walk in
          route_found (reverse q) (chosen_outward U r _ _ _ (node_matches U good r s) c) key_same back-same
      by _ (net-walks.absent n) = none_found (λ walk w. let (k, b, w') = (node_matches U good r s).inward walk w in n (reverse walk) k b w')
