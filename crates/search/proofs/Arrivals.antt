-- The best label into a destination is the theory's sweep over the links that enter it, so it stands for the route, or for none.
use Prim.Native.Nat.{ℕ, zero, suc, ◌≤◌, ◌<◌}
use mathlib.Core.Path.{◌≡◌, refl, sym, ap, ◌∙◌, subst}
use mathlib.Core.Bool.{Bool, true, false}
use mathlib.Core.List.{List, reverse}
use mathlib.Core.Option.{Option, none, some}
use native.Mathlib.Omega.{arith}
use lib.Dec.{eqb}
use lib.ListN.{length, get_or}
use borrow.Author.Tests.{eq-eqb, ne_eqb}
use Rattle.walk.specs.View.{View}
use Rattle.walk.specs.Walks.{cost_of}
use Rattle.walk.specs.Labels.{Key, key_of, Entry, Table, entry_at, start_back, no_entry, last_or, TrueLink, TrueTable, NodeWalk, Route}
use Rattle.walk.specs.steps.Net as net-walks
use Rattle.walk.specs.steps.Net.{Back, via, Entry as Reached, unreached, reached}
use Rattle.walk.specs.steps.Sweep.{when, key_of as keyIn, mapped, offer, by_key, gather}
use Rattle.walk.specs.steps.Rows.{key_less}
use Rattle.walk.specs.steps.ViewNet.{net, back_number, figures, reading}
use Rattle.walk.proofs.theory.Sweep.{node_least}
use Rattle.walk.proofs.theory.Laws.{clash}
use Rattle.walk.proofs.TrueEntries.{chosen_outward, link_matches}
use Rattle.walk.proofs.GoodView.{GoodView}
use Rattle.walk.proofs.KeyLaws.{laws}
use Rattle.walk.proofs.ChosenLaws.{Limited, link_bounded, route_bounded}
use Rattle.walk.proofs.CaseTests.{tested}
use Rattle.walk.proofs.LabelLaws.{figures_reading, link_inside, Found, route_found, none_found, destination_found}
use Rattle.search.specs.steps.Tables.{goes_ahead, own_label}
use Rattle.search.specs.steps.Passing.{better, offered_if}
use Rattle.search.specs.steps.Arriving.{is_entering, best_into}
use Rattle.search.proofs.LinkEnds.{Held, none_held, alone_held, offer_held, taken, still_held, taken_held, label, taken_figures, when_none}

-- the entry stands for the route and ends with its last link, or there is no walk
pub data Arrived (U : View) (r s : ℕ) (e : Entry) : Type 0 where
  found : (walk : List ℕ) → Route U r s walk → e.cost ≡ cost_of U walk → e.links ≡ length walk → e.back ≡ last_or start_back walk → e.back < U.links → e.cost < no_entry.cost → Arrived U r s e
  nowhere : ((walk : List ℕ) → NodeWalk U r s walk → ⊥) → e ≡ no_entry → Arrived U r s e

-- what an entry offers: nothing, or a walk that costs less than none does
data Offers (e : Entry) : Reached Key → Type 0 where
  nothing : e ≡ no_entry → Offers e unreached
  walk_of : (k : Key) (b : Back) → figures (reached k b) ≡ e → k.cost < no_entry.cost → Offers e (reached k b)

held_back : {n : ℕ} {held : Reached Key} → Held 0 n held → (k : Key) (b : Back) → held ≡ reached k b → back_number b < n
held_back none_held k b e = clash (cc)
held_back (alone_held k' h) k b e = absurd (omega arith)
held_back {n} (offer_held k' p h) k b e =
    let same : via p ≡ b = cc in
    subst (λ (x : Back). back_number x < n) same h

module _ (U : View) (good : GoodView U) (limited : Limited U) (few : U.turns < start_back) (r s : ℕ) (apart : r ≡ s → ⊥) (links : Table) (links_true : TrueTable U.links (TrueLink U r) links) where
  abbrev link_at : ℕ → Reached Key
  link_at l = reading (entry_at links l)

  -- what is held after the first n links, and what the theory's sweep over them finds
  abbrev best : ℕ → Entry
  best n = best_into U.to links.cost links.links s n

  abbrev swept : ℕ → Reached Key
  swept n = gather Key key_less (eqb r s) (net U r).empty (λ l. eqb (U.to l) s) (λ l k. k) link_at n

  record Same (n : ℕ) : Type 0 where
    pub entry : best n ≡ figures (swept n)
    pub held : Held 0 n (swept n)

  -- the cost of a chosen walk is far below that of none
  cheap : (l : ℕ) {q : List ℕ} {k : Key} {b : Back} → net-walks.Chosen Key (net U r) (net-walks.LinkWalk Key (net U r) l) q k b → k.cost < no_entry.cost
  unfolding key_of
  cheap l {q} c =
      let most = (link_bounded U good r limited l (reverse q) (chosen_outward U r _ _ _ (link_matches U good r l) c)).1 in
      let same = ap (λ (x : Key). x.cost) ((link_matches U good r l).outward c.walk).1 in
      omega arith

  link_offers : (l : ℕ) → l < U.links → Offers (entry_at links l) (link_at l)
  link_offers l h = by refl (link_inside U good few r l (links_true.entry l h))
    where
      by : {e : Reached Key} → link_at l ≡ e → net-walks.TrueLink Key (net U r) l e → Offers (entry_at links l) e
      by e (net-walks.absent n) = nothing (sym (figures_reading (entry_at links l)) ∙ ap figures e)
      by e (net-walks.chosen q {k = k} {b = b} c) = walk_of k b (sym (ap figures e) ∙ figures_reading (entry_at links l)) (cheap l c)

  none_same : Same 0
  unfolding best_into
  none_same =
      let base : swept 0 ≡ unreached = rw (ne_eqb r s apart) in
      record { entry = ap figures (sym base); held = subst (Held 0 0) (sym base) none_held }

  module _ (l : ℕ) (before : Same l) where
    abbrev hand : Option Key
    hand = when (eqb (U.to l) s) (mapped (λ k. k) (keyIn (link_at l)))

    -- the link offers nothing
    untouched : hand ≡ none → is_entering U.to links.cost s l ≡ false → Same (suc l)
    unfolding best_into
    untouched silent passed =
        let stays : swept (suc l) ≡ swept l = ap (λ (o : Option Key). offer Key (by_key key_less) (swept l) o (via l)) silent in
        record {
          entry = ap (λ (test : Bool). offered_if test (own_label links.cost links.links l) (best l)) passed ∙ before.entry ∙ ap figures (sym stays);
          held = subst (Held 0 (suc l)) (sym stays) (still_held before.held);
        }

    one_more : {e : Reached Key} → link_at l ≡ e → Offers (entry_at links l) e → Same (suc l)
    unfolding best_into
    one_more out (nothing e) = untouched (rw out (when_none (eqb (U.to l) s))) (rw (eq-eqb (get_or links.cost l 0) no_entry.cost (ap (λ (x : Entry). x.cost) e)))
    one_more out (walk_of k b same small) = by (eqb (U.to l) s) refl
      where
        cost_same : k.cost ≡ get_or links.cost l 0
        cost_same = ap (λ (x : Entry). x.cost) same

        new : Entry
        new = own_label links.cost links.links l

        new_same : new ≡ label l k
        new_same = λ i. record { cost = sym cost_same i; links = ap (λ (x : Entry). x.links) (sym same) i; back = l }

        entering : is_entering U.to links.cost s l ≡ eqb (U.to l) s
        entering = rw (ne_eqb (get_or links.cost l 0) no_entry.cost (λ z. omega (arith, cost_same)))

        by : (test : Bool) → eqb (U.to l) s ≡ test → Same (suc l)
        by false e = untouched (rw e) (entering ∙ e)
        by true e =
            let speaks : hand ≡ some k = rw (e, out) in
            let takes : swept (suc l) ≡ taken (swept l) k l = ap (λ (o : Option Key). offer Key (by_key key_less) (swept l) o (via l)) speaks in
            record {
              entry =
                  ap (λ (test : Bool). offered_if test new (best l)) (entering ∙ e)
                  ∙ ap (λ (x : Entry). better (goes_ahead x (best l)) x (best l)) new_same
                  ∙ ap (λ (x : Entry). better (goes_ahead (label l k) x) (label l k) x) before.entry
                  ∙ taken_figures l k (omega arith) small before.held
                  ∙ ap figures (sym takes);
              held = subst (Held 0 (suc l)) (sym takes) (taken_held l k before.held);
            }

  all_same : (n : ℕ) → n ≤ U.links → Same n
  all_same zero h = none_same
  all_same (suc l) h = one_more l (all_same l (omega arith)) refl (link_offers l (omega arith))

  pub arrives : Arrived U r s (best U.links)
  unfolding key_of
  arrives =
      let all = all_same U.links (omega arith) in
      by all.entry (held_back all.held) (destination_found U good few r s (entry_at links) links_true.entry (swept U.links) (node_least Key (net U r) (laws U good r) key_less (tested U r) link_at r s))
    where
      by : {held : Reached Key} → best U.links ≡ figures held → ((k : Key) (b : Back) → held ≡ reached k b → back_number b < U.links) → Found U good few r s (entry_at links) links_true.entry held → Arrived U r s (best U.links)
      by e within (none_found n) = nowhere n e
      by e within (route_found {k = k} {b = b} walk route key_same last-same) =
          let most = (route_bounded U good r limited s walk route).1 in
          let cost_same : (best U.links).cost ≡ cost_of U walk = ap (λ (x : Entry). x.cost) e ∙ ap (λ (x : Key). x.cost) (sym key_same) in
          let links_same : (best U.links).links ≡ length walk = ap (λ (x : Entry). x.links) e ∙ ap (λ (x : Key). x.links) (sym key_same) in
          let back-same : (best U.links).back ≡ back_number b = ap (λ (x : Entry). x.back) e in
          found walk route cost_same links_same (back-same ∙ sym last-same) (omega (arith, within k b refl)) (omega arith)
