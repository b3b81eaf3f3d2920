-- A trail is one and is followed back link by link, so the route is written from its end; and the true labels' trail of the route is the route.
use Prim.Native.Nat.{ℕ, zero, suc, ◌-◌, ◌≤◌, ◌<◌}
use mathlib.Core.Path.{◌≡◌, refl, sym, ap, ◌∙◌, subst}
use mathlib.Core.List.{List, [], ◌∷◌, ◌++◌, reverse, reverse-cons, reverse-reverse, append_assoc}
use native.Mathlib.Omega.{arith}
use lib.ListN.{length, get_or, set, drop, length-append, length-set}
use lib.Seq.{drop-cons, get_or-set_same, drop-set-lt}
use Rattle.walk.specs.View.{View}
use Rattle.walk.specs.Labels.{Key, Entry, Table, entry_at, start_back, last_or, Route, TrueLabels}
use Rattle.walk.specs.steps.Net as net-walks
use Rattle.walk.specs.steps.Net.{Back, start, via, Entry as Reached, reached, Walk, LinkWalk, NodeWalk, stay, into}
use Rattle.walk.specs.steps.ViewNet.{net, back_number, figures, reading}
use Rattle.walk.proofs.theory.Laws.{clash}
use Rattle.walk.proofs.theory.Walks.{below, two_or_more, link_head, start_turn, start_link}
use Rattle.walk.proofs.theory.Backs.{back_turn, back_size, link_back_lem}
use Rattle.walk.proofs.theory.Reading.{chosen_entry}
use Rattle.walk.proofs.theory.Destination.{route_last}
use Rattle.walk.proofs.GoodView.{GoodView}
use Rattle.walk.proofs.KeyLaws.{laws}
use Rattle.walk.proofs.TrueEntries.{chosen_inward, node_matches}
use Rattle.walk.proofs.LabelLaws.{figures_reading, turn_inside, link_inside}
use Rattle.search.specs.steps.Trails.{Trail, two, more, LinkTrail, one, last, Traced, Written}

-- what stands where the last link was stored, and after it
stored : (route : List ℕ) (at v : ℕ) → at < length route → drop at (set route at v) ≡ v ∷ drop (suc at) route
stored route at v h =
    drop-cons (set route at v) at 0 (omega (arith, length-set route at v))
    ∙ ap (λ (n : ℕ). n ∷ drop (suc at) (set route at v)) (get_or-set_same route at v 0 h)
    ∙ ap (λ (l : List ℕ). v ∷ l) (drop-set-lt (suc at) route at v (omega arith))

module _ (U : View) (back : List ℕ) where
  trail_within : {t : ℕ} {walk : List ℕ} → Trail U back t walk → t < U.turns
  trail_within (two t h b w) = h
  trail_within (more t p h b i before w) = h

  trail_long : {t : ℕ} {walk : List ℕ} → Trail U back t walk → 2 ≤ length walk
  trail_long (two t h b w) = omega (arith, ap length w)
  trail_long (more t p {before = before} h b i trail w) = omega (arith, trail_long trail, ap length w ∙ length-append before (U.second t ∷ []))

  -- the links and the room that a trail asks for
  pub traced_links : {t links room : ℕ} → Traced (Trail U back t) links room → (t < U.turns) × (2 ≤ links) × (links ≤ room)
  traced_links traced = (trail_within traced.leads, omega (arith, traced.count, trail_long traced.leads), traced.fits)

  module _ (few : U.turns < start_back) where
    -- a turn without a back is a walk of its two links
    trail_start : {t : ℕ} {walk : List ℕ} → Trail U back t walk → get_or back t 0 ≡ start_back → walk ≡ U.first t ∷ U.second t ∷ []
    trail_start (two t h b w) e = w
    trail_start (more t p h b i before w) e = absurd (omega arith)

    -- any other ends the walk of its back
    trail_back : {t : ℕ} {walk : List ℕ} → Trail U back t walk → (get_or back t 0 ≡ start_back → ⊥) → (before : List ℕ) × Trail U back (get_or back t 0) before × (walk ≡ before ++ (U.second t ∷ []))
    trail_back (two t h b w) n = absurd (n b)
    trail_back (more t p {before = before} h b i trail w) n = (before, subst (λ (x : ℕ). Trail U back x before) (sym b) trail, w)

    trail_one : {t : ℕ} {walk other : List ℕ} → Trail U back t walk → Trail U back t other → walk ≡ other
    trail_one (two t h b w) trail = w ∙ sym (trail_start trail b)
    trail_one (more t p {before = before} h b i trail w) other =
        let (others, leads, same) = trail_back other (λ z. omega arith) in
        w ∙ ap (λ (l : List ℕ). l ++ (U.second t ∷ [])) (trail_one trail (subst (λ (x : ℕ). Trail U back x others) b leads)) ∙ sym same

    -- where the turn has no back, its two links are all
    pub written_start : {t links : ℕ} (route : List ℕ) → Traced (Trail U back t) links (length route) → get_or back t 0 ≡ start_back
        → Written (Trail U back t) route (set (set route (links - 1) (U.second t)) 0 (U.first t))
    written_start {t} {links} route traced e walk trail =
        by route traced.fits (sym traced.count ∙ ap length (trail_start traced.leads e))
      where
        by : (route : List ℕ) → links ≤ length route → links ≡ 2 → set (set route (links - 1) (U.second t)) 0 (U.first t) ≡ walk ++ drop (length walk) route
        by [] h pair = absurd (omega arith)
        by (a ∷ []) h pair = absurd (omega arith)
        by (a ∷ b ∷ rest) h pair = rw (pair, trail_start trail e)

    -- what is left to trace has one link less
    pub traced_back : {t links room : ℕ} → Traced (Trail U back t) links room → (get_or back t 0 ≡ start_back → ⊥) → Traced (Trail U back (get_or back t 0)) (links - 1) room
    traced_back {t} traced n =
        let (before, trail, same) = trail_back traced.leads n in
        let long = ap length same ∙ length-append before (U.second t ∷ []) in
        record { walk = before; leads = trail; count = omega (arith, traced.count); fits = omega (arith, traced.fits) }

    -- and its walk comes before the link that is stored
    pub written_back : {t links : ℕ} (route : List ℕ) {after : List ℕ} → Traced (Trail U back t) links (length route) → (get_or back t 0 ≡ start_back → ⊥)
        → Written (Trail U back (get_or back t 0)) (set route (links - 1) (U.second t)) after → Written (Trail U back t) route after
    written_back {t} {links} route {after} traced n written walk trail =
        let (before, leads, same) = trail_back trail n in
        let long : length walk ≡ suc (length before) = ap length same ∙ length-append before (U.second t ∷ []) ∙ omega arith in
        let at : links - 1 ≡ length before = omega (arith, traced.count, ap length (trail_one traced.leads trail)) in
        written before leads
        ∙ ap (λ (n : ℕ). before ++ drop (length before) (set route n (U.second t))) at
        ∙ ap (λ (l : List ℕ). before ++ l) (stored route (length before) (U.second t) (omega (arith, traced.fits, traced.count, ap length (trail_one traced.leads trail))))
        ∙ sym (append_assoc before (U.second t ∷ []) (drop (suc (length before)) route))
        ∙ ap (λ (l : List ℕ). l ++ drop (suc (length before)) route) (sym same)
        ∙ ap (λ (n : ℕ). walk ++ drop n route) (sym long)

-- ---- the trail of a link

module _ (U : View) (turn-back link_back_lem : List ℕ) where
  abbrev LinkLeads : ℕ → List ℕ → Type 0
  LinkLeads l = LinkTrail U turn-back link_back_lem l

  link_long : {l : ℕ} {walk : List ℕ} → LinkLeads l walk → (l < U.links) × (1 ≤ length walk)
  link_long (one l h b w) = (h, omega (arith, ap length w))
  link_long (last l t h b i trail) = (h, omega (arith, trail_long U turn-back trail))

  pub link_traced : {l links room : ℕ} → Traced (LinkLeads l) links room → (l < U.links) × (1 ≤ room)
  link_traced traced =
      let (within, long) = link_long traced.leads in
      (within, omega (arith, traced.count, traced.fits))

  module _ (few : U.turns < start_back) where
    link_start : {l : ℕ} {walk : List ℕ} → LinkLeads l walk → get_or link_back_lem l 0 ≡ start_back → walk ≡ l ∷ []
    link_start (one l h b w) e = w
    link_start (last l t h b i trail) e = absurd (omega arith)

    link_last : {l : ℕ} {walk : List ℕ} → LinkLeads l walk → (get_or link_back_lem l 0 ≡ start_back → ⊥) → Trail U turn-back (get_or link_back_lem l 0) walk
    link_last (one l h b w) n = absurd (n b)
    link_last (last l t {walk = walk} h b i trail) n = subst (λ (x : ℕ). Trail U turn-back x walk) (sym b) trail

    pub written_one : {l : ℕ} (route : List ℕ) → 1 ≤ length route → get_or link_back_lem l 0 ≡ start_back → Written (LinkLeads l) route (set route 0 l)
    written_one [] h e walk trail = absurd (omega arith)
    written_one (a ∷ rest) h e walk trail = rw (link_start trail e)

    pub traced_last : {l links room : ℕ} → Traced (LinkLeads l) links room → (get_or link_back_lem l 0 ≡ start_back → ⊥) → Traced (Trail U turn-back (get_or link_back_lem l 0)) links room
    traced_last traced n = record { walk = traced.walk; leads = link_last traced.leads n; count = traced.count; fits = traced.fits }

    pub written_last : {l : ℕ} {route after : List ℕ} → (get_or link_back_lem l 0 ≡ start_back → ⊥) → Written (Trail U turn-back (get_or link_back_lem l 0)) route after → Written (LinkLeads l) route after
    written_last n written walk trail = written walk (link_last trail n)

-- ---- true labels lead back along the route

-- only the empty walk has no last link
start_stays : (U : View) {r s : ℕ} {q : List ℕ} {k : Key} {b : Back} → NodeWalk Key (net U r) r s q k b → b ≡ start → r ≡ s
start_stays U (stay e) i = e
start_stays U (into l w e) i = clash (cc)

module _ (U : View) (good : GoodView U) (few : U.turns < start_back) (r s : ℕ) (apart : r ≡ s → ⊥) (turns links : Table) (labels : TrueLabels U r turns links) where
  abbrev turn_at : ℕ → Reached Key
  turn_at t = reading (entry_at turns t)

  turns_inside : net-walks.TrueTurns Key (net U r) turn_at
  turns_inside t h = turn_inside U good few r t (labels.turn.entry t h)

  -- the back that stands in a table, as the net has it
  back_reads : (table : Table) (n : ℕ) {k : Key} {b : Back} → reading (entry_at table n) ≡ reached k b → get_or table.back n 0 ≡ back_number b
  back_reads table n e = ap (λ (x : Entry). x.back) (sym (figures_reading (entry_at table n)) ∙ ap figures e)

  turn_trail : (n t : ℕ) (q : List ℕ) (k : Key) (b : Back) → net-walks.Chosen Key (net U r) (Walk Key (net U r) t) q k b → k.links ≤ n → Trail U turns.back t (reverse q)
  turn_trail zero t q k b c h = absurd (omega (arith, two_or_more Key (net U r) (laws U good r) c.walk))
  turn_trail (suc n) t q k start c h =
      two t (below Key (net U r) c.walk) (back_reads turns t (chosen_entry Key (net U r) (laws U good r) turn_at turns_inside c)) (ap reverse (start_turn Key (net U r) c.walk refl))
  turn_trail (suc n) t q k (via p) c h =
      let (q', k', b', before, entry, whole, step) = back_turn Key (net U r) (laws U good r) turn_at turns_inside c in
      more t p (below Key (net U r) c.walk) (back_reads turns t (chosen_entry Key (net U r) (laws U good r) turn_at turns_inside c)) (below Key (net U r) before.walk)
      (turn_trail n p q' k' b' before (omega (arith, back_size Key (net U r) (laws U good r) step)))
      (ap reverse whole ∙ reverse-cons (U.second t) q')

  link_trail : (l : ℕ) (q : List ℕ) (k : Key) (b : Back) → net-walks.Chosen Key (net U r) (LinkWalk Key (net U r) l) q k b → reading (entry_at links l) ≡ reached k b → LinkTrail U turns.back links.back l (reverse q)
  link_trail l q k start c e = one l (link_head Key (net U r) (laws U good r) c.walk).0 (back_reads links l e) (ap reverse (start_link Key (net U r) c.walk refl))
  link_trail l q k (via t) c e =
      let (b, (inside, entry)) = link_back_lem Key (net U r) (laws U good r) turn_at turns_inside c in
      last l t (link_head Key (net U r) (laws U good r) c.walk).0 (back_reads links l e) (below Key (net U r) inside.walk) (turn_trail k.links t q k b inside (omega arith))

  pub route_trail : (walk : List ℕ) → Route U r s walk → LinkTrail U turns.back links.back (last_or start_back walk) walk
  route_trail walk route =
      let (k, b, inside) = chosen_inward U r _ _ _ (node_matches U good r s) walk route in
      by k b inside (ap (last_or start_back) (sym (reverse-reverse walk)) ∙ ((node_matches U good r s).outward inside.walk).2)
    where
      by : (k : Key) (b : Back) → net-walks.Chosen Key (net U r) (NodeWalk Key (net U r) r s) (reverse walk) k b → last_or start_back walk ≡ back_number b → LinkTrail U turns.back links.back (last_or start_back walk) walk
      by k start c e = absurd (apart (start_stays U c.walk refl))
      by k (via l) c e =
          let (b, (inside, entry)) = route_last Key (net U r) (laws U good r) (λ l. reading (entry_at links l)) (λ l h. link_inside U good few r l (labels.link.entry l h)) r s c in
          subst (λ (x : ℕ). LinkTrail U turns.back links.back x walk) (sym e) (subst (λ (x : List ℕ). LinkTrail U turns.back links.back l x) (reverse-reverse walk) (link_trail l (reverse walk) k b inside entry))
