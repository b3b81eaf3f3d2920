-- The judge's tests say of each entry that it is the least of what is offered to it; so they hold exactly where every entry is true.
use Prim.Native.Nat.{ℕ, ◌≤◌, ◌<◌}
use mathlib.Core.Path.{◌≡◌, refl, sym, ap, ◌∙◌, subst}
use mathlib.Core.Logic.{◌⊎◌, inl, inr, ◌↔◌}
use mathlib.Core.Bool.{Bool, true, false, not, ◌&&◌, ◌||◌}
use native.Mathlib.Omega.{arith}
use lib.Dec.{T, ltb, eqb}
use lib.ListN.{length, get_or, length-append}
use borrow.Author.Tests.{ltb-true, lt-ltb, le-leb, eqb-true, eq-eqb, ne_eqb, eqb-false, not-true}
use Rattle.book.proofs.Limits.{both}
use Rattle.walk.specs.View.{View}
use Rattle.walk.specs.Labels.{Key, Entry, Table, entry_at, start_back, no_entry, chosen, absent, TrueTurn, TrueLink, TrueLabels}
use Rattle.walk.specs.Counting.{same_entry}
use Rattle.walk.specs.steps.Net.{Back, start, via, Entry as Reached, reached, Cand, fresh, through, LinkCand, alone, ends}
use Rattle.walk.specs.steps.ViewNet.{net, key, is_open, may_follow, figures, is_none, reading}
use Rattle.walk.proofs.theory.Laws.{clash}
use Rattle.walk.proofs.GoodView.{GoodView}
use Rattle.walk.proofs.Growth.{and_true}
use Rattle.walk.proofs.NetWalks.{holds, shown}
use Rattle.walk.proofs.CaseTests.{entry_same}
use Rattle.walk.proofs.ChosenLaws.{Limited, turn_bounded}
use Rattle.walk.proofs.LabelLaws.{reading_none, local_true, local_links_true}
use Rattle.search.specs.steps.Tables.{stands_as, goes_ahead, Sized, own_label}
use Rattle.search.specs.steps.Starts.{start_entry, alone_entry}
use Rattle.search.specs.steps.Passing.{onward_to}
use Rattle.search.specs.steps.Judging.{every_below, limited, overtaken, back_leads, reached_stands, turn_stands, end_leads, link_stands, all_stand, Tells}
use Rattle.search.proofs.EveryBelow.{every_at, every_holds}
use Rattle.search.proofs.Overtaking.{limits}
use Rattle.search.proofs.Underway.{back_of, reading_labelled, step_most}
use Rattle.search.proofs.JudgedLeast.{Ranked, Regular, NoneAhead, Supported, tests_least, least_tests, start_behind, start_supports}
use Rattle.search.proofs.LabelOrder.{stands_equal}

-- ---- what a test says

abbrev Says : Bool → Type 0 → Type 0
Says test A = (test ≡ true) ↔ A

itself : (a : Bool) → Says a (a ≡ true)
itself a = (λ h. h, λ h. h)

says_not : (a : Bool) → Says (not a) (a ≡ false)
says_not a = (not-true a, λ h. rw h)

says_both : {A B : Type 0} (a b : Bool) → Says a A → Says b B → Says (a && b) (A × B)
says_both a b f g = (λ h. (f.0 (both a b h).0, g.0 (both a b h).1), λ h. and_true (f.1 h.0) (g.1 h.1))

says_either : {A B : Type 0} (a b : Bool) → Says a A → Says b B → Says (a || b) (A ⊎ B)
says_either true b f g = (λ h. inl (f.0 refl), λ h. refl)
says_either false b f g = (λ h. inr (g.0 h), λ h. elim h [ inl x ↦ clash (cc (f.1 x)) | inr y ↦ g.1 y ])

-- where the one holds the other does not
says_unless : (a b : Bool) → Says (not (a && b)) (a ≡ true → b ≡ false)
says_unless true b = (λ h e. not-true b h, λ h. rw (h refl))
says_unless false b = (λ h e. clash (cc), λ h. refl)

says_every : {A : ℕ → Type 0} (test : ℕ → Bool) (n : ℕ) → ((k : ℕ) → Says (test k) (A k)) → Says (every_below test n) ((k : ℕ) → k < n → A k)
says_every test n says = (λ h k l. (says k).0 (every_at test n h k l), λ h. every_holds test n (λ k l. (says k).1 (h k l)))

says_below : (a b : ℕ) → Says (ltb a b) (a < b)
says_below a b = (ltb-true a b, lt-ltb a b)

says_equal : (a b : ℕ) → Says (eqb a b) (a ≡ b)
says_equal a b = (eqb-true a b, eq-eqb a b)

says_same : (e f : Entry) → Says (stands_as e f) (e ≡ f)
says_same e f = (stands_equal e f, λ h. subst (λ (x : Entry). same_entry e x ≡ true) h (entry_same e))

says_none : (e : Entry) → Says (is_none e) (e ≡ no_entry)
unfolding is_none same_entry
says_none e = says_same e no_entry

is_limited : (e : Entry) → 2 ≤ e.links → e.links ≤ 4097 → e.cost ≤ 191728800 → limited e ≡ true
unfolding limited
is_limited e low high cheap = rw (le-leb _ _ low, le-leb _ _ high, le-leb _ _ cheap)

-- ---- what the judge's tests say

abbrev OrNone : Type 0 → Entry → Type 0
OrNone A e = (e ≡ no_entry) ⊎ A

-- within document 01's limits
abbrev NoneOrLimited : Entry → Type 0
NoneOrLimited e = OrNone (limited e ≡ true) e

module _ (U : View) (turns : Table) where
  -- the entry e of turn t is what turn p offers it
  abbrev LeadsFrom : ℕ → Entry → ℕ → Type 0
  LeadsFrom t e p = (p < U.turns) × ((limited (entry_at turns p) ≡ true) × ((may_follow U p t ≡ true) × (e ≡ onward_to U p (entry_at turns p).cost (entry_at turns p).links t)))

  -- the entry e of link l is that of turn t
  abbrev EndsFrom : ℕ → Entry → ℕ → Type 0
  EndsFrom l e t = (t < U.turns) × ((eqb (get_or turns.cost t 0) no_entry.cost ≡ false) × ((U.second t ≡ l) × (e ≡ own_label turns.cost turns.links t)))

  says_leads : (t : ℕ) (e : Entry) → Says (back_leads U turns t e) (LeadsFrom t e e.back)
  unfolding back_leads
  says_leads t e = says_both _ _ (says_below _ _) (says_both _ _ (itself _) (says_both (may_follow U e.back t) _ (itself _) (says_same e _)))

  says_follows : (t v : ℕ) → Says (not (overtaken U t (entry_at turns t).cost (entry_at turns t).links turns v)) (may_follow U t v ≡ true → goes_ahead (onward_to U t (entry_at turns t).cost (entry_at turns t).links v) (entry_at turns v) ≡ false)
  unfolding overtaken
  says_follows t v = says_unless (may_follow U t v) _

  says_ends : (l : ℕ) (e : Entry) → Says (end_leads U turns.cost turns.links l e) (EndsFrom l e e.back)
  unfolding end_leads
  says_ends l e = says_both _ _ (says_below _ _) (says_both _ _ (says_not _) (says_both _ _ (says_equal _ _) (says_same e _)))

module _ (U : View) (r : ℕ) (turns links : Table) where
  abbrev ReachedStands : ℕ → Type 0
  ReachedStands t =
      ((entry_at turns t ≡ start_entry U r t) ⊎ LeadsFrom U turns t (entry_at turns t) (entry_at turns t).back)
      × ((goes_ahead (own_label turns.cost turns.links t) (entry_at links (U.second t)) ≡ false)
      × ((v : ℕ) → v < U.turns → may_follow U t v ≡ true → goes_ahead (onward_to U t (entry_at turns t).cost (entry_at turns t).links v) (entry_at turns v) ≡ false))

  abbrev TurnStands : ℕ → Type 0
  TurnStands t = (goes_ahead (start_entry U r t) (entry_at turns t) ≡ false) × OrNone ((limited (entry_at turns t) ≡ true) × ReachedStands t) (entry_at turns t)

  abbrev LinkStands : ℕ → Type 0
  LinkStands l = (goes_ahead (alone_entry U r l) (entry_at links l) ≡ false) × OrNone ((entry_at links l ≡ alone_entry U r l) ⊎ EndsFrom U turns l (entry_at links l) (entry_at links l).back) (entry_at links l)

  says_reached : (t : ℕ) → Says (reached_stands U (start_entry U r t) turns links t) (ReachedStands t)
  unfolding reached_stands
  says_reached t = says_both _ _ (says_either _ _ (says_same _ _) (says_leads U turns t _)) (says_both _ _ (says_not _) (says_every _ U.turns (says_follows U turns t)))

  says_turn : (t : ℕ) → Says (turn_stands U r turns links t) (TurnStands t)
  unfolding turn_stands
  says_turn t = says_both _ _ (says_not _) (says_either _ _ (says_none _) (says_both _ _ (itself _) (says_reached t)))

  says_link : (l : ℕ) → Says (link_stands U r turns.cost turns.links links l) (LinkStands l)
  unfolding link_stands
  says_link l = says_both _ _ (says_not _) (says_either _ _ (says_none _) (says_either _ _ (says_same _ _) (says_ends U turns l _)))

  says_all : Says (all_stand U r turns links) (((t : ℕ) → t < U.turns → TurnStands t) × ((l : ℕ) → l < U.links → LinkStands l))
  unfolding all_stand
  says_all = says_both _ _ (says_every _ U.turns says_turn) (says_every _ U.links says_link)

-- ---- the entries and their candidates

module _ (U : View) (good : GoodView U) (bounds : Limited U) (few : U.turns < start_back) (r : ℕ) (turns links : Table) where
  abbrev turn_at : ℕ → Reached Key
  turn_at t = reading (entry_at turns t)

  abbrev of_turn : ℕ → Key → Back → Type 0
  of_turn t = Cand Key (net U r) turn_at t

  abbrev of_link : ℕ → Key → Back → Type 0
  of_link l = LinkCand Key (net U r) turn_at l

  abbrev key_at : ℕ → Key
  key_at t = key (get_or turns.cost t 0) (get_or turns.links t 0)

  start_as : (t : ℕ) → T ((net U r).begins t) → start_entry U r t ≡ figures (reached ((net U r).begin t) start)
  unfolding start_entry
  start_as t s = rw (holds ((net U r).begins t) s)

  alone_as : (l : ℕ) → T ((net U r).leaves l) → alone_entry U r l ≡ figures (reached ((net U r).alone l) start)
  unfolding alone_entry
  alone_as l s = rw (holds ((net U r).leaves l) s)

  labelled_turn : (t : ℕ) → limited (entry_at turns t) ≡ true → turn_at t ≡ reached (key_at t) (back_of (entry_at turns t))
  labelled_turn t fine = reading_labelled (entry_at turns t) (limits (entry_at turns t) fine).0

  -- every turn's entry is none or within document 01's limits
  module _ (within : (t : ℕ) → t < U.turns → NoneOrLimited (entry_at turns t)) where
    reached_turn : (t : ℕ) {k : Key} {b : Back} → t < U.turns → turn_at t ≡ reached k b → (limited (entry_at turns t) ≡ true) × (k ≡ key_at t)
    reached_turn t {k} {b} h e = by (within t h)
      where
        by : NoneOrLimited (entry_at turns t) → (limited (entry_at turns t) ≡ true) × (k ≡ key_at t)
        by (inl blank) = clash (cc (e, ap reading blank ∙ reading_none))
        by (inr fine) = (fine, cc (e, labelled_turn t fine))

    turn_fits : (t : ℕ) → t < U.turns → {k : Key} {b : Back} → of_turn t k b → Ranked 2 k b × (k.cost < no_entry.cost)
    turn_fits t h (fresh s) =
        let (o, leave) = both (is_open U t) (eqb (U.from (U.first t)) r) (holds _ s) in
        (refl, omega (arith, bounds.link (U.first t) (good.first t h), bounds.turn t h o))
    turn_fits t h (through p {k} hp f e) =
        let (fine, same) = reached_turn p hp e in
        let (low, high, cheap) = limits (entry_at turns p) fine in
        let cost_same = ap (λ (x : Key). x.cost) same in
        let links_same = ap (λ (x : Key). x.links) same in
        ((omega arith, omega arith), omega (arith, step_most U bounds good few r p t hp h (holds _ f)))

    turn_regular : (t : ℕ) → t < U.turns → Regular 2 (of_turn t)
    turn_regular t h = record { linked = omega arith; ranked = λ k b c. (turn_fits t h c).0; small = λ k b c. (turn_fits t h c).1 }

    link_fits : (l : ℕ) → l < U.links → {k : Key} {b : Back} → of_link l k b → Ranked 1 k b × (k.cost < no_entry.cost)
    link_fits l h (alone s) = (refl, omega (arith, bounds.link l h))
    link_fits l h (ends t {k} ht s e) =
        let (fine, same) = reached_turn t ht e in
        let (low, high, cheap) = limits (entry_at turns t) fine in
        let cost_same = ap (λ (x : Key). x.cost) same in
        let links_same = ap (λ (x : Key). x.links) same in
        ((omega arith, omega arith), omega arith)

    link_regular : (l : ℕ) → l < U.links → Regular 1 (of_link l)
    link_regular l h = record { linked = omega arith; ranked = λ k b c. (link_fits l h c).0; small = λ k b c. (link_fits l h c).1 }

  -- ---- where all stand, all is true

  module _ (turns-stand : (t : ℕ) → t < U.turns → TurnStands U r turns links t) (links-stand : (l : ℕ) → l < U.links → LinkStands U r turns links l) where
    stand_within : (t : ℕ) → t < U.turns → NoneOrLimited (entry_at turns t)
    stand_within t h = by (turns-stand t h).1
      where
        by : OrNone ((limited (entry_at turns t) ≡ true) × ReachedStands U r turns links t) (entry_at turns t) → NoneOrLimited (entry_at turns t)
        by (inl blank) = inl blank
        by (inr (fine, rest)) = inr fine

    reached_stands_lem : (t : ℕ) {k : Key} {b : Back} → t < U.turns → turn_at t ≡ reached k b → ReachedStands U r turns links t
    reached_stands_lem t h e = by (turns-stand t h).1
      where
        by : OrNone ((limited (entry_at turns t) ≡ true) × ReachedStands U r turns links t) (entry_at turns t) → ReachedStands U r turns links t
        by (inl blank) = clash (cc (e, ap reading blank ∙ reading_none))
        by (inr (fine, rest)) = rest

    turn_behind : (t : ℕ) → t < U.turns → {k : Key} {b : Back} → of_turn t k b → goes_ahead (figures (reached k b)) (entry_at turns t) ≡ false
    turn_behind t h (fresh s) = ap (λ (e : Entry). goes_ahead e (entry_at turns t)) (sym (start_as t s)) ∙ (turns-stand t h).0
    turn_behind t h (through p {k} hp f e) =
        ap (λ (x : Key). goes_ahead (figures (reached ((net U r).extend p t x) (via p))) (entry_at turns t)) (reached_turn stand_within p hp e).1
        ∙ (reached_stands_lem p hp e).1.1 t h (holds _ f)

    turn_supported : (t : ℕ) → t < U.turns → Supported (of_turn t) (entry_at turns t)
    unfolding start_entry
    turn_supported t h = by (turns-stand t h).1
      where
        from : (p : ℕ) → LeadsFrom U turns t (entry_at turns t) p → Supported (of_turn t) (entry_at turns t)
        from p (hp, (fine, (f, same))) = inr ((net U r).extend p t (key_at p), via p, through p hp (shown f) (labelled_turn p fine), same)

        by : OrNone ((limited (entry_at turns t) ≡ true) × ReachedStands U r turns links t) (entry_at turns t) → Supported (of_turn t) (entry_at turns t)
        by (inl blank) = inl blank
        by (inr (fine, (inl same, rest))) = start_supports U r 2 (of_turn t) (turn_regular stand_within t h) ((net U r).begins t) ((net U r).begin t) (λ s. fresh (shown s)) (entry_at turns t) same
        by (inr (fine, (inr leads, rest))) = from (entry_at turns t).back leads

    turns_are_true : (t : ℕ) → t < U.turns → TrueTurn U r t (entry_at turns t)
    turns_are_true = (local_true U good few r (entry_at turns)).0 (λ t h. tests_least U r 2 (of_turn t) (turn_regular stand_within t h) (entry_at turns t) (λ k b c. turn_behind t h c) (turn_supported t h))

    link_behind : (l : ℕ) → l < U.links → {k : Key} {b : Back} → of_link l k b → goes_ahead (figures (reached k b)) (entry_at links l) ≡ false
    link_behind l h (alone s) = ap (λ (e : Entry). goes_ahead e (entry_at links l)) (sym (alone_as l s)) ∙ (links-stand l h).0
    link_behind l h (ends t {k} ht second e) =
        ap (λ (x : Key). goes_ahead (figures (reached x (via t))) (entry_at links l)) (reached_turn stand_within t ht e).1
        ∙ ap (λ (x : ℕ). goes_ahead (figures (reached (key_at t) (via t))) (entry_at links x)) (sym second)
        ∙ (reached_stands_lem t ht e).1.0

    link_supported : (l : ℕ) → l < U.links → Supported (of_link l) (entry_at links l)
    unfolding alone_entry
    link_supported l h = by (links-stand l h).1
      where
        labelled : (t : ℕ) → eqb (get_or turns.cost t 0) no_entry.cost ≡ false → NoneOrLimited (entry_at turns t) → limited (entry_at turns t) ≡ true
        labelled t filled (inl blank) = absurd (eqb-false _ _ filled (ap (λ (e : Entry). e.cost) blank))
        labelled t filled (inr fine) = fine

        from : (t : ℕ) → EndsFrom U turns l (entry_at links l) t → Supported (of_link l) (entry_at links l)
        from t (ht, (filled, (second, same))) = inr (key_at t, via t, ends t ht second (labelled_turn t (labelled t filled (stand_within t ht))), same)

        by : OrNone ((entry_at links l ≡ alone_entry U r l) ⊎ EndsFrom U turns l (entry_at links l) (entry_at links l).back) (entry_at links l) → Supported (of_link l) (entry_at links l)
        by (inl blank) = inl blank
        by (inr (inl same)) = start_supports U r 1 (of_link l) (link_regular stand_within l h) ((net U r).leaves l) ((net U r).alone l) (λ s. alone (shown s)) (entry_at links l) same
        by (inr (inr leads)) = from (entry_at links l).back leads

    links_are_true : (l : ℕ) → l < U.links → TrueLink U r l (entry_at links l)
    links_are_true =
        (local_links_true U good few r (entry_at turns) (entry_at links) turns_are_true).0 (λ l h. tests_least U r 1 (of_link l) (link_regular stand_within l h) (entry_at links l) (λ k b c. link_behind l h c) (link_supported l h))

  -- ---- where all is true, all stand

  module _ (labels : TrueLabels U r turns links) where
    true_within : (t : ℕ) → t < U.turns → NoneOrLimited (entry_at turns t)
    true_within t h = by (labels.turn.entry t h)
      where
        by : TrueTurn U r t (entry_at turns t) → NoneOrLimited (entry_at turns t)
        by (absent n same) = inl same
        by (chosen walk c same) =
            let most = turn_bounded U good r bounds t walk c in
            let long : 2 ≤ length walk = rw c.walk.ends (simp length-append (omega arith)) in
            inr (subst (λ (e : Entry). limited e ≡ true) (sym same) (is_limited _ long most.0 most.1))

    turn_tests : (t : ℕ) → t < U.turns → NoneAhead (of_turn t) (entry_at turns t) × Supported (of_turn t) (entry_at turns t)
    turn_tests t h = least_tests U r 2 (of_turn t) (turn_regular true_within t h) (entry_at turns t) ((local_true U good few r (entry_at turns)).1 labels.turn.entry t h)

    link_tests : (l : ℕ) → l < U.links → NoneAhead (of_link l) (entry_at links l) × Supported (of_link l) (entry_at links l)
    link_tests l h = least_tests U r 1 (of_link l) (link_regular true_within l h) (entry_at links l) ((local_links_true U good few r (entry_at turns) (entry_at links) labels.turn.entry).1 labels.link.entry l h)

    turn_source : (t : ℕ) {k : Key} {b : Back} → of_turn t k b → (e : Entry) → e ≡ figures (reached k b) → (e ≡ start_entry U r t) ⊎ LeadsFrom U turns t e e.back
    turn_source t (fresh s) e same = inl (same ∙ sym (start_as t s))
    turn_source t (through p hp f reads) e same =
        let (fine, key_same) = reached_turn true_within p hp reads in
        inr (subst (LeadsFrom U turns t e) (sym (ap (λ (x : Entry). x.back) same)) (hp, (fine, (holds _ f, same ∙ ap (λ (x : Key). figures (reached ((net U r).extend p t x) (via p))) key_same))))

    turn_stands_lem : (t : ℕ) → t < U.turns → TurnStands U r turns links t
    unfolding start_entry
    turn_stands_lem t h =
        let (never, support) = turn_tests t h in
        (start_behind U r 2 (of_turn t) (turn_regular true_within t h) ((net U r).begins t) ((net U r).begin t) (λ s. fresh (shown s)) (entry_at turns t) never support, by (true_within t h) support)
      where
        by : NoneOrLimited (entry_at turns t) → Supported (of_turn t) (entry_at turns t) → OrNone ((limited (entry_at turns t) ≡ true) × ReachedStands U r turns links t) (entry_at turns t)
        by (inl blank) support = inl blank
        by (inr fine) (inl blank) = inl blank
        by (inr fine) (inr (k, b, c, same)) =
            let reads = labelled_turn t fine in
            inr (fine, (turn_source t c (entry_at turns t) same, ((link_tests (U.second t) (good.second t h)).0 (key_at t) (via t) (ends t h refl reads), λ v hv f. (turn_tests v hv).0 ((net U r).extend t v (key_at t)) (via t) (through t h (shown f) reads))))

    link_source : (l : ℕ) {k : Key} {b : Back} → of_link l k b → (e : Entry) → e ≡ figures (reached k b) → (e ≡ alone_entry U r l) ⊎ EndsFrom U turns l e e.back
    link_source l (alone s) e same = inl (same ∙ sym (alone_as l s))
    link_source l (ends t ht second reads) e same =
        let (fine, key_same) = reached_turn true_within t ht reads in
        let cheap = (limits (entry_at turns t) fine).2 in
        let filled : eqb (get_or turns.cost t 0) no_entry.cost ≡ false = ne_eqb (get_or turns.cost t 0) no_entry.cost (λ z. omega (arith, cheap)) in
        inr (subst (EndsFrom U turns l e) (sym (ap (λ (x : Entry). x.back) same)) (ht, (filled, (second, same ∙ ap (λ (x : Key). figures (reached x (via t))) key_same))))

    link_stands_lem : (l : ℕ) → l < U.links → LinkStands U r turns links l
    unfolding alone_entry
    link_stands_lem l h =
        let (never, support) = link_tests l h in
        (start_behind U r 1 (of_link l) (link_regular true_within l h) ((net U r).leaves l) ((net U r).alone l) (λ s. alone (shown s)) (entry_at links l) never support, by support)
      where
        by : Supported (of_link l) (entry_at links l) → OrNone ((entry_at links l ≡ alone_entry U r l) ⊎ EndsFrom U turns l (entry_at links l) (entry_at links l).back) (entry_at links l)
        by (inl blank) = inl blank
        by (inr (k, b, c, same)) = inr (link_source l c (entry_at links l) same)

  -- the theorem: all tests hold exactly where the labels are true
  module _ (turns_sized : Sized U.turns turns) (links_sized : Sized U.links links) where
    pub stands_true : all_stand U r turns links ≡ true → TrueLabels U r turns links
    stands_true h =
        let (turns-stand, links-stand) = (says_all U r turns links).0 h in
        record {
          turn = record { costs = turns_sized.cost; counts = turns_sized.links; backs = turns_sized.back; entry = turns_are_true turns-stand links-stand };
          link = record { costs = links_sized.cost; counts = links_sized.links; backs = links_sized.back; entry = links_are_true turns-stand links-stand };
        }

    pub true_stands : TrueLabels U r turns links → all_stand U r turns links ≡ true
    true_stands labels = (says_all U r turns links).1 (turn_stands_lem labels, link_stands_lem labels)

    pub judged : (answer : Bool) → answer ≡ all_stand U r turns links → Tells answer (TrueLabels U r turns links)
    judged true same = stands_true (sym same)
    judged false same = λ labels. clash (cc (same, true_stands labels))
