-- A link's entry after the first turns is the theory's sweep over them, since a later turn has to be smaller by its key; so the end is true.
use Prim.Native.Nat.{ℕ, zero, suc, ◌≤◌, ◌<◌}
use mathlib.Core.Path.{◌≡◌, refl, sym, ap, ◌∙◌, subst}
use mathlib.Core.Bool.{Bool, true, false, ◌&&◌, and-false, or-false}
use mathlib.Core.Logic.{◌⊎◌, inl, inr}
use mathlib.Core.Option.{Option, none, some}
use native.Mathlib.Omega.{arith}
use lib.Dec.{ltb, eqb}
use lib.ListN.{length, get_or, length-append}
use borrow.Author.Tests.{le-ltb, eq-eqb, ne_eqb, eqb-true, eqb-false}
use Rattle.walk.specs.View.{View}
use Rattle.walk.specs.Labels.{Key, Entry, Table, entry_at, start_back, no_entry, chosen, absent, TrueTurn, TrueLink, TrueTable}
use Rattle.walk.specs.steps.Net.{Back, start, via, Entry as Reached, unreached, reached}
use Rattle.walk.specs.steps.Sweep.{when, key_of, mapped, based, kept, offer, by_key, gather, link_entry}
use Rattle.walk.specs.steps.Rows.{key_less}
use Rattle.walk.specs.steps.ViewNet.{net, key, back_number, figures, reading}
use Rattle.walk.proofs.theory.Sweep.{link_true}
use Rattle.walk.proofs.GoodView.{GoodView}
use Rattle.walk.proofs.KeyLaws.{laws}
use Rattle.walk.proofs.ChosenLaws.{Limited, turn_bounded}
use Rattle.walk.proofs.CaseTests.{tested}
use Rattle.walk.proofs.TrueEntries.{true_outward, link_matches}
use Rattle.walk.proofs.LabelLaws.{reading_none, turn_inside}
use Rattle.search.specs.steps.Tables.{goes_ahead, offered, table_up_to}
use Rattle.search.specs.steps.Starts.{alone_entry}
use Rattle.search.specs.steps.Passing.{better}
use Rattle.search.specs.steps.Ends.{ended_by}
use Rattle.search.proofs.TableLaws.{offered_at, offered_elsewhere, up_to_sized, up_to_entry}
use Rattle.search.proofs.Underway.{reading_labelled, ahead_of_none}
use Rattle.search.proofs.EndedTurns.{ended_sized}

-- what is held after the first n of those that offer their walks: nothing, a walk of fewer links than any of theirs, or the walk of one of them
pub data Held (fewest n : ℕ) : Reached Key → Type 0 where
  none_held : Held fewest n unreached
  alone_held : (k : Key) → k.links < fewest → Held fewest n (reached k start)
  offer_held : (k : Key) (p : ℕ) → p < n → Held fewest n (reached k (via p))

-- what is held when t has offered a walk of key k
abbrev pub taken : Reached Key → Key → ℕ → Reached Key
taken held k t = offer Key (by_key key_less) held (some k) (via t)

pub still_held : {fewest n : ℕ} {held : Reached Key} → Held fewest n held → Held fewest (suc n) held
still_held none_held = none_held
still_held (alone_held k e) = alone_held k e
still_held (offer_held k p h) = offer_held k p (omega arith)

module _ {fewest : ℕ} (t : ℕ) (k : Key) where
  either_held : (test : Bool) {k' : Key} {b : Back} → Held fewest t (reached k' b) → Held fewest (suc t) (kept Key (by_key key_less) test k (via t) (reached k' b))
  either_held true h = offer_held k t (omega arith)
  either_held false h = still_held h

  pub taken_held : {held : Reached Key} → Held fewest t held → Held fewest (suc t) (taken held k t)
  taken_held none_held = offer_held k t (omega arith)
  taken_held (alone_held k' e) = either_held (key_less k k') (alone_held k' e)
  taken_held (offer_held k' p h) = either_held (key_less k k') (offer_held k' p h)

abbrev pub label : ℕ → Key → Entry
label t k = figures (reached k (via t))

module _ (t : ℕ) (k : Key) where
  -- where links and back do not decide, the label goes ahead by the numbers exactly where its key is less
  by_key_lem : (k' : Key) (b : Back) → (eqb k.links k'.links && ltb t (back_number b)) ≡ false
      → better (goes_ahead (label t k) (figures (reached k' b))) (label t k) (figures (reached k' b)) ≡ figures (taken (reached k' b) k t)
  unfolding goes_ahead
  by_key_lem k' b no_tie = rw (no_tie, or-false (ltb k.links k'.links)) (by (key_less k k'))
    where
      by : (test : Bool) → better test (label t k) (figures (reached k' b)) ≡ figures (kept Key (by_key key_less) test k (via t) (reached k' b))
      by true = refl
      by false = refl

  -- they do not: an earlier one's walk is held, or one of fewer links
  pub taken_figures : {fewest : ℕ} → fewest ≤ k.links → k.cost < no_entry.cost → {held : Reached Key} → Held fewest t held → better (goes_ahead (label t k) (figures held)) (label t k) (figures held) ≡ figures (taken held k t)
  taken_figures enough small none_held = rw (ahead_of_none (label t k) small)
  taken_figures enough small (alone_held k' e) = by_key_lem k' start (rw (ne_eqb k.links k'.links (λ z. omega arith)))
  taken_figures enough small (offer_held k' p h) = by_key_lem k' (via p) (rw (le-ltb t p (omega arith)) (and-false (eqb k.links k'.links)))

-- an entry that is none, or has two links or more and a cost below that of none
abbrev NoneOrLimited : Entry → Type 0
NoneOrLimited e = (e ≡ no_entry) ⊎ ((2 ≤ e.links) × (e.cost < no_entry.cost))

pub when_none : (test : Bool) → when {A = Key} test none ≡ none
when_none true = refl
when_none false = refl

module _ (U : View) (good : GoodView U) (limited : Limited U) (few : U.turns < start_back) (r : ℕ) (turns : Table) (turns_true : TrueTable U.turns (TrueTurn U r) turns) where
  abbrev turn_at : ℕ → Reached Key
  turn_at t = reading (entry_at turns t)

  -- the links' table after the first n turns, and what the theory's sweep over them finds for a link
  abbrev ended : ℕ → Table
  ended n = ended_by U.second turns.cost turns.links n (table_up_to U.links (alone_entry U r))

  abbrev swept : ℕ → ℕ → Reached Key
  swept n l = gather Key key_less ((net U r).leaves l) ((net U r).alone l) (λ t. eqb (U.second t) l) (λ t k. k) turn_at n

  record Same (n l : ℕ) : Type 0 where
    pub entry : entry_at (ended n) l ≡ figures (swept n l)
    pub held : Held 2 n (swept n l)

  turn_limits : (t : ℕ) → TrueTurn U r t (entry_at turns t) → NoneOrLimited (entry_at turns t)
  turn_limits t (absent n same) = inl same
  turn_limits t (chosen walk c same) =
      let most = (turn_bounded U good r limited t walk c).1 in
      let long : 2 ≤ length walk = rw c.walk.ends (simp length-append (omega arith)) in
      inr (omega (arith, ap (λ (e : Entry). e.links) same), omega (arith, ap (λ (e : Entry). e.cost) same))

  alone_same : (l : ℕ) → l < U.links → Same 0 l
  unfolding alone_entry ended_by
  alone_same l h = record { entry = up_to_entry U.links (alone_entry U r) l h; held = by ((net U r).leaves l) }
    where
      by : (test : Bool) → Held 2 0 (based (when test (some ((net U r).alone l))))
      by true = alone_held ((net U r).alone l) (omega arith)
      by false = none_held

  module _ (t l : ℕ) (before : Same t l) (within : l < U.links) where
    abbrev hand : Option Key
    hand = when (eqb (U.second t) l) (mapped (λ k. k) (key_of (turn_at t)))

    -- the turn offers the link nothing
    untouched : hand ≡ none → entry_at (ended (suc t)) l ≡ entry_at (ended t) l → Same (suc t) l
    untouched silent same =
        let stays : swept (suc t) l ≡ swept t l = ap (λ (o : Option Key). offer Key (by_key key_less) (swept t l) o (via t)) silent in
        record { entry = same ∙ before.entry ∙ ap figures (sym stays); held = subst (Held 2 (suc t)) (sym stays) (still_held before.held) }

    one_more : NoneOrLimited (entry_at turns t) → Same (suc t) l
    unfolding ended_by
    one_more (inl e) =
        let out : turn_at t ≡ unreached = ap reading e ∙ reading_none in
        untouched (rw out (when_none (eqb (U.second t) l))) (rw (eq-eqb (get_or turns.cost t 0) no_entry.cost (ap (λ (x : Entry). x.cost) e)))
    one_more (inr (two, small)) = by (eqb (U.second t) l) refl
      where
        k : Key
        k = key (get_or turns.cost t 0) (get_or turns.links t 0)

        offers : ended (suc t) ≡ offered (ended t) (U.second t) (label t k)
        offers = rw (ne_eqb (get_or turns.cost t 0) no_entry.cost (λ z. omega arith))

        by : (test : Bool) → eqb (U.second t) l ≡ test → Same (suc t) l
        by false e = untouched (rw e) (ap (λ (x : Table). entry_at x l) offers ∙ offered_elsewhere (ended t) (U.second t) (label t k) l (λ z. eqb-false _ _ e (sym z)))
        by true e =
            let speaks : hand ≡ some k = rw (e, reading_labelled (entry_at turns t) two) in
            let takes : swept (suc t) l ≡ taken (swept t l) k t = ap (λ (o : Option Key). offer Key (by_key key_less) (swept t l) o (via t)) speaks in
            record {
              entry =
                  ap (λ (x : Table). entry_at x l) offers
                  ∙ ap (λ (x : ℕ). entry_at (offered (ended t) x (label t k)) l) (eqb-true _ _ e)
                  ∙ offered_at (ended_sized U.second turns.cost turns.links t (up_to_sized U.links (alone_entry U r))) l (label t k) within
                  ∙ ap (λ (x : Entry). better (goes_ahead (label t k) x) (label t k) x) before.entry
                  ∙ taken_figures t k two small before.held
                  ∙ ap figures (sym takes);
              held = subst (Held 2 (suc t)) (sym takes) (taken_held t k before.held);
            }

  all_same : (n : ℕ) → n ≤ U.turns → (l : ℕ) → l < U.links → Same n l
  all_same zero h l m = alone_same l m
  all_same (suc t) h l m = one_more t l (all_same t (omega arith) l m) m (turn_limits t (turns_true.entry t (omega arith)))

  pub links_true : TrueTable U.links (TrueLink U r) (ended U.turns)
  links_true =
      let sized = ended_sized U.second turns.cost turns.links U.turns (up_to_sized U.links (alone_entry U r)) in
      record {
        costs = sized.cost;
        counts = sized.links;
        backs = sized.back;
        entry = λ l h. subst (TrueLink U r l) (sym (all_same U.turns (omega arith) l h).entry) (true_outward U r _ _ _ (link_matches U good r l) (link_entry Key (net U r) key_less turn_at l) (link_true Key (net U r) (laws U good r) key_less (tested U r) turn_at (λ t m. turn_inside U good few r t (turns_true.entry t m)) l h));
      }
