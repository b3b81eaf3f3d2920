-- Closing a change only takes walks away: those that avoid it stay, at the same cost, so an entry whose chosen walk avoids it stays.
use Prim.Native.Nat.{ℕ, ◌≤◌, ◌<◌}
use mathlib.Core.Path.{◌≡◌, refl, sym, ap, ap₂, ◌∙◌, subst}
use mathlib.Core.Logic.{inl, inr}
use mathlib.Core.List.{List, [], ◌∷◌, map}
use mathlib.Core.Bool.{Bool, true, not, ◌&&◌}
use native.Mathlib.Omega.{arith}
use native.Mathlib.Decide.{dec_lt}
use lib.Dec.{eqb, ltb}
use lib.ListN.{length, get_or, get_or-eq_default}
use borrow.Author.Tests.{eq-eqb}
use Rattle.book.specs.declared.Counts.{Counts}
use Rattle.std.specs.Prelude.{Ok}
use Rattle.book.specs.Tables.{turn_table}
use Rattle.book.specs.Entries.{barred, seconds_good, line_headway, link_from, link_to, link_line, link_ride, turn_walk}
use Rattle.book.specs.Changes.{with_walk}
use Rattle.book.specs.Check.{check_of}
use Rattle.book.proofs.Limits.{both}
use Rattle.book.proofs.GoodBook.{good_book}
use Rattle.book.proofs.WalkWritten.{WalkWritten, walk_written}
use Rattle.walk.specs.View.{View, view_of, walks_of, listed_in, up_to}
use Rattle.walk.specs.Walks.{twos, all, turn_of, turns_of, between, allowed, seconds, turn_wait, first_wait, leaves, permitted, cost_of}
use Rattle.walk.specs.Labels.{Key, Less, key_of, Better, Chosen, TurnWalk, LinkWalk, Entry, Table, entry_at, start_back, no_entry, link_back, turn_back, True, chosen, absent, TrueTurn, TrueLink, TrueLabels}
use Rattle.walk.proofs.theory.Laws.{clash}
use Rattle.walk.proofs.Filling.{up_to_length, up_to_at}
use Rattle.walk.proofs.GoodView.{good_view}
use Rattle.walk.proofs.LabelLaws.{turn_one, link_one}
use Rattle.edit.specs.Edit.{Edit, refused, untrue, done, altered}
use Rattle.edit.specs.Demands.{Avoids, Untouched, avoided, no_walk, Keeps}
use Rattle.edit.proofs.Tested.{edit_passed}
use Rattle.edit.proofs.Determined.{LabelsOf}

module _ {A : Type 0} (closed : ℕ) where
  map_kept : (f g : ℕ → A) → ((t : ℕ) → (t ≡ closed → ⊥) → f t ≡ g t) → (turns : List ℕ) → Avoids closed turns → map f turns ≡ map g turns
  map_kept f g same [] avoids = refl
  map_kept f g same (t ∷ rest) avoids = ap₂ ◌∷◌ (same t avoids.0) (map_kept f g same rest avoids.1)

  twos_kept : (f g : ℕ → ℕ → A) → ((p t : ℕ) → (p ≡ closed → ⊥) → (t ≡ closed → ⊥) → f p t ≡ g p t) → (turns : List ℕ) → Avoids closed turns → twos f turns ≡ twos g turns
  twos_kept f g same [] avoids = refl
  twos_kept f g same (t ∷ []) avoids = refl
  twos_kept f g same (p ∷ t ∷ rest) avoids = ap₂ ◌∷◌ (same p t avoids.0 avoids.1.0) (twos_kept f g same (t ∷ rest) avoids.1)

last_but_one : (a b c : Bool) → (a && b && c) ≡ true → b ≡ true
last_but_one a b c h = (both a b (both (a && b) c h).0).1

-- a view with other walks
abbrev with_walks : View → (ℕ → ℕ) → View
with_walks U walks =
    record {
      nodes = U.nodes;
      links = U.links;
      turns = U.turns;
      from = U.from;
      to = U.to;
      line = U.line;
      ride = U.ride;
      headway = U.headway;
      first = U.first;
      second = U.second;
      walk = walks;
      listed = U.listed;
      carry_over = U.carry_over;
    }

module _ (U : View) (walks : ℕ → ℕ) (closed : ℕ) (kept : (t : ℕ) → (t ≡ closed → ⊥) → U.walk t ≡ walks t) (barred-now : walks closed ≡ barred) where
  abbrev after : View
  after = with_walks U walks

  between_kept : (p t : ℕ) → (p ≡ closed → ⊥) → (t ≡ closed → ⊥) → between U p t ≡ between after p t
  between_kept p t a b = rw (kept p a, kept t b)

  leaves_kept : (r : ℕ) (links : List ℕ) → leaves U r links ≡ leaves after r links
  leaves_kept r [] = refl
  leaves_kept r (l ∷ rest) = refl

  first_wait_kept : (links : List ℕ) → first_wait U links ≡ first_wait after links
  first_wait_kept [] = refl
  first_wait_kept (l ∷ rest) = refl

  wait_kept : (t : ℕ) → (t ≡ closed → ⊥) → turn_wait U t ≡ turn_wait after t
  wait_kept t n = rw (kept t n)

  -- a walk that avoids the closed turn
  module _ (links : List ℕ) (avoids : Avoids closed (turns_of U links)) where
    permitted_kept : (r : ℕ) → permitted U r links ≡ permitted after r links
    unfolding permitted turn_of
    permitted_kept r = rw (
      leaves_kept r links,
      map_kept closed (λ t. not (eqb (U.walk t) barred)) (λ t. not (eqb (walks t) barred)) (λ t n. ap (λ (x : ℕ). not (eqb x barred)) (kept t n)) (turns_of U links) avoids,
      twos_kept closed (λ p t. allowed (between U p t)) (λ p t. allowed (between after p t)) (λ p t n m. ap allowed (between_kept p t n m)) (turns_of U links) avoids,
    )

    cost_kept : cost_of U links ≡ cost_of after links
    unfolding cost_of turn_of
    cost_kept = rw (
      first_wait_kept links,
      map_kept closed (turn_wait U) (turn_wait after) wait_kept (turns_of U links) avoids,
      map_kept closed U.walk walks kept (turns_of U links) avoids,
      twos_kept closed (λ p t. seconds (between U p t)) (λ p t. seconds (between after p t)) (λ p t n m. ap seconds (between_kept p t n m)) (turns_of U links) avoids,
    )

    key_kept : key_of U links ≡ key_of after links
    unfolding key_of
    key_kept = λ i. record { cost = cost_kept i; links = length links }

  open_avoids : (turns : List ℕ) → all (map (λ t. not (eqb (walks t) barred)) turns) ≡ true → Avoids closed turns
  open_avoids [] h = tt
  open_avoids (t ∷ rest) h =
      let (here, later) = both (not (eqb (walks t) barred)) (all (map (λ t. not (eqb (walks t) barred)) rest)) h in
      (λ e. not_here t here e, open_avoids rest later)
    where
      not_here : (t : ℕ) → not (eqb (walks t) barred) ≡ true → t ≡ closed → ⊥
      not_here t h e =
          let is : eqb (walks t) barred ≡ true = eq-eqb _ _ (ap walks e ∙ barred-now) in
          clash (cc (h, is))

  -- what is tested before the turns' walks
  abbrev earlier_tests : ℕ → List ℕ → Bool
  earlier_tests r links =
      all (map (λ l. ltb l U.links) links)
      && leaves after r links
      && all (twos (λ a b. eqb (U.to a) (U.from b)) links)
      && all (map (λ t. ltb t U.turns) (turns_of U links))

  -- a walk that is permitted now avoids it
  permitted_avoids : (r : ℕ) (links : List ℕ) → permitted after r links ≡ true → Avoids closed (turns_of U links)
  unfolding permitted turn_of
  permitted_avoids r links h =
      open_avoids (turns_of U links)
      (last_but_one (earlier_tests r links) (all (map (λ t. not (eqb (walks t) barred)) (turns_of U links))) (all (twos (λ p t. allowed (between after p t)) (turns_of U links))) h)

  better_kept : (one other : List ℕ) → key_of U one ≡ key_of after one → key_of U other ≡ key_of after other → Better after one other → Better U one other
  better_kept one other e f (inl h) = inl (subst (λ (x : Key). Less x (key_of U other)) (sym e) (subst (λ (x : Key). Less (key_of after one) x) (sym f) h))
  better_kept one other e f (inr h) = inr (e ∙ h.0 ∙ sym f, h.1)

  -- a kind of walks of which closing leaves those that avoid it
  record Lessened (W left : List ℕ → Type 0) : Type 0 where
    stays : (links : List ℕ) → W links → Avoids closed (turns_of U links) → left links
    avoids : (links : List ℕ) → left links → Avoids closed (turns_of U links)
    had : (links : List ℕ) → left links → W links

  module _ (W left : List ℕ → Type 0) (lessened : Lessened W left) (back back-now : List ℕ → ℕ) (back-same : (links : List ℕ) → back links ≡ back-now links) where
    chosen_kept : (links : List ℕ) → Chosen U W links → Avoids closed (turns_of U links) → Chosen after left links
    chosen_kept links c avoids =
        record {
          walk = lessened.stays links c.walk avoids;
          best = λ other w better. c.best other (lessened.had other w) (better_kept other links (key_kept other (lessened.avoids other w)) (key_kept links avoids) better);
        }

    -- an untouched entry is true before and now
    both_true : Untouched U W closed → (entry : Entry) × True U W back entry × True after left back-now entry
    both_true (avoided links c avoids) = (
      record { cost = cost_of U links; links = length links; back = back links },
      chosen links c refl,
      chosen links (chosen_kept links c avoids) (λ i. record { cost = cost_kept links avoids i; links = length links; back = back-same links i }),
    )
    both_true (no_walk none) = (no_entry, absent none refl, absent (λ links w. none links (lessened.had links w)) refl)

  goes_on : (r : ℕ) (links : List ℕ) → permitted after r links ≡ true → permitted U r links ≡ true
  goes_on r links h = permitted_kept links (permitted_avoids r links h) r ∙ h

  turn_lessened : (r t : ℕ) → Lessened (TurnWalk U r t) (TurnWalk after r t)
  turn_lessened r t =
      record {
        stays = λ links w avoids. record { goes = sym (permitted_kept links avoids r) ∙ w.goes; within = w.within; before = w.before; ends = w.ends };
        avoids = λ links w. permitted_avoids r links w.goes;
        had = λ links w. record { goes = goes_on r links w.goes; within = w.within; before = w.before; ends = w.ends };
      }

  link_lessened : (r l : ℕ) → Lessened (LinkWalk U r l) (LinkWalk after r l)
  link_lessened r l =
      record {
        stays = λ links w avoids. record { goes = sym (permitted_kept links avoids r) ∙ w.goes; before = w.before; ends = w.ends };
        avoids = λ links w. permitted_avoids r links w.goes;
        had = λ links w. record { goes = goes_on r links w.goes; before = w.before; ends = w.ends };
      }

  turn_both_true : (r t : ℕ) → Untouched U (TurnWalk U r t) closed → (entry : Entry) × TrueTurn U r t entry × TrueTurn after r t entry
  unfolding turn_of
  turn_both_true r t h = both_true (TurnWalk U r t) (TurnWalk after r t) (turn_lessened r t) (turn_back U) (turn_back after) (λ links. refl) h

  link_both_true : (r l : ℕ) → Untouched U (LinkWalk U r l) closed → (entry : Entry) × TrueLink U r l entry × TrueLink after r l entry
  unfolding turn_of
  link_both_true r l h = both_true (LinkWalk U r l) (LinkWalk after r l) (link_lessened r l) (link_back U) (link_back after) (λ links. refl) h

-- a good book with one change closed
module _ (book : List ℕ) (counts : Counts) (closed : ℕ) (checked : check_of book ≡ Ok counts) (within : closed < counts.turns) where
  abbrev shut : List ℕ
  shut = with_walk book counts closed barred

  abbrev before : View
  before = view_of book counts

  abbrev now : View
  now = view_of shut counts

  wrote : WalkWritten book counts closed barred
  wrote = walk_written book counts closed barred checked within

  -- past the table both walks are read as 0
  past : (walks : ℕ → ℕ) (t : ℕ) → counts.turns ≤ t → get_or (up_to counts.turns walks) t 0 ≡ 0
  past walks t h = get_or-eq_default (up_to counts.turns walks) 0 (omega (arith, up_to_length walks counts.turns))

  walk_kept : (t : ℕ) → (t ≡ closed → ⊥) → before.walk t ≡ now.walk t
  walk_kept t other = by (dec_lt t counts.turns)
    where
      by : Dec (t < counts.turns) → before.walk t ≡ now.walk t
      by (yes h) = up_to_at (turn_walk (turn_table book counts)) counts.turns t 0 h ∙ sym (wrote.other_walk t other) ∙ sym (up_to_at (turn_walk (turn_table shut counts)) counts.turns t 0 h)
      by (no n) = past (turn_walk (turn_table book counts)) t (omega arith) ∙ sym (past (turn_walk (turn_table shut counts)) t (omega arith))

  walk_closed : now.walk closed ≡ barred
  walk_closed = up_to_at (turn_walk (turn_table shut counts)) counts.turns closed 0 within ∙ wrote.new_walk

  -- but for the walks all is read as before
  view_same : with_walks before now.walk ≡ now
  view_same = λ i.
      record {
        nodes = counts.nodes;
        links = counts.links;
        turns = counts.turns;
        from = link_from (sym wrote.links i);
        to = link_to (sym wrote.links i);
        line = link_line (sym wrote.links i);
        ride = link_ride (sym wrote.links i);
        headway = line_headway (sym wrote.lines i);
        first = λ k. sym (wrote.first k) i;
        second = λ k. sym (wrote.second k) i;
        walk = now.walk;
        listed = listed_in (sym wrote.pairs i) counts.pairs;
        carry_over = counts.carry_over;
      }

  few : counts.turns < start_back
  few = omega (arith, (good_book book counts checked).limited)

  module _ (r : ℕ) where
    pub turn_stays : (t : ℕ) (entry : Entry) → Untouched before (TurnWalk before r t) closed → TrueTurn before r t entry → TrueTurn now r t entry
    turn_stays t entry h true-before =
        let (found, then, later) = turn_both_true before now.walk closed walk_kept walk_closed r t h in
        subst (TrueTurn now r t) (turn_one before (good_view book counts (walks_of book counts) checked) few r t found entry then true-before) (subst (λ (seen : View). TrueTurn seen r t found) view_same later)

    pub link_stays : (l : ℕ) (entry : Entry) → Untouched before (LinkWalk before r l) closed → TrueLink before r l entry → TrueLink now r l entry
    link_stays l entry h true-before =
        let (found, then, later) = link_both_true before now.walk closed walk_kept walk_closed r l h in
        subst (TrueLink now r l) (link_one before (good_view book counts (walks_of book counts) checked) few r l found entry then true-before) (subst (λ (seen : View). TrueLink seen r l found) view_same later)

    shut_good : check_of shut ≡ Ok counts
    unfolding seconds_good
    shut_good = wrote.good refl

    labels_keep : (turns links turns-now links-now : Table) → TrueLabels before r turns links → TrueLabels now r turns-now links-now → Keeps before r closed turns links turns-now links-now
    labels_keep turns links turns-now links-now labels labels-now =
        let good-now = good_view shut counts (walks_of shut counts) shut_good in
        record {
          turn = λ t h untouched. turn_one now good-now few r t (entry_at turns-now t) (entry_at turns t) (labels-now.turn.entry t h) (turn_stays t (entry_at turns t) untouched (labels.turn.entry t h));
          link = λ l h untouched. link_one now good-now few r l (entry_at links-now l) (entry_at links l) (labels-now.link.entry l h) (link_stays l (entry_at links l) untouched (labels.link.entry l h));
        }

-- CLOSING A CHANGE alters no entry whose chosen walk avoided it, and none that had no walk
pub closing_keeps : (book : List ℕ) (counts : Counts) → check_of book ≡ Ok counts → (r closed : ℕ) (turns links : Table) (altered_turns altered_links : ℕ) (book-after : List ℕ) (turns-after links-after : Table)
    → Edit book r closed barred turns links (altered altered_turns altered_links) book-after turns-after links-after → Keeps (view_of book counts) r closed turns links turns-after links-after
closing_keeps book counts checked r closed turns links n m book-after t l (refused found e a f g h) = clash (cc)
closing_keeps book counts checked r closed turns links n m book-after t l (untrue own e untrue_labels a f g h) = clash (cc)
closing_keeps book counts checked r closed turns links n m book-after t l (done own e labels f labels-after a) =
    let passed = edit_passed book r closed barred turns links own e in
    let own-checked : check_of book ≡ Ok own = passed.checked in
    let same : own ≡ counts = cc in
    subst (λ (x : Counts). Keeps (view_of book x) r closed turns links t l) same
    (labels_keep book own closed own-checked passed.listed r turns links t l labels (subst (λ (seen : List ℕ). LabelsOf seen r t l own) f labels-after))
