-- What a case says is tested by computing the labels of its view; a test that passes proves the claim over walks, whatever the view.
use Prim.Native.Nat.{ℕ, zero, suc, ◌<◌}
use mathlib.Core.Path.{◌≡◌, refl, sym, ap, ap₂, ◌∙◌, subst}
use mathlib.Core.List.{List, [], ◌∷◌, reverse}
use mathlib.Core.Bool.{Bool, true, false, not, ◌&&◌}
use native.Mathlib.Omega.{arith}
use lib.Dec.{eqb}
use lib.ListN.{length, get_or}
use borrow.Author.Tests.{eqb-true, eq-eqb, not-true}
use Rattle.book.specs.declared.Counts.{Counts}
use Rattle.book.specs.Check.{Checked}
use Rattle.std.specs.Prelude.{Ok, Err}
use Rattle.book.proofs.Limits.{both}
use Rattle.walk.specs.View.{View, up_to}
use Rattle.walk.specs.Labels.{Key, Entry, key_of, no_entry, TrueTurn, TrueLink, NodeWalk}
use Rattle.walk.specs.Counting.{same_entry, differing}
use Rattle.walk.specs.Cases.{Claim, turns_are, links_are, route_is, route_costs, no_route, counts_are, Table, RouteIs, Says, All}
use Rattle.walk.specs.steps.Net as net-walks
use Rattle.walk.specs.steps.Net.{Back, start, via, Entry as Reached, unreached, reached, TrueTurns, TrueLinks, TrueRoute}
use Rattle.walk.specs.steps.Reading.{read_route}
use Rattle.walk.specs.steps.ViewNet.{net, figures}
use Rattle.walk.specs.steps.Rows.{key_less, table_of, sweep_of, turn_rows, link_row, route_row}
use Rattle.walk.proofs.theory.Laws.{clash, one_more}
use Rattle.walk.proofs.theory.Sweep.{Tested, turns_true, link_true, route_true}
use Rattle.walk.proofs.theory.Reading.{read_route_lem}
use Rattle.walk.proofs.GoodView.{GoodView}
use Rattle.walk.proofs.KeyLaws.{laws, shown_less, less_shown}
use Rattle.walk.proofs.Filling.{up_to_length, up_to_at}
use Rattle.walk.proofs.TrueEntries.{same_key, true_outward, chosen_outward, turn_matches, link_matches, node_matches}

-- the test of the keys' order is the order
pub tested : (U : View) (r : ℕ) → Tested Key (net U r) key_less
tested U r = record { less_yes = shown_less; less_no = λ a b h l. clash (cc (less_shown a b l, h)) }

-- tests of equality
abbrev same_back : Back → Back → Bool
same_back start start = true
same_back start (via p) = false
same_back (via p) start = false
same_back (via p) (via q) = eqb p q

abbrev same_reached : Reached Key → Reached Key → Bool
same_reached unreached unreached = true
same_reached unreached (reached k b) = false
same_reached (reached k b) unreached = false
same_reached (reached k b) (reached k' b') = eqb k.cost k'.cost && (eqb k.links k'.links && same_back b b')

same_back_lem : (b c : Back) → same_back b c ≡ true → b ≡ c
same_back_lem start start h = refl
same_back_lem start (via p) h = clash (cc)
same_back_lem (via p) start h = clash (cc)
same_back_lem (via p) (via q) h = ap via (eqb-true p q h)

same_reached_lem : (e f : Reached Key) → same_reached e f ≡ true → e ≡ f
same_reached_lem unreached unreached h = refl
same_reached_lem unreached (reached k b) h = clash (cc)
same_reached_lem (reached k b) unreached h = clash (cc)
same_reached_lem (reached k b) (reached k' b') h =
    let (c, rest) = both (eqb k.cost k'.cost) (eqb k.links k'.links && same_back b b') h in
    let (l, d) = both (eqb k.links k'.links) (same_back b b') rest in
    ap₂ reached (same_key k k' (eqb-true _ _ c) (eqb-true _ _ l)) (same_back_lem b b' d)

pub same_entry_lem : (e f : Entry) → same_entry e f ≡ true → e ≡ f
unfolding same_entry
same_entry_lem e f h =
    let (c, rest) = both (eqb e.cost f.cost) (eqb e.links f.links && eqb e.back f.back) h in
    let (l, b) = both (eqb e.links f.links) (eqb e.back f.back) rest in
    λ i. record { cost = eqb-true e.cost f.cost c i; links = eqb-true e.links f.links l i; back = eqb-true e.back f.back b i }

abbrev same_entries : List Entry → List Entry → Bool
same_entries [] [] = true
same_entries [] (f ∷ others) = false
same_entries (e ∷ rest) [] = false
same_entries (e ∷ rest) (f ∷ others) = same_entry e f && same_entries rest others

same_entries_lem : (es fs : List Entry) → same_entries es fs ≡ true → es ≡ fs
same_entries_lem [] [] h = refl
same_entries_lem [] (f ∷ others) h = clash (cc)
same_entries_lem (e ∷ rest) [] h = clash (cc)
same_entries_lem (e ∷ rest) (f ∷ others) h =
    let (here, later) = both (same_entry e f) (same_entries rest others) h in
    ap₂ ◌∷◌ (same_entry_lem e f here) (same_entries_lem rest others later)

abbrev same_numbers : List ℕ → List ℕ → Bool
same_numbers [] [] = true
same_numbers [] (b ∷ others) = false
same_numbers (a ∷ rest) [] = false
same_numbers (a ∷ rest) (b ∷ others) = eqb a b && same_numbers rest others

same_numbers_lem : (one other : List ℕ) → same_numbers one other ≡ true → one ≡ other
same_numbers_lem [] [] h = refl
same_numbers_lem [] (b ∷ others) h = clash (cc)
same_numbers_lem (a ∷ rest) [] h = clash (cc)
same_numbers_lem (a ∷ rest) (b ∷ others) h =
    let (here, later) = both (eqb a b) (same_numbers rest others) h in
    ap₂ ◌∷◌ (eqb-true a b here) (same_numbers_lem rest others later)

numbers_same : (numbers : List ℕ) → same_numbers numbers numbers ≡ true
numbers_same [] = refl
numbers_same (a ∷ rest) = rw (eq-eqb a a refl, numbers_same rest)

pub entry_same : (e : Entry) → same_entry e e ≡ true
unfolding same_entry
entry_same e = rw (eq-eqb e.cost e.cost refl, eq-eqb e.links e.links refl, eq-eqb e.back e.back refl)

abbrev same_counts : Counts → Counts → Bool
same_counts a b = eqb a.nodes b.nodes && (eqb a.lines b.lines && (eqb a.links b.links && (eqb a.turns b.turns && (eqb a.pairs b.pairs && eqb a.carry_over b.carry_over))))

-- the answer is Ok with these counts
abbrev pub good_with : Checked → Counts → Bool
good_with (Err found) counts = false
good_with (Ok found) counts = same_counts found counts

same_counts_lem : (a b : Counts) → same_counts a b ≡ true → a ≡ b
same_counts_lem a b h =
    let (nodes, rest) = both _ _ h in
    let (lines, rest) = both _ _ rest in
    let (links, rest) = both _ _ rest in
    let (turns, rest) = both _ _ rest in
    let (pairs, carry) = both _ _ rest in
    λ i.
    record {
      nodes = eqb-true a.nodes b.nodes nodes i;
      lines = eqb-true a.lines b.lines lines i;
      links = eqb-true a.links b.links links i;
      turns = eqb-true a.turns b.turns turns i;
      pairs = eqb-true a.pairs b.pairs pairs i;
      carry_over = eqb-true a.carry_over b.carry_over carry i;
    }

pub good_with_lem : (answer : Checked) (counts : Counts) → good_with answer counts ≡ true → answer ≡ Ok counts
good_with_lem (Err found) counts h = clash (cc)
good_with_lem (Ok found) counts h = ap Ok (same_counts_lem found counts h)

-- what a test tells apart, if everything passes it with itself
pub told_apart : {A : Type 0} (same : A → A → Bool) → ((a : A) → same a a ≡ true) → (one other : A) → not (same one other) ≡ true → one ≡ other → ⊥
told_apart same self one other h e =
    let yes-same : same one other ≡ true = ap (same one) (sym e) ∙ self one in
    let not_same : same one other ≡ false = not-true _ h in
    clash (cc)

-- some number is another
abbrev pub differ : List ℕ → List ℕ → Bool
differ numbers others = not (same_numbers numbers others)

pub not_equal : (numbers others : List ℕ) → differ numbers others ≡ true → numbers ≡ others → ⊥
not_equal = told_apart same_numbers numbers_same

-- a test at each number below n
abbrev below_all : ℕ → (ℕ → Bool) → Bool
below_all zero test = true
below_all (suc n) test = below_all n test && test n

each_below : (n : ℕ) (test : ℕ → Bool) → below_all n test ≡ true → (k : ℕ) → k < n → test k ≡ true
each_below zero test h k l = absurd (omega arith)
each_below (suc n) test h k l =
    let (before, last) = both (below_all n test) (test n) h in
    one_more n (λ k. test k ≡ true) (each_below n test before) last k (omega arith)

-- ---- a view whose computed rows stay as they are in one more round

abbrev pub settled : View → Bool
settled U = below_all U.turns (λ t. same_reached (table_of (turn_rows U 0) t) (sweep_of U 0 (turn_rows U 0) t))

unfoldable pub turn_at : View → ℕ → Reached Key
turn_at U t = table_of (turn_rows U 0) t

unfoldable pub link_at : View → ℕ → Reached Key
link_at U l = link_row U 0 (turn_rows U 0) l

unfoldable pub route_at : View → ℕ → Reached Key
route_at U s = route_row U 0 (turn_rows U 0) s

-- the links of a route, in travel order
unfoldable pub route_links : View → Reached Key → List ℕ
route_links U unreached = []
route_links U (reached k b) = reverse (read_route Key (net U 0) (table_of (turn_rows U 0)) (link_row U 0 (turn_rows U 0)) k.links (reached k b))

abbrev pub route_cost : Reached Key → ℕ → Bool
route_cost unreached cost = false
route_cost (reached k b) cost = eqb k.cost cost

abbrev pub is_out : Reached Key → Bool
is_out unreached = true
is_out (reached k b) = false

module _ (U : View) (good : GoodView U) (h : settled U ≡ true) where
  turns_inside : TrueTurns Key (net U 0) (turn_at U)
  unfolding turn_at
  turns_inside = (turns_true Key (net U 0) (laws U good 0) key_less (tested U 0) (table_of (turn_rows U 0))).0 (λ t l. same_reached_lem _ _ (each_below U.turns _ h t l))

  links_inside : TrueLinks Key (net U 0) (link_at U)
  unfolding turn_at link_at
  links_inside = link_true Key (net U 0) (laws U good 0) key_less (tested U 0) (table_of (turn_rows U 0)) turns_inside

  pub route_inside : (s : ℕ) → TrueRoute Key (net U 0) 0 s (route_at U s)
  unfolding link_at route_at
  route_inside s = route_true Key (net U 0) (laws U good 0) key_less (tested U 0) (link_at U) links_inside 0 s

  pub true_turn : (t : ℕ) → t < U.turns → TrueTurn U 0 t (figures (turn_at U t))
  true_turn t l = true_outward U 0 _ _ _ (turn_matches U good 0 t) (turn_at U t) (turns_inside t l)

  pub true_link : (l : ℕ) → l < U.links → TrueLink U 0 l (figures (link_at U l))
  true_link l m = true_outward U 0 _ _ _ (link_matches U good 0 l) (link_at U l) (links_inside l m)

  pub route_is_lem : (s cost : ℕ) (e : Reached Key) → TrueRoute Key (net U 0) 0 s e → route_cost e cost ≡ true → RouteIs U s cost (route_links U e)
  unfolding turn_at link_at route_links key_of
  route_is_lem s cost _ (net-walks.absent n) h = clash (cc)
  route_is_lem s cost _ (net-walks.chosen q {k = k} {b = b} c) h =
      let same = read_route_lem Key (net U 0) (laws U good 0) (turn_at U) turns_inside (link_at U) links_inside 0 s k.links q k b c (omega arith) in
      let (walk, key_same, back) = (node_matches U good 0 s).outward c.walk in
      subst (RouteIs U s cost) (ap reverse (sym same)) (record { route = chosen_outward U 0 _ _ _ (node_matches U good 0 s) c; costs = ap (λ (x : Key). x.cost) key_same ∙ eqb-true _ _ h })

  pub no_route_lem : (s : ℕ) (e : Reached Key) → TrueRoute Key (net U 0) 0 s e → is_out e ≡ true → (links : List ℕ) → NodeWalk U 0 s links → ⊥
  no_route_lem s _ (net-walks.absent n) h links w =
      let (k, b, w') = (node_matches U good 0 s).inward links w in
      n (reverse links) k b w'
  no_route_lem s _ (net-walks.chosen q c) h links w = clash (cc)

-- ---- a claim that passes its test holds

unfoldable pub passes : View → View → Claim → Bool
passes U changed (turns_are rows) = same_entries (up_to changed.turns (λ t. figures (turn_at changed t))) rows
passes U changed (links_are rows) = same_entries (up_to changed.links (λ l. figures (link_at changed l))) rows
passes U changed (route_is s cost links) = route_cost (route_at changed s) cost && same_numbers (route_links changed (route_at changed s)) links
passes U changed (route_costs s cost) = route_cost (route_at changed s) cost
passes U changed (no_route s) = is_out (route_at changed s)
passes U changed (counts_are turns links) =
    eqb (differing (λ t. figures (turn_at U t)) (λ t. figures (turn_at changed t)) U.turns) turns
    && eqb (differing (λ l. figures (link_at U l)) (λ l. figures (link_at changed l)) U.links) links

abbrev pub all_pass : View → View → List Claim → Bool
all_pass U changed [] = true
all_pass U changed (c ∷ rest) = passes U changed c && all_pass U changed rest

table_is : (count : ℕ) (TrueAt : ℕ → Entry → Type 0) (entry : ℕ → Entry) (rows : List Entry) → ((k : ℕ) → k < count → TrueAt k (entry k)) → same_entries (up_to count entry) rows ≡ true → Table count TrueAt rows
table_is count TrueAt entry rows all_true h =
    let same = same_entries_lem (up_to count entry) rows h in
    record {
      as_long = ap length (sym same) ∙ up_to_length entry count;
      each = λ k l. subst (TrueAt k) (sym (up_to_at entry count k no_entry l) ∙ ap (λ (x : List Entry). get_or x k no_entry) same) (all_true k l);
    }

module _ (U changed : View) (good : GoodView U) (good' : GoodView changed) (h : settled U ≡ true) (h' : settled changed ≡ true) where
  claim_holds : (c : Claim) → passes U changed c ≡ true → Says U changed c
  unfolding passes
  claim_holds (turns_are rows) p = table_is changed.turns (TrueTurn changed 0) (λ t. figures (turn_at changed t)) rows (true_turn changed good' h') p
  claim_holds (links_are rows) p = table_is changed.links (TrueLink changed 0) (λ l. figures (link_at changed l)) rows (true_link changed good' h') p
  claim_holds (route_is s cost links) p =
      let (c, l) = both (route_cost (route_at changed s) cost) (same_numbers (route_links changed (route_at changed s)) links) p in
      subst (RouteIs changed s cost) (same_numbers_lem _ _ l) (route_is_lem changed good' h' s cost (route_at changed s) (route_inside changed good' h' s) c)
  claim_holds (route_costs s cost) p = (route_links changed (route_at changed s), route_is_lem changed good' h' s cost (route_at changed s) (route_inside changed good' h' s) p)
  claim_holds (no_route s) p = no_route_lem changed good' h' s (route_at changed s) (route_inside changed good' h' s) p
  claim_holds (counts_are turns links) p =
      let (t, l) = both (eqb (differing (λ t. figures (turn_at U t)) (λ t. figures (turn_at changed t)) U.turns) turns) (eqb (differing (λ l. figures (link_at U l)) (λ l. figures (link_at changed l)) U.links) links) p in
      record {
        turn_before = λ t. figures (turn_at U t);
        turn_after = λ t. figures (turn_at changed t);
        link_before = λ l. figures (link_at U l);
        link_after = λ l. figures (link_at changed l);
        true_turn_before = true_turn U good h;
        true_turn_after = true_turn changed good' h';
        true_link_before = true_link U good h;
        true_link_after = true_link changed good' h';
        turn_count = eqb-true _ _ t;
        link_count = eqb-true _ _ l;
      }

  pub claims_hold : (claims : List Claim) → all_pass U changed claims ≡ true → All (Says U changed) claims
  claims_hold [] p = tt
  claims_hold (c ∷ rest) p =
      let (here, later) = both (passes U changed c) (all_pass U changed rest) p in
      (claim_holds c here, claims_hold rest later)
