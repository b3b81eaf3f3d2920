-- The four figures add up: to the cost of any walk, to that of a given one as it is answered, and for a route to the label of its last link.
use Prim.Native.Nat.{ℕ, ◌≤◌, ◌<◌}
use mathlib.Core.Path.{◌≡◌, refl, sym, ap, ◌∙◌, subst}
use mathlib.Core.List.{List, [], ◌∷◌, ◌++◌, reverse, reverse-append}
use mathlib.Core.Bool.{Bool, true, false}
use native.Mathlib.Omega.{arith}
use lib.ListN.{length, length-append}
use lib.Dec.{ltb, leb}
use borrow.Author.Tests.{lt-leb, le-ltb}
use Rattle.book.specs.declared.Counts.{Counts}
use Rattle.std.specs.Prelude.{Ok, Err}
use Rattle.book.specs.Check.{Checked, check_of}
use Rattle.walk.specs.declared.Split.{Split}
use Rattle.book.specs.declared.Refusal.TheVariants.{NoNode}
use Rattle.walk.specs.declared.NoCost.TheVariants.{Refused, TooLong, NotPermitted}
use Rattle.walk.specs.View.{View, view_of}
use Rattle.walk.specs.Walks.{permitted, cost_of, split_of, total}
use Rattle.walk.specs.Labels.{Key, Entry, start_back, Chosen, LinkWalk, NodeWalk, stays, enters, chosen, TrueLink, link_back, Route, Table, entry_at, TrueTable}
use Rattle.walk.specs.Given.{Answer, permitted_at, most_links_given, or_else, cost_answer, cost_of_walk}
use Rattle.walk.specs.steps.Splits.{split_in}
use Rattle.walk.specs.steps.ViewNet.{net}
use Rattle.walk.proofs.theory.Laws.{clash}
use Rattle.walk.proofs.theory.Walks.{link_head}
use Rattle.walk.proofs.GoodView.{GoodView}
use Rattle.walk.proofs.KeyLaws.{laws}
use Rattle.walk.proofs.TrueEntries.{link_matches}
use Rattle.walk.proofs.LabelLaws.{link_one}

pub adds_up : (U : View) (links : List ℕ) → total (split_of U links) ≡ cost_of U links
unfolding cost_of
adds_up U links = refl

-- a permitted walk of a checked book is answered by its cost and its four figures
pub given_costed : (book : List ℕ) (r : ℕ) (links : List ℕ) (counts : Counts) → check_of book ≡ Ok counts → r < counts.nodes → length links ≤ most_links_given → permitted (view_of book counts) r links ≡ true
    → cost_of_walk book r links ≡ permitted_at (cost_of (view_of book counts) links) (split_of (view_of book counts) links)
unfolding cost_answer
given_costed book r links counts checked node few goes = rw (checked, lt-leb _ _ node, le-ltb _ _ few, goes)

abbrev cost_in : Answer → ℕ
cost_in (Ok costed) = costed.cost
cost_in (Err none) = 0

-- whatever the book, the origin and the links
pub answer_adds_up : (book : List ℕ) (r : ℕ) (links : List ℕ) (cost : ℕ) (split : Split) → permitted_at cost split ≡ cost_of_walk book r links → total split ≡ cost
unfolding cost_answer
answer_adds_up book r links cost split = by (check_of book)
  where
    told : (U : View) (none long goes : Bool) → permitted_at cost split ≡ or_else none (Err (Refused NoNode)) (or_else long (Err TooLong) (or_else goes (permitted_at (cost_of U links) (split_of U links)) (Err NotPermitted))) → total split ≡ cost
    told U true long goes e = clash (cc)
    told U false true goes e = clash (cc)
    told U false false false e = clash (cc)
    told U false false true e =
        let cost_same : cost ≡ cost_of U links = ap cost_in e in
        let split-same : split ≡ split_of U links = ap split_in e in
        ap total split-same ∙ adds_up U links ∙ sym cost_same

    by : (checked : Checked) → permitted_at cost split ≡ cost_answer checked book r links → total split ≡ cost
    by (Err found) e = clash (cc)
    by (Ok counts) e = told (view_of book counts) (leb counts.nodes r) (ltb most_links_given (length links)) (permitted (view_of book counts) r links) e

module _ (U : View) (good : GoodView U) (few : U.turns < start_back) (r : ℕ) where
  -- the label of a link is the sum of its chosen walk's figures
  pub label_adds_up : (l : ℕ) (e : Entry) (links : List ℕ) → TrueLink U r l e → Chosen U (LinkWalk U r l) links → e.cost ≡ total (split_of U links)
  label_adds_up l e links label walk =
      ap (λ (x : Entry). x.cost) (link_one U good few r l e (record { cost = cost_of U links; links = length links; back = link_back U links }) label (chosen links walk refl))
      ∙ sym (adds_up U links)

  link_exists : (l : ℕ) (links : List ℕ) → LinkWalk U r l links → l < U.links
  link_exists l links walk =
      let (k, b, inside) = (link_matches U good r l).inward links walk in
      (link_head Key (net U r) (laws U good r) inside).0

  same_last : (before : List ℕ) (l : ℕ) (other : List ℕ) (last : ℕ) → before ++ (l ∷ []) ≡ other ++ (last ∷ []) → l ≡ last
  same_last before l other last e =
      let turned : l ∷ reverse before ≡ last ∷ reverse other = sym (reverse-append before (l ∷ [])) ∙ ap reverse e ∙ reverse-append other (last ∷ []) in
      cc

  -- a route is the chosen walk of its last link too
  pub route_adds_up : (s : ℕ) (table : Table) → TrueTable U.links (TrueLink U r) table → (links : List ℕ) → Route U r s links → (before : List ℕ) (last : ℕ) → links ≡ before ++ (last ∷ []) → (entry_at table last).cost ≡ total (split_of U links)
  route_adds_up s table labels links route before last e = by route.walk
    where
      by : NodeWalk U r s links → (entry_at table last).cost ≡ total (split_of U links)
      by (stays none here) =
          let counted = ap length (sym e ∙ none) in
          absurd (omega (arith, length-append before (last ∷ [])))
      by (enters l walk to) =
          let same : l ≡ last = same_last walk.before l before last (sym walk.ends ∙ e) in
          subst (λ (x : ℕ). (entry_at table x).cost ≡ total (split_of U links)) same
          (label_adds_up l (entry_at table l) links (labels.entry l (link_exists l links walk)) (record { walk = walk; best = λ other w better. route.best other (enters l w to) better }))
