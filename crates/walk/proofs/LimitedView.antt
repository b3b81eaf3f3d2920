-- The figures of a checked book's own view are within document 01's limits.
use Prim.Native.Nat.{ℕ, zero, suc, ◌≤◌, ◌<◌}
use mathlib.Core.Path.{◌≡◌, refl, sym, ◌∙◌}
use mathlib.Core.List.{List}
use mathlib.Core.Bool.{Bool, true, false, ◌&&◌}
use mathlib.Core.Option.{Option, none, some}
use native.Mathlib.Omega.{arith}
use lib.Dec.{ltb, eqb}
use lib.ListN.{get_or}
use borrow.Author.Tests.{eqb-false, not-true}
use Rattle.book.specs.declared.Counts.{Counts}
use Rattle.std.specs.Prelude.{Ok}
use Rattle.book.specs.Tables.{turn_table, pair_table}
use Rattle.book.specs.Entries.{barred, turn_walk, pair_first, pair_second, pair_extra}
use Rattle.book.specs.Check.{check_of}
use Rattle.book.proofs.GoodBook.{GoodBook, good_book}
use Rattle.walk.specs.View.{view_of, view_with, walks_of, listed_in, found_or}
use Rattle.walk.specs.Walks.{look_up, listed_as, carried_if, between, allowed, seconds}
use Rattle.walk.specs.steps.ViewNet.{is_open}
use Rattle.walk.proofs.theory.Laws.{clash}
use Rattle.walk.proofs.GoodView.{link_limit, turn_limit}
use Rattle.walk.proofs.Filling.{up_to_at}
use Rattle.walk.proofs.ChosenLaws.{Limited}

-- a listed extra is that of some pair
listed_from : (table : List ℕ) (pairs p t extra : ℕ) → listed_in table pairs p t ≡ some extra → (k : ℕ) × (k < pairs) × (pair_extra table k ≡ extra)
unfolding listed_in
listed_from table zero p t extra h = clash (cc)
listed_from table (suc k) p t extra h = by (eqb (pair_first table k) p && eqb (pair_second table k) t) (listed_from table k p t extra) h
  where
    by : (test : Bool) → (listed_in table k p t ≡ some extra → (j : ℕ) × (j < k) × (pair_extra table j ≡ extra)) → found_or test (pair_extra table k) (listed_in table k p t) ≡ some extra
        → (j : ℕ) × (j < suc k) × (pair_extra table j ≡ extra)
    by true earlier e = (k, omega arith, cc)
    by false earlier e =
        let (j, l, same) = earlier e in
        (j, omega arith, same)

module _ (book : List ℕ) (counts : Counts) (h : check_of book ≡ Ok counts) where
  g : GoodBook book counts
  g = good_book book counts h

  walk_at : (t : ℕ) → t < counts.turns → (view_of book counts).walk t ≡ turn_walk (turn_table book counts) t
  walk_at t l = up_to_at (turn_walk (turn_table book counts)) counts.turns t 0 l

  walk_limit : (t : ℕ) → t < counts.turns → is_open (view_of book counts) t ≡ true → (view_of book counts).walk t ≤ 3600
  walk_limit t l o =
      let e = walk_at t l in
      let opened : (view_of book counts).walk t ≡ barred → ⊥ = eqb-false _ _ (not-true _ o) in
      let limit = (g.turn t l).seconds (λ z. opened (e ∙ z)) in
      omega arith

  -- whatever the walks as seen are
  pub extra_limit : (walks : List ℕ) (p t : ℕ) → allowed (between (view_with book counts walks) p t) ≡ true → seconds (between (view_with book counts walks) p t) ≤ 3600
  unfolding look_up
  extra_limit walks p t = by (listed_in (pair_table book counts) counts.pairs p t) refl
    where
      listed : (extra : ℕ) (test : Bool) → eqb extra barred ≡ test → listed_in (pair_table book counts) counts.pairs p t ≡ some extra → allowed (listed_as test extra) ≡ true → seconds (listed_as test extra) ≤ 3600
      listed extra true e same a = omega arith
      listed extra false e same a =
          let (k, l, at) = listed_from (pair_table book counts) counts.pairs p t extra same in
          let limit = (g.pair k l).seconds (λ z. eqb-false extra barred e (sym at ∙ z)) in
          omega arith

      carried : (test : Bool) → seconds (carried_if test counts.carry_over) ≤ 3600
      carried true = g.limited.carry_over
      carried false = omega arith

      by : (found : Option ℕ) → listed_in (pair_table book counts) counts.pairs p t ≡ found → allowed (look_up found counts.carry_over (get_or walks p 0) (get_or walks t 0)) ≡ true
          → seconds (look_up found counts.carry_over (get_or walks p 0) (get_or walks t 0)) ≤ 3600
      by (some extra) same a = listed extra (eqb extra barred) refl same a
      by none same a = carried (ltb 0 (get_or walks p 0) && ltb 0 (get_or walks t 0))

  pub limited_view : Limited (view_of book counts)
  limited_view =
      record {
        link = link_limit book counts (walks_of book counts) h;
        turn = λ t l o. omega (arith, walk_limit t l o, turn_limit book counts (walks_of book counts) h t l);
        extra = λ p t _ _ a. extra_limit (walks_of book counts) p t a;
        turns = g.limited.turns;
      }
