-- What the theory needs of a view: its turns ascend, and their links exist and meet.
use Prim.Native.Nat.{ℕ, ◌+◌, ◌≤◌, ◌<◌}
use mathlib.Core.Path.{◌≡◌, refl, sym}
use mathlib.Core.Bool.{Bool, true, false, not, ◌&&◌}
use native.Mathlib.Omega.{arith}
use native.Mathlib.Decide.{dec_lt}
use lib.Dec.{eqb}
use lib.ListN.{get_or}
use borrow.Author.Tests.{eq-eqb, eqb-true, not-false, not-true}
use Rattle.book.proofs.FirstBad.{First, first_bad_lem}
use Rattle.book.proofs.Limits.{both}
use mathlib.Core.List.{List}
use Rattle.book.specs.declared.Counts.{Counts}
use Rattle.std.specs.Prelude.{Ok}
use Rattle.book.specs.Tables.{link_table}
use Rattle.book.specs.Entries.{link_line}
use Rattle.book.specs.Check.{check_of}
use Rattle.book.proofs.GoodBook.{good_book}
use Rattle.walk.specs.View.{View, view_with}
use Rattle.walk.specs.Walks.{turn_of, paid_if, boards, link_wait, turn_wait}
use Rattle.walk.specs.steps.Costs.{link_cost, turn_cost}

pub record GoodView (U : View) : Type 0 where
  pub first : (t : ℕ) → t < U.turns → U.first t < U.links
  pub second : (t : ℕ) → t < U.turns → U.second t < U.links
  pub meet : (t : ℕ) → t < U.turns → U.to (U.first t) ≡ U.from (U.second t)
  -- turns ascend strictly by first link, then second link
  pub firsts : (s t : ℕ) → s < t → t < U.turns → U.first s ≤ U.first t
  pub seconds : (s t : ℕ) → s < t → t < U.turns → U.first s ≡ U.first t → U.second s < U.second t

-- a turn is known by its links
module _ (U : View) (good : GoodView U) where
  pub same_turn : (s t : ℕ) → s < U.turns → t < U.turns → U.first s ≡ U.first t → U.second s ≡ U.second t → s ≡ t
  same_turn s t a b f g = by (dec_lt s t) (dec_lt t s)
    where
      by : Dec (s < t) → Dec (t < s) → s ≡ t
      by (yes h) d = absurd (omega (arith, good.seconds s t h b f))
      by (no n) (yes h) = absurd (omega (arith, good.seconds t s h a (sym f)))
      by (no n) (no m) = omega arith

module _ (U : View) where
  abbrev other : ℕ → ℕ → ℕ → Bool
  other a b t = not (eqb (U.first t) a && eqb (U.second t) b)

  found : (a b : ℕ) → First (other a b) 0 U.turns (turn_of U a b)
  unfolding turn_of
  found a b = first_bad_lem (other a b) U.turns

  pub turn_within : (a b : ℕ) → turn_of U a b ≤ U.turns
  turn_within a b = (found a b).within

  -- a change that is in the table is found, with its links
  pub turn_links : (a b : ℕ) → turn_of U a b < U.turns → (U.first (turn_of U a b) ≡ a) × (U.second (turn_of U a b) ≡ b)
  turn_links a b h =
      let (f, g) = both _ _ (not-false _ ((found a b).at h)) in
      (eqb-true _ _ f, eqb-true _ _ g)

  -- and no other is found for it
  pub turn_of_lem : GoodView U → (t : ℕ) → t < U.turns → turn_of U (U.first t) (U.second t) ≡ t
  turn_of_lem good t h = by (dec_lt t (turn_of U (U.first t) (U.second t)))
    where
      by : Dec (t < turn_of U (U.first t) (U.second t)) → turn_of U (U.first t) (U.second t) ≡ t
      by (yes l) =
          let m : other (U.first t) (U.second t) t ≡ true = (found (U.first t) (U.second t)).before t (omega arith) l in
          let e : (eqb (U.first t) (U.first t) && eqb (U.second t) (U.second t)) ≡ true = rw (eq-eqb (U.first t) (U.first t) refl, eq-eqb (U.second t) (U.second t) refl) in
          let f : (eqb (U.first t) (U.first t) && eqb (U.second t) (U.second t)) ≡ false = not-true _ m in
          cc
      by (no n) =
          let l : turn_of U (U.first t) (U.second t) < U.turns = omega arith in
          let (f, g) = turn_links (U.first t) (U.second t) l in
          same_turn U good (turn_of U (U.first t) (U.second t)) t l h f g

-- the view of a checked book is good, whatever the walks
pub good_view : (book : List ℕ) (counts : Counts) (walks : List ℕ) → check_of book ≡ Ok counts → GoodView (view_with book counts walks)
good_view book counts walks h =
    let g = good_book book counts h in
    record {
      first = λ t l. (g.turn t l).first;
      second = λ t l. (g.turn t l).second;
      meet = λ t l. (g.turn t l).meet;
      firsts = λ s t a l. (g.turns s t a l).first;
      seconds = λ s t a l. (g.turns s t a l).second;
    }

-- a link of a checked book costs at most 39,600
pub link_limit : (book : List ℕ) (counts : Counts) (walks : List ℕ) → check_of book ≡ Ok counts → (l : ℕ) → l < counts.links → link_cost (view_with book counts walks) l ≤ 39600
link_limit book counts walks h l within =
    let g = good_book book counts h in
    let link = g.link l within in
    omega (arith, link.ride, g.headway (link_line (link_table book counts) l) link.line)

paid_most : (test : Bool) (wait : ℕ) → paid_if test wait ≤ wait
paid_most true wait = omega arith
paid_most false wait = omega arith

-- and so do the ride and the wait of a turn's second link
module _ (book : List ℕ) (counts : Counts) (walks : List ℕ) (h : check_of book ≡ Ok counts) (t : ℕ) (within : t < counts.turns) where
  abbrev U : View
  U = view_with book counts walks

  pub ridden_limit : U.ride (U.second t) + turn_wait U t ≤ 39600
  ridden_limit = omega (arith, link_limit book counts walks h _ ((good_book book counts h).turn t within).second, paid_most (boards U t) (link_wait U (U.second t)))

  -- with a walk of any number
  pub turn_limit : turn_cost U t ≤ get_or walks t 0 + 39600
  unfolding turn_cost
  turn_limit = omega (arith, ridden_limit)
