-- Label setting over a checked book: what the loop knows between two picks, whichever origin its starts are of, and that all labels are true at the end.
use Prim.Native.Nat.{ℕ, ◌-◌, ◌<◌}
use mathlib.Core.Path.{◌≡◌, sym, ap, ◌∙◌, subst}
use mathlib.Core.List.{List}
use mathlib.Core.Bool.{Bool, true, false}
use native.Mathlib.Omega.{arith}
use lib.ListN.{length, set, replicate, length-set, length-replicate}
use Rattle.book.specs.declared.Counts.{Counts}
use Rattle.std.specs.Prelude.{Ok}
use Rattle.book.specs.Check.{check_of}
use Rattle.book.specs.Entries.{turn_second}
use Rattle.book.specs.Tables.{turn_table}
use Rattle.book.proofs.GoodBook.{good_book}
use Rattle.walk.specs.View.{View, view_of, walks_of}
use Rattle.walk.specs.Labels.{Table, entry_at, start_back, TrueTurn, TrueLink, TrueTable, TrueLabels}
use Rattle.walk.proofs.GoodView.{GoodView, good_view}
use Rattle.walk.proofs.ChosenLaws.{Limited}
use Rattle.walk.proofs.LimitedView.{limited_view}
use Rattle.search.specs.steps.Tables.{table_up_to, Sized}
use Rattle.search.specs.steps.Starts.{start_entry, alone_entry}
use Rattle.search.specs.steps.Ends.{ended_by}
use Rattle.search.specs.steps.Picking.{is_candidate, LeastOf}
use Rattle.search.specs.steps.Passing.{StepFits, passed_to}
use Rattle.search.specs.steps.Marks.{settled_count}
use Rattle.search.proofs.TableLaws.{up_to_sized}
use Rattle.search.proofs.MarkLaws.{count_within}
use Rattle.search.proofs.LinkEnds.{links_true}
use Rattle.search.proofs.Underway.{Underway, begun, label_limits, more_done, settled_one, all_settled}

abbrev pub Starts : List ℕ → Counts → Table → ℕ → Type 0
Starts book counts table r = table ≡ table_up_to counts.turns (start_entry (view_of book counts) r)

pub record Going (book : List ℕ) (counts : Counts) (start table : Table) (marks : List Bool) : Type 0 where
  pub sized : Sized counts.turns table
  pub marked : length marks ≡ counts.turns
  pub way : (r : ℕ) → Starts book counts start r → Underway (view_of book counts) r table marks

module _ (book : List ℕ) (counts : Counts) (h : check_of book ≡ Ok counts) where
  abbrev U : View
  U = view_of book counts

  limited : Limited U
  limited = limited_view book counts h

  good : GoodView U
  good = good_view book counts (walks_of book counts) h

  pub few : U.turns < start_back
  few = omega (arith, (good_book book counts h).limited)

  pub set_going : (start : Table) (marks : List Bool) (r : ℕ) → Starts book counts start r → marks ≡ replicate counts.turns false → Going book counts start start marks
  set_going start marks r e m =
      record {
        sized = subst (Sized counts.turns) (sym e) (up_to_sized counts.turns (start_entry U r));
        marked = ap length m ∙ length-replicate counts.turns false;
        way = λ o s. subst (λ (x : Table). Underway U o x marks) (sym s) (subst (Underway U o (table_up_to counts.turns (start_entry U o))) (sym m) (begun U limited good few o));
      }

  module _ (start table : Table) (marks : List Bool) (going : Going book counts start table marks) (r : ℕ) (e : Starts book counts start r) (u : ℕ) (next : LeastOf table.cost table.links marks u) where
    pub picked_within : u < counts.turns
    picked_within = omega (arith, next.within, going.sized.cost)

    pub picked_limits : StepFits (entry_at table u).cost (entry_at table u).links
    picked_limits = label_limits U limited good few r table marks (going.way r e) u next

    pub fewer_left : counts.turns - settled_count (set marks u true) < counts.turns - settled_count marks
    fewer_left = omega (arith, more_done U limited good few r table marks (going.way r e) u next, count_within (set marks u true), length-set marks u true, going.marked)

    pub goes_on : (table' : Table) (marks' : List Bool) → table' ≡ table_up_to counts.turns (λ t. passed_to U u (entry_at table u).cost (entry_at table u).links (entry_at table t) t) → marks' ≡ set marks u true → Going book counts start table' marks'
    goes_on table' marks' t m =
        record {
          sized = subst (Sized counts.turns) (sym t) (up_to_sized counts.turns _);
          marked = ap length m ∙ length-set marks u true ∙ going.marked;
          way = λ o s. subst (λ (x : Table). Underway U o x marks') (sym t) (subst (Underway U o (table_up_to counts.turns (λ t. passed_to U u (entry_at table u).cost (entry_at table u).links (entry_at table t) t))) (sym m) (settled_one U limited good few o table marks (going.way o s) u next));
        }

  pub none_left : (start table : Table) (marks : List Bool) → Going book counts start table marks → ((v : ℕ) → v < length table.cost → is_candidate table.cost marks v ≡ false)
      → (r : ℕ) → Starts book counts start r → TrueTable counts.turns (TrueTurn U r) table
  none_left start table marks going no-candidate r e = all_settled U limited good few r table marks (going.way r e) no-candidate

  -- the links' entries follow from the turns'
  pub labels_true : (r : ℕ) (turns alone links : Table) → TrueTable counts.turns (TrueTurn U r) turns → alone ≡ table_up_to counts.links (alone_entry U r)
      → links ≡ ended_by (turn_second (turn_table book counts)) turns.cost turns.links counts.turns alone → TrueLabels U r turns links
  labels_true r turns alone links t a l =
      record {
        turn = t;
        link = subst (TrueTable counts.links (TrueLink U r)) (sym (l ∙ ap (ended_by (turn_second (turn_table book counts)) turns.cost turns.links counts.turns) a)) (links_true U good limited few r turns t);
      }
