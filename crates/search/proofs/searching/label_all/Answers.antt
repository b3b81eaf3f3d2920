-- The turns' entries are true, so what they offer to the links makes the links' entries true.
use Rattle.std.proofs.Common.{ℕ, List, ◌≡◌, sym, subst}
use Rattle.book.specs.Entries.{turn_second}
use Rattle.book.specs.Tables.{turn_table}
use Rattle.walk.specs.View.{view_with}
use Rattle.walk.specs.Labels.{Table, TrueTurn, TrueTable}
use Rattle.search.specs.Lent.{table_in}
use Rattle.search.specs.steps.Tables.{table_up_to, Sized}
use Rattle.search.specs.steps.Starts.{alone_entry}
use Rattle.search.specs.steps.Ends.{ended_by}
use Rattle.search.proofs.Determined.{true_sized}
use Rattle.search.proofs.Labelling.{labels_true}
use Rattle.search.proofs.OwnWalks.{front_seen}
use Rattle.search.proofs.TableLaws.{up_to_sized}
use Rattle.search.proofs.searching.label_all.Goals as goal

pub label_turns-requires : goal.label_turns-requires
label_turns-requires c = record { own = front_seen _ _ _ c.read_walks.ensures; sized = c.requires.turns_sized }

pub end_turns-requires : goal.end_turns-requires
end_turns-requires c = record {
  turns_sized = subst (Sized _) (sym c.lent.ensures) (true_sized _ _ _ c.label_turns.ensures.labelled);
  links_sized = subst (Sized _) (sym c.start_links.ensures.started) (up_to_sized _ _);
}

pub returns-clause-labelled : goal.returns-clause-labelled
returns-clause-labelled c =
    let turns = subst (λ (seen : List ℕ). TrueTable c.args.book.counts.turns (TrueTurn (view_with c.args.book.bytes.now c.args.book.counts seen) c.args.origin.0) (table_in c.label_turns.new.turns)) (front_seen _ _ _ c.read_walks.ensures) c.label_turns.ensures.labelled in
    let started = subst (λ (seen : List ℕ). table_in c.start_links.new.links ≡ table_up_to c.args.book.counts.links (alone_entry (view_with c.args.book.bytes.now c.args.book.counts seen) c.args.origin.0)) (front_seen _ _ _ c.read_walks.ensures) c.start_links.ensures.started in
    let ended = subst (λ (lent : Table). table_in c.end_turns.new.links ≡ ended_by (turn_second (turn_table c.args.book.bytes.now c.args.book.counts)) lent.cost lent.links c.args.book.counts.turns (table_in c.start_links.new.links)) c.lent.ensures c.end_turns.ensures.ended in
    labels_true _ _ c.args.book.good _ _ _ _ turns started ended
