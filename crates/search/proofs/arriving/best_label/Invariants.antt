-- The label held is the best of the links passed.
use Rattle.std.proofs.Common.{◌≡◌}
use Rattle.book.specs.Tables.{link_table}
use Rattle.book.specs.Entries.{link_to}
use Rattle.search.specs.steps.Arriving.{best_into}
use Rattle.search.specs.steps.Tables.{as_entry}
use Rattle.search.proofs.arriving.best_label.Given as goal

abbrev pub invariant-loop-link : goal.invariant-loop-link
invariant-loop-link l = as_entry l.best ≡ best_into (link_to (link_table l.book.bytes.now l.book.counts)) l.links.cost.now l.links.links.now l.destination.0 l.link
