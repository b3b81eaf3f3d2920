-- The dearest of all is the dearer of what the links passed gave and of what is left.
use Rattle.std.proofs.Common.{◌≡◌, drop}
use Rattle.book.specs.Tables.{link_table}
use Rattle.book.specs.Entries.{link_line}
use Rattle.fare.specs.Amounts.{dearer}
use Rattle.fare.specs.Fares.{basic_in}
use Rattle.fare.specs.Fare.{dearest}
use Rattle.fare.proofs.reckoning.CheckedFares.dearest_basic.Given as goal

abbrev pub invariant-loop-link : goal.invariant-loop-link
invariant-loop-link l = dearest (λ link. basic_in l.self.book.counts.links l.self.fares.table.now (link_line (link_table l.self.book.bytes.now l.self.book.counts) link)) l.links ≡ dearer l.basic (dearest (λ link. basic_in l.self.book.counts.links l.self.fares.table.now (link_line (link_table l.self.book.bytes.now l.self.book.counts) link)) (drop l.link-index l.links))
