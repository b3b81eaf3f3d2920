-- A table of another length is not good, and one of the right length is good where its entries are.
use borrow.Author.Tests.{eq-eqb, ne_eqb}
use Rattle.std.proofs.Common.{arith, ◌≡◌, ◌*◌, length, sym, ◌∙◌}
use Rattle.sheet.specs.FareSheet.{entry_bytes}
use Rattle.sheet.proofs.FareTables.{other_bytes, all_entries, whole_good}
use Rattle.sheet.proofs.faring.read_fares.Goals as goal

pub returns-then-given-table : goal.returns-then-given-table
returns-then-given-table c = record { tells = sym (other_bytes c.args.counts c.args.given.table.now c.args.given.terms (λ e. omega arith)); left = rw (ne_eqb _ _ c.if-given-table.true) }

pub returns : goal.returns
returns c =
    let whole : length c.args.given.table.now ≡ entry_bytes * length c.args.table.now = omega arith in
    record {
      tells = c.fares_good.ensures ∙ whole_good c.args.counts c.args.given.table.now c.args.given.terms _ whole _ c.read_table.ensures;
      left = rw (eq-eqb _ _ whole) (c.read_table.ensures ∙ all_entries c.args.counts c.args.given.table.now c.args.given.terms _ whole);
    }
