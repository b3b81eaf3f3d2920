-- Counts that pass their test are within their limits.
use Prim.Native.Nat.{◌≤◌}
use mathlib.Core.Path.{◌≡◌, refl}
use mathlib.Core.Bool.{Bool, true, false, ◌&&◌}
use native.Mathlib.Omega.{arith}
use borrow.Author.Tests.{leb-true}
use Rattle.book.specs.declared.Counts.{Counts}
use Rattle.book.specs.Tables.{book_end}
use Rattle.book.specs.Header.{counts_good, most_nodes, most_lines, most_links, most_turns, most_pairs, most_carry_over}

-- both of two tests hold
pub both : (a b : Bool) → (a && b) ≡ true → (a ≡ true) × (b ≡ true)
both true b h = (refl, h)
both false b h = (cc, cc)

pub record Limits (counts : Counts) : Type 0 where
  pub nodes : counts.nodes ≤ most_nodes
  pub lines : counts.lines ≤ most_lines
  pub links : counts.links ≤ most_links
  pub turns : counts.turns ≤ most_turns
  pub pairs : counts.pairs ≤ most_pairs
  pub carry_over : counts.carry_over ≤ most_carry_over

pub limits : (counts : Counts) → counts_good counts ≡ true → Limits counts
unfolding counts_good
limits counts h =
    let (rest, o) = both _ _ h in
    let (rest, p) = both _ _ rest in
    let (rest, t) = both _ _ rest in
    let (rest, k) = both _ _ rest in
    let (n, l) = both _ _ rest in
    record {
      nodes = leb-true _ _ n;
      lines = leb-true _ _ l;
      links = leb-true _ _ k;
      turns = leb-true _ _ t;
      pairs = leb-true _ _ p;
      carry_over = leb-true _ _ o;
    }

-- so the length that they give is far below the largest number
pub end_limited : (counts : Counts) → counts_good counts ≡ true → book_end counts ≤ 53777
end_limited counts h =
    let within = limits counts h in
    omega (arith, within.lines, within.links, within.turns, within.pairs)
