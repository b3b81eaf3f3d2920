-- A test that holds hands its place in the answer to the rest; one that fails ends it. A table's test is told by its scan.
use Prim.Native.Nat.{ℕ}
use mathlib.Core.Path.{◌≡◌, refl, sym, ◌∙◌}
use mathlib.Core.Bool.{Bool, true, false, not}
use lib.Dec.{leb}
use borrow.Author.Tests.{not-true, not-false}
use Rattle.book.specs.declared.Refusal.{Refusal}
use Rattle.std.specs.Prelude.{Result, Ok, Err}
use Rattle.book.specs.FirstBad.{first_bad}
use Rattle.book.specs.Check.{Checked, unless, unless_all_good}
use Rattle.book.specs.steps.Scan.{scan, clean_or}

-- what the code's test t found of u, where the code asked whether t is false
pub held : {t u : Bool} → t ≡ u → not t ≡ false → u ≡ true
held e n = sym e ∙ not-false _ n

pub failed : {t u : Bool} → t ≡ u → not t ≡ true → u ≡ false
failed e n = sym e ∙ not-true _ n

module _ {t : Bool} (found : Refusal) (rest : Checked) where
  pub onward : t ≡ true → rest ≡ unless t found rest
  onward e = rw e

  pub stopped : t ≡ false → Err found ≡ unless t found rest
  stopped e = rw e

module _ (rest : Checked) where
  refused_at : (t : Bool) (found r : Refusal) → Err r ≡ clean_or t found → Err r ≡ unless t found rest
  refused_at true found r e = cc
  refused_at false found r e = cc

  onward_at : (t : Bool) (found : Refusal) → Ok tt ≡ clean_or t found → rest ≡ unless t found rest
  onward_at true found e = refl
  onward_at false found e = cc

  module _ (bad : ℕ → Refusal) (good : ℕ → Bool) (count : ℕ) {s : Result Unit Refusal} (scanned : s ≡ scan bad good count) where
    pub bad_table : {r : Refusal} → s ≡ Err r → Err r ≡ unless_all_good bad good count rest
    unfolding scan
    bad_table {r} e = refused_at (leb count (first_bad good count)) (bad (first_bad good count)) r (cc)

    pub clean_table : s ≡ Ok tt → rest ≡ unless_all_good bad good count rest
    unfolding scan
    clean_table e = onward_at (leb count (first_bad good count)) (bad (first_bad good count)) (cc)
