-- What stands on a page once the line for a plan is put.
use Rattle.std.specs.Prelude.{ℕ, List}
use Rattle.sheet.specs.declared.Page.{Page}
use Rattle.sheet.specs.Line.{line}
use Rattle.sheet.specs.Sheet.{Planned}
use Rattle.sheet.specs.steps.Storing.{Put}

-- the line for the way from r to s
pub record LinePut (book : List ℕ) (r s : ℕ) (before after : Page) : Type 0 where
  pub fields : List ℕ
  pub planned : Planned book r s fields
  pub put : Put before (line fields) after
