-- The contract of check is an equation, so it leaves one answer for each list of bytes.
use Prim.Native.Nat.{ℕ}
use mathlib.Core.Path.{◌≡◌, sym, ◌∙◌}
use mathlib.Core.List.{List}
use Rattle.book.specs.Check.{Checked}
use Rattle.book.specs.Check.{check_of}

pub check_determined : (book : List ℕ) (one other : Checked) → one ≡ check_of book → other ≡ check_of book → one ≡ other
check_determined book one other a b = a ∙ sym b
