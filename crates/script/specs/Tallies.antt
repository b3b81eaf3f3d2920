-- What came of a script's lines, counted.
use Rattle.std.specs.Prelude.{ℕ, ◌+◌, ◌%◌, Result, Ok, Err}
use Rattle.script.specs.declared.tallying.Tally.{Tally}
use Rattle.script.specs.declared.tallying.Came.{Came}
use Rattle.script.specs.declared.tallying.Came.TheVariants.{Unasked, AsExpected, NotAsExpected}
use Rattle.script.specs.declared.writing.Answer.{Answer}
use Rattle.script.specs.declared.writing.Fault.{Fault}

-- one more, within eight bytes
abbrev pub one_more : ℕ → ℕ
one_more count = (count + 1) % 18446744073709551616

-- the tally with one more line
abbrev pub tallied : Tally → Came → Tally
tallied tally Unasked = tally
tallied tally AsExpected = record tally { right = one_more tally.right }
tallied tally NotAsExpected = record tally { wrong = one_more tally.wrong }

-- what comes of a line that no answer is expected beside
abbrev pub shown : Result Answer Fault → Came
shown (Ok _) = Unasked
shown (Err _) = NotAsExpected
