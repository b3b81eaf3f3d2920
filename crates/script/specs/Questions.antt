-- What answers a question, and the names of the label buffers.
use Rattle.std.specs.Prelude.{◌≡◌, ◌<◌, ◌≤◌, ℕ, List, length, IfSome, Result, Ok, IfOk, IsOkUnless, codes}
use Rattle.script.specs.declared.figures.Buffer.{Buffer}
use Rattle.script.specs.declared.figures.Buffer.TheVariants.{Turn, Link}
use Rattle.script.specs.declared.figures.Column.TheVariants.{Cost, Links, Back}
use Rattle.script.specs.declared.books.TheConstants.{BOOK_ROOM}
use Rattle.script.specs.declared.figures.TheConstants.{LENT_ROOM}
use Rattle.script.specs.declared.questions.Question.{Question}
use Rattle.script.specs.declared.questions.Question.TheVariants.{Open, Save, New, Number, Length, Alter, Lend, Fares}
use Rattle.script.specs.declared.writing.Answer.{Answer}
use Rattle.script.specs.declared.writing.Answer.TheVariants.{Done, Said}
use Rattle.script.specs.declared.writing.Fault.{Fault}
use Rattle.script.specs.declared.writing.Fault.TheVariants.{NoSuchBuffer}

-- a question that only changes the desk is done, and any other is answered by words
abbrev pub answer_of : Question → Answer
answer_of (Open _) = Done
answer_of (Save _) = Done
answer_of (New _) = Done
answer_of (Number _ _) = Done
answer_of (Length _) = Done
answer_of (Alter _ _ _) = Done
answer_of (Lend _ _) = Done
answer_of (Fares _ _) = Done
answer_of _ = Said

-- the name of a label buffer
abbrev pub name_of : Buffer → List ℕ
name_of (Turn Cost) = codes "turn-cost"
name_of (Turn Links) = codes "turn-links"
name_of (Turn Back) = codes "turn-back"
name_of (Link Cost) = codes "link-cost"
name_of (Link Links) = codes "link-links"
name_of (Link Back) = codes "link-back"

-- a label buffer by its own name, and none by another
pub record NamesBuffer (name : List ℕ) (result : Result Buffer Fault) : Type 0 where
  pub own : IfOk result (λ buffer. name ≡ name_of buffer)
  pub each : (buffer : Buffer) → name ≡ name_of buffer → result ≡ Ok buffer
  pub only : IsOkUnless result NoSuchBuffer

-- the numbers that a question may say: a book's length and a place in it, and how much is lent
abbrev pub KeepsLimits : Question → Type 0
KeepsLimits (New count) = count ≤ BOOK_ROOM
KeepsLimits (Length count) = count ≤ BOOK_ROOM
KeepsLimits (Number at values) = (at ≤ 65535) × (0 < length values.now)
KeepsLimits (Lend _ said) = IfSome said (λ count. count ≤ LENT_ROOM)
KeepsLimits _ = Unit {0}
