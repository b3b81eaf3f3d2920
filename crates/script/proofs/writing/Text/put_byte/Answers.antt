-- A byte stands at the end of the text where there is room, and falls behind it where there is none.
use Rattle.std.proofs.Common.{arith}
use Rattle.script.proofs.TextLaws.{put_with_room, put_without_room}
use Rattle.script.specs.declared.writing.TheConstants.{TEXT_ROOM}
use Rattle.script.proofs.writing.Text.put_byte.Goals as goal

pub returns-then-self-lt-TEXT_ROOM : goal.returns-then-self-lt-TEXT_ROOM
returns-then-self-lt-TEXT_ROOM c =
    put_with_room TEXT_ROOM c.args.self.now.bytes c.args.self.now.length c.args.byte (omega arith) (omega arith)

pub returns-else-self-lt-TEXT_ROOM : goal.returns-else-self-lt-TEXT_ROOM
returns-else-self-lt-TEXT_ROOM c =
    put_without_room TEXT_ROOM c.args.self.now.bytes c.args.self.now.length c.args.byte (omega arith) (omega arith)
