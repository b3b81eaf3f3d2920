-- The words that there is room for stand behind the text.
use Rattle.std.proofs.Common.{arith, rules}
use Rattle.script.proofs.TextLaws.{put_at_once}
use Rattle.script.specs.declared.writing.TheConstants.{TEXT_ROOM}
use Rattle.script.proofs.writing.Text.put.Goals as goal

pub returns : goal.returns
returns c =
    put_at_once TEXT_ROOM c.args.self.now.length c.min-kept.result _ c.args.self.now.bytes c.args.words.now
    c.copy_from_slice.new.self (omega arith) (omega arith) (search rules) (search rules)
