-- What is left behind the expected answer is empty where the two are the same.
use Rattle.script.proofs.TallyLaws.{begins_with_itself}
use Rattle.script.proofs.tallying.is_as_expected.Goals as goal

pub returns-in_default-4-clause-same : goal.returns-in_default-4-clause-same
returns-in_default-4-clause-same c = λ same.
    absurd (begins_with_itself c.args.answered.now c.args.expected.now same
    (rw c.in_default.is at c.strip_prefix.ensures.cases))
