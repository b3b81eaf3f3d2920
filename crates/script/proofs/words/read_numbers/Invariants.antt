use Rattle.std.proofs.Common.{◌≤◌, length, All, take}
use Rattle.script.proofs.words.read_numbers.Given as goal

-- what is read lies within the numbers, and each is within the limit
abbrev pub invariant-loop-rest : goal.invariant-loop-rest
invariant-loop-rest l = record {
  room : l.count ≤ length l.numbers;
  limit : All (λ number. number ≤ l.limit) (take l.count l.numbers);
}

-- what is left of the line grows shorter
abbrev pub decreases-loop-rest : goal.decreases-loop-rest
decreases-loop-rest l = length l.rest
