-- Document 01, "The day book": all numbers are two bytes, low byte first.
use Rattle.std.specs.Prelude.{ℕ, ◌+◌, ◌*◌, ◌/◌, ◌%◌, List, get_or, set}

-- the number whose low byte is byte `at`
unfoldable pub number_at : List ℕ → ℕ → ℕ
number_at bytes at = get_or bytes at 0 + 256 * get_or bytes (at + 1) 0

-- the bytes with n written there, and nothing else changed
unfoldable pub with_number : List ℕ → ℕ → ℕ → List ℕ
with_number bytes at n = set (set bytes at (n % 256)) (at + 1) (n / 256)
