-- Document 01, "Numbers given back": it is the first bad entry in file order that counts.
use Rattle.std.specs.Prelude.{ℕ, zero, suc, Bool, true, false}

abbrev pub either : Bool → ℕ → ℕ → ℕ
either true a b = a
either false a b = b

-- the first of the `left` entries from k on that fails the test, or the number after the last
unfoldable pub first_bad_from : (ℕ → Bool) → ℕ → ℕ → ℕ
first_bad_from good k zero = k
first_bad_from good k (suc left) = either (good k) (first_bad_from good (suc k) left) k

-- the first of `count` entries that fails the test, or `count`
abbrev pub first_bad : (ℕ → Bool) → ℕ → ℕ
first_bad good count = first_bad_from good 0 count
