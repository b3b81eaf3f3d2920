-- Document 01, the route printer: exactly one line, ended by a newline; the fields, one blank between them.
use Rattle.std.specs.Prelude.{ℕ, zero, suc, ◌+◌, ◌/◌, ◌%◌, List, [], ◌∷◌, ◌++◌, true, false, ltb}

-- a digit, a blank and a newline as bytes
abbrev pub digit : ℕ → ℕ
digit n = 48 + n

abbrev pub blank : ℕ
blank = 32

abbrev pub newline : ℕ
newline = 10

-- the digits of n: one where it is below ten, else those of its tenth and then the last
unfoldable pub decimal_in : ℕ → ℕ → List ℕ
decimal_in zero n = digit n ∷ []
decimal_in (suc steps) n = elim (ltb n 10) [ true ↦ digit n ∷ [] | false ↦ decimal_in steps (n / 10) ++ (digit (n % 10) ∷ []) ]

-- n steps are enough, since each goes on with a tenth
unfoldable pub decimal : ℕ → List ℕ
decimal n = decimal_in n n

-- the fields after the first, each after a blank
unfoldable pub further : List ℕ → List ℕ
further [] = []
further (n ∷ rest) = blank ∷ (decimal n ++ further rest)

unfoldable pub line : List ℕ → List ℕ
line [] = newline ∷ []
line (n ∷ rest) = decimal n ++ further rest ++ (newline ∷ [])
