-- Reading a walk back along the backs, last link first, where n bounds how many links are read.
use Rattle.std.specs.Prelude.{List, [], ◌∷◌, ℕ, zero, suc}
use Rattle.walk.specs.steps.Net.{Net, start, via, Entry, unreached, reached, Table}

-- what an entry's back says to read: nothing, the links of a start, or what its back reads
abbrev pub on_back : {K : Type 0} → Entry K → List ℕ → (ℕ → List ℕ) → List ℕ
on_back unreached q f = []
on_back (reached k start) q f = q
on_back (reached k (via p)) q f = f p

module _ (K : Type 0) (N : Net K) (tab : Table K) where
  abbrev pub read_turn : ℕ → ℕ → List ℕ
  read_turn zero t = []
  read_turn (suc n) t = N.second t ∷ on_back (tab t) (N.first t ∷ []) (read_turn n)

  abbrev pub read_link : ℕ → ℕ → Entry K → List ℕ
  read_link n l e = on_back e (l ∷ []) (read_turn n)

  abbrev pub read_route : Table K → ℕ → Entry K → List ℕ
  read_route ltab n e = on_back e [] (λ l. read_link n l (ltab l))
