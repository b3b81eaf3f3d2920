-- Nothing is found yet, and whatever the test tells of entries, those passed were good.
use Rattle.std.proofs.Common.{◌≡◌, ◌<◌, ℕ, Bool, Ok}
use Rattle.book.proofs.Scans.{Passed}
use Rattle.book.proofs.entries.scan.Given as goal

abbrev pub invariant-entries : goal.invariant-entries
invariant-entries g l = (l.found ≡ Ok tt) × ((holds : ℕ → Bool) → ((k : ℕ) (test : Bool) → k < l.count → g.G.Fn.post l.good (k, tt) test → test ≡ holds k) → Passed holds l.count l.entry)
