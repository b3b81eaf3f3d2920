-- The walks that are read into the front of a larger room, and seen there, are the book's own.
use Rattle.std.proofs.Common.{ℕ, List, ◌++◌, length, take, ◌≡◌, ap, ◌∙◌}
use lib.Seq.{take_at}
use Rattle.walk.specs.View.{up_to}
use Rattle.walk.proofs.Filling.{up_to_length}

pub front_seen : (n : ℕ) (f : ℕ → ℕ) {front : List ℕ} (rest : List ℕ) → front ≡ up_to n f → take n (front ++ rest) ≡ up_to n f
front_seen n f rest filled = take_at _ rest n (ap length filled ∙ up_to_length f n) ∙ filled
