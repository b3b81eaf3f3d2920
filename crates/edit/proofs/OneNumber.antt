-- An entry fits one number of 64 bits and comes back whole; labels are kept as they are, and the law stands for who keeps them in numbers.
use Prim.Native.Nat.{ℕ, ◌+◌, ◌*◌, ◌/◌, ◌%◌, ◌<◌}
use mathlib.Core.Path.{◌≡◌}
use native.Mathlib.Omega.{arith}
use Rattle.edit.specs.steps.KeptLabels.{kept_entry}

pub one_number : (cost links back : ℕ) → links < 65536 → back < 65536 → kept_entry (cost * 4294967296 + links * 65536 + back) ≡ record { cost = cost; links = links; back = back }
unfolding kept_entry
one_number cost links back h i =
    let kept : ℕ = cost * 4294967296 + links * 65536 + back in
    let one : kept / 4294967296 ≡ cost = omega arith in
    let two : kept / 65536 % 65536 ≡ links = omega arith in
    let last : kept % 65536 ≡ back = omega arith in
    rw (one, two, last)
