-- The bytes of an entry lie within its table, whatever the size of an entry.
use Prim.Native.Nat.{ℕ, suc, ◌+◌, ◌*◌, ◌≤◌, ◌<◌}
use mathlib.Core.Path.{◌≡◌}
use native.Mathlib.Omega.{arith}
use native.Mathlib.Nat.{mul-le-mul_left, mul-suc}

pub entry_within : (size k count : ℕ) → k < count → size * k + size ≤ size * count
entry_within size k count h =
    let m : size * suc k ≤ size * count = mul-le-mul_left size h in
    let e : size * suc k ≡ size * k + size = mul-suc size k in
    omega arith
