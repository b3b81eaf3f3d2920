-- A number is written into two bytes: every number that has neither of them is read as before, and so is every part that has neither.
use Prim.Native.Nat.{ℕ, ◌+◌, ◌-◌, ◌/◌, ◌%◌, ◌≤◌, ◌<◌}
use mathlib.Core.Path.{◌≡◌, ◌∙◌}
use mathlib.Core.List.{List}
use native.Mathlib.Omega.{arith}
use lib.ListN.{length, get_or, set, drop, length-set}
use lib.Seq.{get_or-set_same, get_or-set_other, take-set-le, take-set-lt, drop-set-lt, drop-set-add}
use Rattle.book.specs.Number.{number_at, with_number}
use Rattle.book.specs.Tables.{part}

module _ (bytes : List ℕ) (at n : ℕ) where
  pub written_length : length (with_number bytes at n) ≡ length bytes
  unfolding with_number
  written_length = simp length-set

  pub written_byte : (i : ℕ) → (i ≡ at → ⊥) → (i ≡ at + 1 → ⊥) → get_or (with_number bytes at n) i 0 ≡ get_or bytes i 0
  unfolding with_number
  written_byte i a b = rw (get_or-set_other (set bytes at (n % 256)) (at + 1) i (n / 256) 0 b, get_or-set_other bytes at i (n % 256) 0 a)

  pub written_other : (i : ℕ) → (i ≡ at → ⊥) → (i ≡ at + 1 → ⊥) → (i + 1 ≡ at → ⊥) → number_at (with_number bytes at n) i ≡ number_at bytes i
  unfolding number_at
  written_other i a b c = rw (written_byte i a b, written_byte (i + 1) c (λ e. a (omega arith)))

  pub written_same : at + 1 < length bytes → number_at (with_number bytes at n) at ≡ n
  unfolding with_number number_at
  written_same h =
      let low : List ℕ = set bytes at (n % 256) in
      rw (
        get_or-set_other low (at + 1) at (n / 256) 0 (λ e. omega arith),
        get_or-set_same bytes at (n % 256) 0 (omega arith),
        get_or-set_same low (at + 1) (n / 256) 0 (simp length-set h),
      )
      (omega arith)

module _ (bytes : List ℕ) (start end n : ℕ) where
  byte_after : (i : ℕ) → start ≤ i → end ≤ i → part (set bytes i n) start end ≡ part bytes start end
  byte_after i s h =
      let e : i ≡ start + (i - start) = omega arith in
      rw (e, drop-set-add start bytes (i - start) n, take-set-le (end - start) (drop start bytes) (i - start) n (omega arith))

  byte_before : (i : ℕ) → i < start → part (set bytes i n) start end ≡ part bytes start end
  byte_before i h = rw (drop-set-lt start bytes i n h)

  byte_within : (i : ℕ) → start + i < end → part (set bytes (start + i) n) start end ≡ set (part bytes start end) i n
  byte_within i h = rw (drop-set-add start bytes i n, take-set-lt (end - start) (drop start bytes) i n (omega arith))

module _ (bytes : List ℕ) (start end at n : ℕ) where
  pub part_before : start ≤ at → end ≤ at → part (with_number bytes at n) start end ≡ part bytes start end
  unfolding with_number
  part_before s h = byte_after _ start end _ (at + 1) (omega arith) (omega arith) ∙ byte_after _ start end _ at s h

  pub part_after : at + 1 < start → part (with_number bytes at n) start end ≡ part bytes start end
  unfolding with_number
  part_after h = byte_before _ start end _ (at + 1) h ∙ byte_before _ start end _ at (omega arith)

  pub part_around : start + at + 1 < end → part (with_number bytes (start + at) n) start end ≡ with_number (part bytes start end) at n
  unfolding with_number
  part_around h =
      let e : start + at + 1 ≡ start + (at + 1) = omega arith in
      rw (e, byte_within (set bytes (start + at) (n % 256)) start end (n / 256) (at + 1) (omega arith), byte_within bytes start end (n % 256) at (omega arith))
