-- Which bytes stand between words.
use Rattle.std.specs.Prelude.{◌≡◌, ◌-◌, ◌<◌, false, List, length, slice_index, ℕ, Bool, ◌==◌, ◌||◌}

-- a blank, a tab, or what some systems end a line with
abbrev pub is_blank_byte : ℕ → Bool
is_blank_byte byte = (byte == 32) || (byte == 9) || (byte == 13)

-- no blank stands first, and none last
pub record HasNoBlankEnds (bytes : List ℕ) : Type 0 where
  pub first : 0 < length bytes → is_blank_byte (slice_index bytes 0) ≡ false
  pub last : 0 < length bytes → is_blank_byte (slice_index bytes (length bytes - 1)) ≡ false
