-- What each writer does: it stores a run of bytes on a page from its place on, and leaves the place after them.
use Rattle.std.specs.Prelude.{ℕ, ◌+◌, ◌≤◌, ◌≡◌, List, length}
use Rattle.std.proofs.lemmas.List.Edits.{sets}
use Rattle.sheet.specs.declared.Page.{Page}

-- the page has room for these bytes from its place on
abbrev pub Room : Page → List ℕ → Type 0
Room page bytes = page.at + length bytes ≤ length page.text.now

-- the text stays the lender's own
pub record Put (before : Page) (bytes : List ℕ) (after : Page) : Type 0 where
  pub text_after : after.text.now ≡ sets before.text.now before.at bytes
  pub length_after : length after.text.now ≡ length before.text.now
  pub place_after : after.at ≡ before.at + length bytes
  pub same : after.text.ghost_name ≡ before.text.ghost_name
