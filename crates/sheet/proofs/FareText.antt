-- Lines are put one after the other: first the bytes of the first, then those of the second.
use Prim.Native.Nat.{ℕ}
use mathlib.Core.Path.{◌≡◌, ap}
use mathlib.Core.List.{List, [], ◌∷◌, ◌++◌, append-nil}
use Rattle.sheet.specs.declared.Page.{Page}
use Rattle.sheet.specs.Line.{line}
use Rattle.sheet.specs.FareSheet.{text_of}
use Rattle.sheet.specs.steps.Storing.{Put}
use Rattle.sheet.specs.steps.Faring.{LinesPut}
use Rattle.sheet.proofs.StoreLaws.{then}

pub text_one : (fields : List ℕ) → text_of (fields ∷ []) ≡ line fields
unfolding text_of
text_one fields = append-nil (line fields)

pub text_two : (one two : List ℕ) → text_of (one ∷ two ∷ []) ≡ line one ++ line two
unfolding text_of
text_two one two = ap (λ (bytes : List ℕ). line one ++ bytes) (append-nil (line two))

module _ {Told : List (List ℕ) → Type 0} {before after : Page} where
  pub one_line_put : (fields : List ℕ) → Told (fields ∷ []) → Put before (line fields) after → LinesPut Told before after
  one_line_put fields told put = record { lines = fields ∷ []; told = told; put = rw (text_one fields) put }

  pub two_lines_put : {middle : Page} (one two : List ℕ) → Told (one ∷ two ∷ []) → Put before (line one) middle → Put middle (line two) after → LinesPut Told before after
  two_lines_put one two told first second = record { lines = one ∷ two ∷ []; told = told; put = rw (text_two one two) (then first second) }

  pub lines_told : {More : List (List ℕ) → Type 0} → ((lines : List (List ℕ)) → Told lines → More lines) → LinesPut Told before after → LinesPut More before after
  lines_told more put = record { lines = put.lines; told = more put.lines put.told; put = put.put }
