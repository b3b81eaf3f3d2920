-- Bytes put one run after the other are put as one run, and a run from the start of a text is followed by the rest of the text.
use Prim.Native.Nat.{ℕ, suc, ◌+◌, ◌≤◌}
use mathlib.Core.Path.{◌≡◌, ap, ◌∙◌}
use mathlib.Core.List.{List, [], ◌∷◌, ◌++◌}
use native.Mathlib.Nat.{add-zero, zero-add}
use native.Mathlib.Omega.{arith}
use lib.ListN.{length, set, drop, length-append}
use lib.Seq.{sets, sets-eq}
use Rattle.sheet.specs.declared.Page.{Page}
use Rattle.sheet.specs.steps.Storing.{Put}

runs_joined : (xs ys text : List ℕ) (at : ℕ) → sets (sets text at xs) (at + length xs) ys ≡ sets text at (xs ++ ys)
runs_joined [] ys text at = ap (λ (k : ℕ). sets text k ys) (add-zero at)
runs_joined (x ∷ xs) ys text at =
    let e : at + suc (length xs) ≡ suc at + length xs = omega arith in
    rw e (runs_joined xs ys (set text at x) (suc at))

module _ {one two : Page} {xs : List ℕ} (first : Put one xs two) where
  pub then : {ys : List ℕ} {three : Page} → Put two ys three → Put one (xs ++ ys) three
  then {ys} {three} second =
      record {
        text_after = second.text_after ∙ rw (first.text_after, first.place_after) (runs_joined xs ys one.text.now one.at);
        length_after = second.length_after ∙ first.length_after;
        place_after = omega (arith, first.place_after, second.place_after, length-append xs ys);
        same = second.same ∙ first.same;
      }

  -- bytes put from the start: the bytes, then the rest of the text
  pub whole : one.at ≡ 0 → length xs ≤ length one.text.now → (two.text.now ≡ xs ++ drop (length xs) one.text.now) × (two.at ≡ length xs)
  whole start h = (first.text_after ∙ rw start (sets-eq xs one.text.now 0 (omega arith) ∙ ap (λ (k : ℕ). xs ++ drop k one.text.now) (zero-add (length xs))), omega (arith, first.place_after))
