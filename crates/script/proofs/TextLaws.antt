-- A text is cut at its room, so that cutting before more is put and after it leaves the same.
use Rattle.std.proofs.Common.{Bool, true, false, ◌==◌, codes, drop, drop-cons, add-one, ◌≡◌, ℕ, ◌+◌, ◌-◌, ◌<◌, ◌≤◌, min, List, [], ◌∷◌, ◌++◌, length, take, set, get_or, zero, suc, refl, ap, sym, ◌∙◌, arith, append_assoc, length-append}
use Rattle.script.specs.Texts.{between_lines, byte_of_line, joined_after}
use Rattle.std.proofs.lemmas.List.{drop_all, append-nil, take_all, take_min, take_more_set, take-append-le, length-take, length-take-le}
use Rattle.std.proofs.lemmas.Slice.{take-put_mid}
use Rattle.std.proofs.Math.Seq.{take-append-add}
use borrow.Rule.Slice.PartMut.{put_mid}

pub put_with_room : (room : ℕ) (bytes : List ℕ) (count byte : ℕ) → count < room → count < length bytes
    → take (count + 1) (set bytes count byte) ≡ take room (take count bytes ++ byte ∷ [])
put_with_room room bytes count byte free within =
    take_more_set bytes count byte within
    ∙ sym (take_all room (take count bytes ++ byte ∷ [])
    (omega (arith, length-append (take count bytes) (byte ∷ []), length-take count bytes)))

pub put_without_room : (room : ℕ) (bytes : List ℕ) (count byte : ℕ) → count ≡ room → count ≤ length bytes
    → take count bytes ≡ take room (take count bytes ++ byte ∷ [])
put_without_room room bytes count byte full within =
    sym (take-append-le room (take count bytes) (byte ∷ []) (omega (arith, length-take count bytes))
    ∙ take_all room (take count bytes) (omega (arith, length-take count bytes)))

pub cut_twice : (room : ℕ) (xs ys : List ℕ) → take room (take room xs ++ ys) ≡ take room (xs ++ ys)
cut_twice zero xs ys = refl
cut_twice (suc room) [] ys = refl
cut_twice (suc room) (x ∷ xs) ys = ap (λ rest. x ∷ rest) (cut_twice room xs ys)

pub put_none : (room : ℕ) (text : List ℕ) → length text ≤ room → text ≡ take room (text ++ [])
put_none room text within =
    sym (take_all room (text ++ []) (omega (arith, length-append text [])) ∙ append-nil text)

-- words put at once, as many of their bytes as there is room for
pub put_at_once : (room count kept part : ℕ) (bytes words put : List ℕ) → count ≤ room → count ≤ length bytes
    → kept ≡ min (room - count) (length words) → put ≡ take kept words
    → take (count + kept) (put_mid count part bytes put) ≡ take room (take count bytes ++ words)
put_at_once room count kept part bytes words put free within is_kept is_put =
    let text = take count bytes in
    let front : length text ≡ count = length-take-le count bytes within in
    take-put_mid count part bytes put (count + kept) (omega (arith, ap length is_put, length-take kept words)) within
    ∙ ap (λ (part : List ℕ). text ++ part)
    (is_put ∙ ap (λ (n : ℕ). take n words) is_kept ∙ take_min (room - count) words)
    ∙ sym (take-append-add text words (room - count))
    ∙ ap (λ (n : ℕ). take n (text ++ words)) (omega arith)

-- what is put behind a text that was cut, put behind it uncut
pub put_behind : (room : ℕ) (text cut part rest : List ℕ) → cut ≡ take room (text ++ part)
    → take room (cut ++ rest) ≡ take room (text ++ (part ++ rest))
put_behind room text cut part rest is_cut =
    ap (λ (all : List ℕ). take room (all ++ rest)) is_cut
    ∙ cut_twice room (text ++ part) rest
    ∙ ap (λ (all : List ℕ). take room all) (append_assoc text part rest)

pub sign_put : (room : ℕ) (ended : Bool) (text cut rest : List ℕ) → ended ≡ true
    → cut ≡ take room (text ++ codes " / ")
    → take room (cut ++ rest) ≡ take room (text ++ (between_lines ended ++ rest))
sign_put room ended text cut rest ends is_cut = rw ends (put_behind room text cut (codes " / ") rest is_cut)

pub no_sign_put : (room : ℕ) (ended : Bool) (text cut rest : List ℕ) → ended ≡ false → cut ≡ text
    → take room (cut ++ rest) ≡ take room (text ++ (between_lines ended ++ rest))
no_sign_put room ended text cut rest ends same = rw ends (ap (λ (all : List ℕ). take room (all ++ rest)) same)

pub byte_put : (room byte : ℕ) (text cut rest : List ℕ) → (byte == 10) ≡ false
    → cut ≡ take room (text ++ byte ∷ [])
    → take room (cut ++ rest) ≡ take room (text ++ (byte_of_line byte ++ rest))
byte_put room byte text cut rest goes_on is_cut =
    rw goes_on (put_behind room text cut (byte ∷ []) rest is_cut)

pub no_byte_put : (room byte : ℕ) (text cut rest : List ℕ) → (byte == 10) ≡ true → cut ≡ text
    → take room (cut ++ rest) ≡ take room (text ++ (byte_of_line byte ++ rest))
no_byte_put room byte text cut rest ends same =
    rw ends (ap (λ (all : List ℕ). take room (all ++ rest)) same)

pub joined_next : (ended : Bool) (lines : List ℕ) (at : ℕ) → at < length lines
    → joined_after ended (drop at lines)
    ≡ between_lines ended ++ (byte_of_line (get_or lines at 0) ++ joined_after (get_or lines at 0 == 10) (drop (at + 1) lines))
joined_next ended lines at within = rw (add-one, drop-cons lines at 0)

pub joined_end : (ended : Bool) (lines : List ℕ) (at : ℕ) → length lines ≤ at
    → joined_after ended (drop at lines) ≡ []
joined_end ended lines at past = ap (λ (left : List ℕ). joined_after ended left) (drop_all at lines past)
