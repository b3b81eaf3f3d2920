-- Fields are written one after the other: the bytes of a line are those of its fields in turn, and the newline.
use Prim.Native.Nat.{ℕ, ◌/◌, ◌%◌, ◌+◌, ◌≤◌, ◌<◌}
use mathlib.Core.Path.{◌≡◌, refl, sym, ap, ◌∙◌}
use mathlib.Core.List.{List, [], ◌∷◌, ◌++◌, append-nil, append_assoc}
use native.Mathlib.Omega.{arith}
use native.Mathlib.Numerals.{add-one}
use lib.ListN.{length, get_or, take, drop, length-append, take-append-drop}
use lib.Seq.{take-suc, take_all}
use Rattle.walk.specs.declared.Split.{Split}
use Rattle.walk.specs.Walks.{figures_of}
use Rattle.sheet.specs.Line.{digit, blank, newline, decimal, further, line}
use Rattle.sheet.specs.Sheet.{fields_of}
use Rattle.sheet.specs.declared.Page.{Page}
use Rattle.sheet.specs.steps.Storing.{Put}
use Rattle.sheet.proofs.DigitLaws.{decimal_small, decimal_more}
use Rattle.sheet.proofs.StoreLaws.{then}

pub further_one : (n : ℕ) → further (n ∷ []) ≡ blank ∷ decimal n
unfolding further
further_one n = ap (λ (bytes : List ℕ). blank ∷ bytes) (append-nil (decimal n))

further_append : (xs ys : List ℕ) → further (xs ++ ys) ≡ further xs ++ further ys
unfolding further
further_append [] ys = refl
further_append (x ∷ xs) ys = ap (λ (bytes : List ℕ). blank ∷ bytes) (rw (further_append xs ys) (sym (append_assoc (decimal x) (further xs) (further ys))))

further_length : (xs ys : List ℕ) → length (further (xs ++ ys)) ≡ length (further xs) + length (further ys)
further_length xs ys = rw (further_append xs ys) (length-append (further xs) (further ys))

module _ (links : List ℕ) (k : ℕ) (h : k < length links) where
  further_taken : further (take (k + 1) links) ≡ further (take k links) ++ further (get_or links k 0 ∷ [])
  further_taken = rw (add-one, take-suc links k 0 h) (further_append (take k links) (get_or links k 0 ∷ []))

  -- what the first k + 1 take is no more than what all take
  pub taken_within : length (further (take k links)) + length (further (get_or links k 0 ∷ [])) ≤ length (further links)
  taken_within =
      let all = ap (λ (list : List ℕ). length (further list)) (take-append-drop (k + 1) links) in
      let parts = further_length (take (k + 1) links) (drop (k + 1) links) in
      let more = ap length further_taken ∙ length-append (further (take k links)) (further (get_or links k 0 ∷ [])) in
      omega arith

-- the fields of no links, of one link more, and of all
pub none_put : (page : Page) → Put page (further []) page
unfolding further
none_put page = record { text_after = refl; length_after = refl; place_after = omega arith; same = refl }

pub one_put : {one two three : Page} (links : List ℕ) (k next n : ℕ) → next ≡ k + 1 → k < length links → n ≡ get_or links k 0 → Put one (further (take k links)) two → Put two (further (n ∷ [])) three → Put one (further (take next links)) three
one_put links k next n more h e before put = rw (more, further_taken links k h, ← e) (then before put)

pub all_put : {one two : Page} (links : List ℕ) (k : ℕ) → length links ≤ k → Put one (further (take k links)) two → Put one (further links) two
all_put links k h put = rw (take_all k links h) at put

line_one : (n : ℕ) → line (n ∷ []) ≡ decimal n ++ (newline ∷ [])
unfolding line further
line_one n = ap (λ (bytes : List ℕ). bytes ++ (newline ∷ [])) (append-nil (decimal n))

line_two : (first second : ℕ) → line (first ∷ second ∷ []) ≡ decimal first ++ further (second ∷ []) ++ (newline ∷ [])
unfolding line
line_two first second = refl

-- a route's first and second field, its four figures, one field more and the rest
line_route : (first second a b c d third : ℕ) (rest : List ℕ) → line (first ∷ second ∷ a ∷ b ∷ c ∷ d ∷ third ∷ rest) ≡ decimal first ++ further (second ∷ []) ++ further (a ∷ b ∷ c ∷ d ∷ []) ++ further (third ∷ []) ++ further rest ++ (newline ∷ [])
unfolding line
line_route first second a b c d third rest =
    let between : List ℕ = a ∷ b ∷ c ∷ d ∷ [] in
    ap (λ (bytes : List ℕ). bytes ++ (newline ∷ []))
    (ap (λ (bytes : List ℕ). decimal first ++ bytes) (further_append (second ∷ between) (third ∷ rest))
    ∙ ap (λ (bytes : List ℕ). decimal first ++ (bytes ++ further (third ∷ rest))) (further_append (second ∷ []) between)
    ∙ ap (λ (bytes : List ℕ). decimal first ++ ((further (second ∷ []) ++ further between) ++ bytes)) (further_append (third ∷ []) rest)
    ∙ sym (append_assoc (decimal first) (further (second ∷ []) ++ further between) (further (third ∷ []) ++ further rest))
    ∙ ap (λ (bytes : List ℕ). bytes ++ (further (third ∷ []) ++ further rest)) (sym (append_assoc (decimal first) (further (second ∷ [])) (further between)))
    ∙ sym (append_assoc (decimal first ++ further (second ∷ []) ++ further between) (further (third ∷ [])) (further rest)))

-- four fields after the first, one by one
further_four : (a b c d : ℕ) → further (a ∷ b ∷ c ∷ d ∷ []) ≡ further (a ∷ []) ++ further (b ∷ []) ++ further (c ∷ []) ++ further (d ∷ [])
further_four a b c d =
    further_append (a ∷ b ∷ c ∷ []) (d ∷ [])
    ∙ ap (λ (bytes : List ℕ). bytes ++ further (d ∷ [])) (further_append (a ∷ b ∷ []) (c ∷ []) ∙ ap (λ (bytes : List ℕ). bytes ++ further (c ∷ [])) (further_append (a ∷ []) (b ∷ [])))

-- what is put part by part is put as one run
pub small_put : {one two : Page} (n byte : ℕ) → n < 10 → byte ≡ digit n → Put one (byte ∷ []) two → Put one (decimal n) two
small_put n byte h e a = rw (decimal_small n h, ← e) a

pub more_put : {one two three : Page} (n byte : ℕ) → 10 ≤ n → byte ≡ digit (n % 10) → Put one (decimal (n / 10)) two → Put two (byte ∷ []) three → Put one (decimal n) three
more_put n byte h e a b = rw (decimal_more n h, ← e) (then a b)

pub field_put : {one two three : Page} (n : ℕ) → Put one (blank ∷ []) two → Put two (decimal n) three → Put one (further (n ∷ [])) three
field_put n a b = rw (further_one n) (then a b)

pub number_put : {one two three : Page} (n : ℕ) → Put one (decimal n) two → Put two (newline ∷ []) three → Put one (line (n ∷ [])) three
number_put n a b = rw (line_one n) (then a b)

pub refusal_put : {one two three four : Page} (first second : ℕ) → Put one (decimal first) two → Put two (further (second ∷ [])) three → Put three (newline ∷ []) four → Put one (line (first ∷ second ∷ [])) four
refusal_put first second a b c = rw (line_two first second) (then (then a b) c)

pub split_put : {one two three four five : Page} (a b c d : ℕ) → Put one (further (a ∷ [])) two → Put two (further (b ∷ [])) three → Put three (further (c ∷ [])) four → Put four (further (d ∷ [])) five → Put one (further (a ∷ b ∷ c ∷ d ∷ [])) five
split_put a b c d first second third fourth = rw (further_four a b c d) (then (then (then first second) third) fourth)

pub route_put : {one two three four five six seven : Page} (cost : ℕ) (split : Split) (links : List ℕ)
    → Put one (decimal 0) two → Put two (further (cost ∷ [])) three → Put three (further (figures_of split)) four → Put four (further (length links ∷ [])) five → Put five (further links) six → Put six (newline ∷ []) seven
    → Put one (line (fields_of cost split links)) seven
route_put cost split links a b c d e f = rw (line_route 0 cost split.ride split.wait split.walk split.extra (length links) links) (then (then (then (then (then a b) c) d) e) f)

-- the same of lengths
pub length_field : (n : ℕ) → length (further (n ∷ [])) ≡ length (decimal n) + 1
length_field n = ap length (further_one n) ∙ omega arith

pub length_one : (n : ℕ) → length (line (n ∷ [])) ≡ length (decimal n) + 1
length_one n = rw (line_one n) (length-append (decimal n) (newline ∷ []))

pub length_two : (first second : ℕ) → length (line (first ∷ second ∷ [])) ≡ length (decimal first) + length (further (second ∷ [])) + 1
length_two first second =
    rw (line_two first second, length-append (decimal first ++ further (second ∷ [])) (newline ∷ []), length-append (decimal first) (further (second ∷ []))) refl

pub length_four : (a b c d : ℕ) → length (further (a ∷ b ∷ c ∷ d ∷ [])) ≡ length (further (a ∷ [])) + length (further (b ∷ [])) + length (further (c ∷ [])) + length (further (d ∷ []))
length_four a b c d = omega (arith, further_length (a ∷ b ∷ c ∷ []) (d ∷ []), further_length (a ∷ b ∷ []) (c ∷ []), further_length (a ∷ []) (b ∷ []))

pub length_route : (cost : ℕ) (split : Split) (links : List ℕ)
    → length (line (fields_of cost split links)) ≡ length (decimal 0) + length (further (cost ∷ [])) + length (further (figures_of split)) + length (further (length links ∷ [])) + length (further links) + 1
length_route cost split links =
    let figures : List ℕ = figures_of split in
    rw (
      line_route 0 cost split.ride split.wait split.walk split.extra (length links) links,
      length-append (decimal 0 ++ further (cost ∷ []) ++ further figures ++ further (length links ∷ []) ++ further links) (newline ∷ []),
      length-append (decimal 0 ++ further (cost ∷ []) ++ further figures ++ further (length links ∷ [])) (further links),
      length-append (decimal 0 ++ further (cost ∷ []) ++ further figures) (further (length links ∷ [])),
      length-append (decimal 0 ++ further (cost ∷ [])) (further figures),
      length-append (decimal 0) (further (cost ∷ [])),
    )
    refl
