-- Input longer than the largest book is answered by its header alone, so what a reader with room for more than that leaves off changes nothing.
use Prim.Native.Nat.{ℕ, ◌+◌, ◌<◌}
use mathlib.Core.Path.{◌≡◌, sym, ◌∙◌, subst}
use mathlib.Core.List.{List}
use native.Mathlib.Omega.{arith}
use native.Mathlib.Decide.{dec_lt}
use lib.ListN.{length, get_or, take, length-drop}
use lib.Seq.{length-take-le, take_all, get_or-take, get_or-drop}
use Rattle.book.specs.Header.{header_bytes}
use Rattle.book.proofs.LargestBook.{largest_book, answered, long_refused, long_same}
use Rattle.sheet.specs.Sheet.{before_book, origin_of, destination_of, book_of, Planned, Says, short, asked}
use Rattle.sheet.proofs.Determined.{plan_one}
use Rattle.sheet.proofs.Plans.{refusal_fields, book_refused}

-- two books that are longer than the largest and have one header have one plan
module _ (book other : List ℕ) (same : (k : ℕ) → k < header_bytes → get_or book k 0 ≡ get_or other k 0) (long : largest_book < length book) (long-other : largest_book < length other) where
  pub long_planned : (r s from to : ℕ) (fields : List ℕ) → Planned book r s fields → Planned other from to fields
  long_planned r s from to fields plan =
      let said : fields ≡ refusal_fields (answered book) = plan_one book r s fields (refusal_fields (answered book)) plan (book_refused book r s (answered book) (long_refused book long)) in
      subst (Planned other from to) (sym said) (book_refused other from to (answered book) (sym (long_same book other same long long-other) ∙ long_refused book long))

-- the input is answered by its front, where that is longer than the largest book with the two nodes before it
module _ (room : ℕ) (enough : largest_book + before_book < room) (input : List ℕ) where
  abbrev front : List ℕ
  front = take room input

  module _ (past : room < length input) where
    front_length : length front ≡ room
    front_length = length-take-le room input (omega arith)

    same_header : (k : ℕ) → k < header_bytes → get_or (book_of front) k 0 ≡ get_or (book_of input) k 0
    same_header k h = get_or-drop before_book front k 0 ∙ get_or-take room input (before_book + k) 0 (omega arith) ∙ sym (get_or-drop before_book input k 0)

    past_says : (fields : List ℕ) → Says front fields → Says input fields
    past_says fields (short h f) = absurd (omega (arith, front_length))
    past_says fields (asked h plan) =
        asked (omega arith) (long_planned (book_of front) (book_of input) same_header (omega (arith, length-drop before_book front, front_length)) (omega (arith, length-drop before_book input)) (origin_of front) (destination_of front) (origin_of input) (destination_of input) fields plan)

  pub front_says : (fields : List ℕ) → Says front fields → Says input fields
  front_says fields says = by (dec_lt room (length input))
    where
      by : Dec (room < length input) → Says input fields
      by (yes past) = past_says past fields says
      by (no h) = subst (λ (x : List ℕ). Says x fields) (take_all room input (omega arith)) says

-- the printer's reader has room for 65,536 bytes
pub read_says : (input fields : List ℕ) → Says (take 65536 input) fields → Says input fields
read_says input fields says = front_says 65536 (omega arith) input fields says
