-- What the rules for walks read of a book, made from its bytes and the walks as seen, one number a turn.
use Rattle.std.specs.Prelude.{ℕ, zero, suc, List, [], ◌∷◌, ◌++◌, Bool, true, false, ◌&&◌, get_or, eqb}
use Rattle.std.proofs.Math.Option.{Option, none, some}
use Rattle.book.specs.declared.Counts.{Counts}
use Rattle.walk.specs.declared.Viewed.{Viewed}
use Rattle.book.specs.Tables.{line_table, link_table, turn_table, pair_table}
use Rattle.book.specs.Entries.{line_headway, link_from, link_to, link_line, link_ride, turn_first, turn_second, turn_walk, pair_first, pair_second, pair_extra}

pub record View : Type 0 where
  pub nodes : ℕ
  pub links : ℕ
  pub turns : ℕ
  -- of a link
  pub from : ℕ → ℕ
  pub to : ℕ → ℕ
  pub line : ℕ → ℕ
  pub ride : ℕ → ℕ
  -- of a line
  pub headway : ℕ → ℕ
  -- of a turn; a walk of 65,535 is closed
  pub first : ℕ → ℕ
  pub second : ℕ → ℕ
  pub walk : ℕ → ℕ
  -- the extra of two turns, where they are a listed pair; 65,535 is forbidden
  pub listed : ℕ → ℕ → Option ℕ
  pub carry_over : ℕ

abbrev pub found_or : Bool → ℕ → Option ℕ → Option ℕ
found_or true extra other = some extra
found_or false extra other = other

-- the extra of turns p and t among the first `pairs` entries of a pair table
unfoldable pub listed_in : List ℕ → ℕ → ℕ → ℕ → Option ℕ
listed_in table zero p t = none
listed_in table (suc k) p t =
    found_or (eqb (pair_first table k) p && eqb (pair_second table k) t) (pair_extra table k) (listed_in table k p t)

-- the view of a book, with these walks
abbrev pub view_with : List ℕ → Counts → List ℕ → View
view_with book counts walks =
    record {
      nodes = counts.nodes;
      links = counts.links;
      turns = counts.turns;
      from = link_from (link_table book counts);
      to = link_to (link_table book counts);
      line = link_line (link_table book counts);
      ride = link_ride (link_table book counts);
      headway = line_headway (line_table book counts);
      first = turn_first (turn_table book counts);
      second = turn_second (turn_table book counts);
      walk = λ t. get_or walks t 0;
      listed = listed_in (pair_table book counts) counts.pairs;
      carry_over = counts.carry_over;
    }

-- the values of f at 0 up to n
unfoldable pub up_to : {A : Type 0} → ℕ → (ℕ → A) → List A
up_to zero f = []
up_to (suc n) f = up_to n f ++ (f n ∷ [])

-- the book's own walks
abbrev pub walks_of : List ℕ → Counts → List ℕ
walks_of book counts = up_to counts.turns (turn_walk (turn_table book counts))

abbrev pub view_of : List ℕ → Counts → View
view_of book counts = view_with book counts (walks_of book counts)

-- the view that is carried with its book
abbrev pub view_in : Viewed → View
view_in viewed = view_with viewed.book.bytes.now viewed.book.counts viewed.walks.now
