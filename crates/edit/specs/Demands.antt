-- Demand 3: what the theorems about runs of edits, closing a change, labels that are turned away and an edit to the value already there say.
use Rattle.std.specs.Prelude.{ℕ, ◌<◌, ◌≡◌, ◌⊎◌, List, get_or, Ok}
use Rattle.book.specs.declared.Counts.{Counts}
use Rattle.book.specs.Check.{check_of}
use Rattle.book.specs.Changes.{Change, with_changes}
use Rattle.walk.specs.View.{View, view_of}
use Rattle.walk.specs.Walks.{turns_of}
use Rattle.walk.specs.Labels.{Chosen, TurnWalk, LinkWalk, Entry, Table, entry_at, TrueTurn, TrueLink, TrueLabels}
use Rattle.walk.specs.Cases.{All}
use Rattle.search.specs.Search.{Search, Searched}
use Rattle.edit.specs.Edit.{edit_given_back, altered, EditAnswer}

-- an answer that does not turn the labels away
abbrev pub NotTurnedAway : EditAnswer → Type 0
NotTurnedAway answer = (edit_given_back answer).number ≡ 13 → ⊥

-- what a run from a good book and its true labels leaves
pub record RunHolds (r : ℕ) (book : List ℕ) (counts : Counts) (answers : List EditAnswer) (changes : List Change) (last : List ℕ) (turns-last links-last : Table) : Type 0 where
  -- exactly the done edits, in order
  pub edits : last ≡ with_changes book counts changes
  pub good : check_of last ≡ Ok counts
  pub labels : TrueLabels (view_of last counts) r turns-last links-last
  -- what any fresh search of the last book leaves
  pub fresh : (turns links : Table) (answer : Searched) (turns-fresh links-fresh : Table) → Search last r turns links answer turns-fresh links-fresh → answer ≡ (Ok tt) → (turns-fresh ≡ turns-last) × (links-fresh ≡ links-last)
  -- no label that an edit left is turned away
  pub not_turned_away : All NotTurnedAway answers

-- none of the turns is the closed one
abbrev pub Avoids : ℕ → List ℕ → Type 0
Avoids closed turns = All (λ (t : ℕ). t ≡ closed → ⊥) turns

-- of the walks of one kind there is none, or the chosen one avoids the closed turn
pub data Untouched (U : View) (W : List ℕ → Type 0) (closed : ℕ) : Type 0 where
  avoided : (links : List ℕ) → Chosen U W links → Avoids closed (turns_of U links) → Untouched U W closed
  no_walk : ((links : List ℕ) → W links → ⊥) → Untouched U W closed

-- what a closing leaves of the labels: every untouched entry as it was
pub record Keeps (U : View) (r closed : ℕ) (turns links turns-after links-after : Table) : Type 0 where
  pub turn : (t : ℕ) → t < U.turns → Untouched U (TurnWalk U r t) closed → entry_at turns-after t ≡ entry_at turns t
  pub link : (l : ℕ) → l < U.links → Untouched U (LinkWalk U r l) closed → entry_at links-after l ≡ entry_at links l

-- an entry within a table that is not the true one
abbrev pub Differs : ℕ → (ℕ → Entry → Type 0) → Table → Type 0
Differs count TrueAt table = (k : ℕ) × (k < count) × (e : Entry) × TrueAt k e × (entry_at table k ≡ e → ⊥)

-- some entry of the two tables is not the true one
abbrev pub SomeDiffers : View → ℕ → Table → Table → Type 0
SomeDiffers U r turns links = Differs U.turns (TrueTurn U r) turns ⊎ Differs U.links (TrueLink U r) links

-- what an edit to the value already there answers and leaves; a byte is below 256
pub record SameValue (book : List ℕ) (turns links : Table) (answer : EditAnswer) (book-after : List ℕ) (turns-after links-after : Table) : Type 0 where
  pub answered : answer ≡ altered 0 0
  pub turns_kept : turns-after ≡ turns
  pub links_kept : links-after ≡ links
  pub book_kept : ((i : ℕ) → get_or book i 0 < 256) → book-after ≡ book
