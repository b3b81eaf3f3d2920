-- Two successive turns looked up within a run of pairs.
use Rattle.std.specs.Prelude.{ℕ, ◌+◌, ◌-◌, List, Bool, true, false, Option, Some, None, not, ◌&&◌, ltb, eqb}
use Rattle.std.proofs.Math.Option.{Option as Extra, none}
use Rattle.book.specs.Entries.{pair_second, pair_extra, barred}
use Rattle.book.specs.FirstBad.{first_bad_from}
use Rattle.walk.specs.declared.Between.{Between}
use Rattle.walk.specs.View.{View, found_or}
use Rattle.walk.specs.Walks.{allowed, seconds}
use Rattle.walk.specs.steps.Costs.{turn_cost}

-- the first pair of those from `from` up to `to` whose second turn is t or a later one, or `to`
unfoldable pub pair_from : List ℕ → ℕ → ℕ → ℕ → ℕ
pair_from table from to t = first_bad_from (λ k. ltb (pair_second table k) t) from (to - from)

-- the extra of the pair at `at`, if it stands before `to` and its second turn is t
unfoldable pub listed_at : List ℕ → ℕ → ℕ → ℕ → Extra ℕ
listed_at table at to t = found_or (ltb at to && eqb (pair_second table at) t) (pair_extra table at) none

-- the seconds that turn t adds after what stands between, where it is neither closed nor forbidden
abbrev pub stepped : Bool → ℕ → Option ℕ
stepped true seconds = Some seconds
stepped false seconds = None

abbrev pub may_step : View → Between → ℕ → Bool
may_step U stands t = not (eqb (U.walk t) barred) && allowed stands

abbrev pub seconds_more : View → ℕ → ℕ → ℕ
seconds_more U extra t = extra + turn_cost U t

unfoldable pub step_to : View → Between → ℕ → Option ℕ
step_to U stands t = stepped (may_step U stands t) (seconds_more U (seconds stands) t)
