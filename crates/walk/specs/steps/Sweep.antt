-- The local equations as a computation: one sweep over what an entry may come from, in the order of turn or link numbers.
use Rattle.std.specs.Prelude.{Bool, true, false, ℕ, zero, suc, eqb}
use Rattle.std.proofs.Math.Option.{Option, none, some}
use Rattle.walk.specs.steps.Net.{Net, Back, start, via, Entry, unreached, reached, Table}

abbrev pub when : {A : Type 0} → Bool → Option A → Option A
when true a = a
when false a = none

abbrev pub key_of : {K : Type 0} → Entry K → Option K
key_of unreached = none
key_of (reached k b) = some k

abbrev pub mapped : {K : Type 0} → (K → K) → Option K → Option K
mapped f none = none
mapped f (some k) = some (f k)

abbrev pub based : {K : Type 0} → Option K → Entry K
based none = unreached
based (some k) = reached k start

module _ (K : Type 0) (ahead : K → Back → K → Back → Bool) where
  abbrev pub kept : Bool → K → Back → Entry K → Entry K
  kept true k b e = reached k b
  kept false k b e = e

  -- an entry stays unless what it is offered is ahead of it
  abbrev pub offer : Entry K → Option K → Back → Entry K
  offer e none b = e
  offer unreached (some k) b = reached k b
  offer (reached k' b') (some k) b = kept (ahead k b k' b') k b (reached k' b')

-- numbers ascend in a sweep, so that a later one has to be smaller by its key
abbrev pub by_key : {K : Type 0} → (K → K → Bool) → K → Back → K → Back → Bool
by_key less k b k' b' = less k k'

module _ (K : Type 0) (less : K → K → Bool) where
  abbrev pub sweep : Option K → (ℕ → Option K) → ℕ → Entry K
  sweep base hand zero = based base
  sweep base hand (suc p) = offer K (by_key less) (sweep base hand p) (hand p) (via p)

  -- the least of a start of its own and of what the first n entries of a table give after one step
  abbrev pub gather : Bool → K → (ℕ → Bool) → (ℕ → K → K) → Table K → ℕ → Entry K
  gather begins begin passes step tab n = sweep (when begins (some begin)) (λ p. when (passes p) (mapped (step p) (key_of (tab p)))) n

module _ (K : Type 0) (N : Net K) (less : K → K → Bool) where
  abbrev pub turn_entry : Table K → ℕ → Entry K
  turn_entry tab t = gather K less (N.begins t) (N.begin t) (λ p. N.follows p t) (λ p. N.extend p t) tab N.turns

  abbrev pub link_entry : Table K → ℕ → Entry K
  link_entry tab l = gather K less (N.leaves l) (N.alone l) (λ t. eqb (N.second t) l) (λ t k. k) tab N.turns

  abbrev pub route_entry : Table K → ℕ → ℕ → Entry K
  route_entry ltab r s = gather K less (eqb r s) N.empty (λ l. eqb (N.enters l) s) (λ l k. k) ltab N.links
