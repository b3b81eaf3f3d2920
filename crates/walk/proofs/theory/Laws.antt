-- What the theory asks of a key's order and of a net, and the small facts that all of it shares.
use mathlib.Core.Path.{◌≡◌, refl, ap, subst}
use mathlib.Core.Logic.{◌⊎◌, inl, inr}
use mathlib.Core.Bool.{Bool, true, false}
use Prim.Native.Nat.{ℕ, suc, ◌+◌, ◌<◌}
use native.Mathlib.Omega.{arith}
use native.Mathlib.Decide.{dec_lt}
use lib.Dec.{T}
use Rattle.walk.specs.steps.Net.{Net, Back, start, via, rank}

-- one of the two is less, or they are equal
abbrev pub Compared : {A : Type 0} → (A → A → Type 0) → A → A → Type 0
Compared less a b = less a b ⊎ ((a ≡ b) ⊎ less b a)

pub record Laws (K : Type 0) (N : Net K) : Type 0 where
  -- the keys' order is strict and total
  pub irrefl : (a : K) → ¬ N.lt a a
  pub trans : (a b c : K) → N.lt a b → N.lt b c → N.lt a c
  pub tri : (a b : K) → Compared N.lt a b
  -- a step respects it and makes a key larger
  pub mono : (p t : ℕ) (a b : K) → N.lt a b → N.lt (N.extend p t a) (N.extend p t b)
  pub grows : (p t : ℕ) (a : K) → N.lt a (N.extend p t a)
  -- a key counts its walk's links
  pub size_empty : N.size N.empty ≡ 0
  pub size_alone : (l : ℕ) → N.size (N.alone l) ≡ 1
  pub size_begin : (t : ℕ) → N.size (N.begin t) ≡ 2
  pub size_extend : (p t : ℕ) (a : K) → N.size (N.extend p t a) ≡ suc (N.size a)
  -- turns into one link ascend by their first link
  pub ascend : (p t : ℕ) → p < N.turns → t < N.turns → N.second p ≡ N.second t → p < t → N.first p < N.first t
  -- a turn's second link is one, and a turn follows where the one before it ends
  pub second_in : (t : ℕ) → t < N.turns → N.second t < N.links
  pub joint : (p t : ℕ) → T (N.follows p t) → N.second p ≡ N.first t

-- two different constructors are never equal: `cc` finds this equation from such a premise
pub clash : {A : Type 0} → ◌≡◌ {A = ℕ} 0 1 → A
clash e = absurd (omega arith)

pub lt_tri : (a b : ℕ) → Compared ◌<◌ a b
lt_tri a b = elim (dec_lt a b) [ yes h ↦ inl h | no n ↦ elim (dec_lt b a) [ yes h ↦ inr (inr h) | no m ↦ inr (inl (omega arith)) ] ]

pub refuted : (test : Bool) → (test ≡ true → ⊥) → test ≡ false
refuted true never = absurd (never refl)
refuted false never = refl

-- what holds below n and of n holds below one more
pub one_more : (n : ℕ) (P : ℕ → Type 0) → ((k : ℕ) → k < n → P k) → P n → (k : ℕ) → k < n + 1 → P k
one_more n P before last k h = by (dec_lt k n)
  where
    by : Dec (k < n) → P k
    by (yes below) = before k below
    by (no past) =
        let same : n ≡ k = omega arith in
        subst P same last

pub rank_injective : (b b' : Back) → rank b ≡ rank b' → b ≡ b'
rank_injective start start e = refl
rank_injective start (via p) e = absurd (omega arith)
rank_injective (via p) start e = absurd (omega arith)
rank_injective (via p) (via p') e = let z : p ≡ p' = omega arith in ap via z

abbrev pub Earlier : Back → Back → Type 0
Earlier b b' = rank b < rank b'

pub back_tri : (b b' : Back) → Compared Earlier b b'
back_tri b b' = go (lt_tri (rank b) (rank b'))
  where
    go : Compared ◌<◌ (rank b) (rank b') → Compared Earlier b b'
    go (inl h) = inl h
    go (inr (inl e)) = inr (inl (rank_injective b b' e))
    go (inr (inr h)) = inr (inr h)

module _ (K : Type 0) (N : Net K) (L : Laws K N) where
  pub asym : (a b : K) → N.lt a b → ¬ N.lt b a
  asym a b h g = L.irrefl a (L.trans a b a h g)

  pub not_less_trans : (a b c : K) → ¬ N.lt b a → ¬ N.lt c b → ¬ N.lt c a
  not_less_trans a b c h g x = go (L.tri a b)
    where
      go : Compared N.lt a b → ⊥
      go (inl u) = g (L.trans c a b x u)
      go (inr (inl u)) = g (rw u at x)
      go (inr (inr u)) = h u

  pub not_less_extend : (p t : ℕ) (a b : K) → ¬ N.lt b a → ¬ N.lt (N.extend p t b) (N.extend p t a)
  not_less_extend p t a b h x = go (L.tri a b)
    where
      go : Compared N.lt a b → ⊥
      go (inl u) = asym (N.extend p t a) (N.extend p t b) (L.mono p t a b u) x
      go (inr (inl u)) = L.irrefl (N.extend p t b) (rw u at x)
      go (inr (inr u)) = h u

  pub not_less_both : (a b : K) → ¬ N.lt a b → ¬ N.lt b a → a ≡ b
  not_less_both a b h g = go (L.tri a b)
    where
      go : Compared N.lt a b → a ≡ b
      go (inl u) = absurd (h u)
      go (inr (inl u)) = u
      go (inr (inr u)) = absurd (g u)
