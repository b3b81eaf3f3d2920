-- A sweep finds the least candidate; so a table is true exactly where each entry is its own sweep.
use mathlib.Core.Path.{◌≡◌, refl, sym, ap, ◌∙◌, subst}
use mathlib.Core.Logic.{◌⊎◌, inl, inr, ◌↔◌}
use mathlib.Core.Bool.{Bool, true, false}
use mathlib.Core.Option.{some}
use Prim.Native.Nat.{ℕ, zero, suc, ◌<◌}
use native.Mathlib.Omega.{arith}
use lib.Dec.{T, eqb, eqb→eq, eqb_refl}
use Rattle.walk.specs.steps.Net.{Net, Back, start, via, rank, Entry, unreached, reached, Table, TrueLink, TrueRoute, TrueTurns}
use Rattle.walk.specs.steps.Net.{TrueLinks, Cand, LinkCand, NodeCand, Ahead, Least, least, nothing, Local}
use Rattle.walk.specs.steps.Sweep.{when, key_of, mapped, based, offer, by_key, gather, turn_entry, link_entry, route_entry}
use Rattle.walk.proofs.theory.Laws.{Compared, Laws, lt_tri, clash}
use Rattle.walk.proofs.theory.Order.{not_ahead_self}
use Rattle.walk.proofs.theory.Least.{least_same, least_unique}
use Rattle.walk.proofs.theory.Offer.{offer_least}
use Rattle.walk.proofs.theory.Stage.{Stage, Offered, begun, handed}
use Rattle.walk.proofs.theory.ThreeStages.{turn_stage, link_stage, node_stage, turn_cands, link_cands, node_cands}
use Rattle.walk.proofs.theory.Certificate.{certificate, link_true_least}
use Rattle.walk.proofs.theory.Destination.{route_certificate}

-- the test of the keys' order
pub record Tested (K : Type 0) (N : Net K) (less : K → K → Bool) : Type 0 where
  pub less_yes : (a b : K) → less a b ≡ true → N.lt a b
  pub less_no : (a b : K) → less a b ≡ false → ¬ N.lt a b

eqb_iff : (a b : ℕ) → (a ≡ b) ↔ T (eqb a b)
eqb_iff a b = (λ e. subst (λ (x : ℕ). T (eqb a x)) e (eqb_refl a), eqb→eq a b)

itself : {A : Type 0} → A ↔ A
itself = (λ x. x, λ x. x)

module _ (K : Type 0) (N : Net K) (L : Laws K N) (less : K → K → Bool) (D : Tested K N less) where
  -- ---- the sweep of any stage, whose two questions have tests

  module _ (S : Stage K) (x : Bool) (f : ℕ → Bool) (tab : Table K)
      (begins : S.begins ↔ T x) (passes : (p : ℕ) → S.passes p ↔ T (f p)) where
    only_start : {k : K} {b : Back} → Offered S zero tab k b → S.begins × (k ≡ S.key) × (b ≡ start)
    only_start (begun s) = (s, refl, refl)
    only_start (handed p h g e) = absurd (omega arith)

    begin_least : (y : Bool) → x ≡ y → Least K N (Offered S zero tab) (based (when y (some S.key)))
    begin_least true e = least (begun (begins.1 (subst T (sym e) tt))) (λ k b c. let (s, i, j) = only_start c in not_ahead_self K N L i j)
    begin_least false e = nothing (λ k b c. subst T e (begins.0 (only_start c).0))

    earlier : (n : ℕ) {k : K} {b : Back} → Offered S n tab k b → Offered S (suc n) tab k b
    earlier n (begun s) = begun s
    earlier n (handed p h g e) = handed p (omega arith) g e

    offered_rank : (n : ℕ) {k : K} {b : Back} → Offered S n tab k b → rank b < rank (via n)
    offered_rank n (begun s) = omega arith
    offered_rank n (handed p h g e) = omega arith

    -- an earlier candidate, or the one of number n
    abbrev Latest : ℕ → K → Back → Type 0
    Latest n k b = Offered S n tab k b ⊎ ((k' : K) × (b' : Back) × S.passes n × (tab n ≡ reached k' b') × (k ≡ S.step n k') × (b ≡ via n))

    latest : (n : ℕ) {k : K} {b : Back} → Offered S (suc n) tab k b → Latest n k b
    latest n (begun s) = inl (begun s)
    latest n (handed p {k} {b} h g e) = go (lt_tri p n)
      where
        go : Compared ◌<◌ p n → Latest n (S.step p k) (via p)
        go (inl i) = inl (handed p i g e)
        go (inr (inl i)) = inr (k, b, subst (λ (y : ℕ). S.passes y) i g, sym (ap tab i) ∙ e, ap (λ (y : ℕ). S.step y k) i, ap via i)
        go (inr (inr i)) = absurd (omega arith)

    -- number n has nothing to offer
    silent : (n : ℕ) → ((k : K) (b : Back) → S.passes n → ¬ (tab n ≡ reached k b)) → {e : Entry K}
        → Least K N (Offered S n tab) e → Least K N (Offered S (suc n) tab) e
    silent n none m = least_same K N (λ k b. (earlier n, λ c. go k b (latest n c))) m
      where
        go : (k : K) (b : Back) → Latest n k b → Offered S n tab k b
        go k b (inl c) = c
        go k b (inr (k', b', g, e, i, j)) = absurd (none k' b' g e)

    -- number n offers one candidate more, behind those so far where the keys are equal
    speaks : (n : ℕ) (kn : K) (bn : Back) → S.passes n → tab n ≡ reached kn bn → {e : Entry K}
        → Least K N (Offered S n tab) e → Least K N (Offered S (suc n) tab) (offer K (by_key less) e (some (S.step n kn)) (via n))
    speaks n kn bn g e = offer_least K N L (λ k b c. earlier n c) (handed n (omega arith) g e) (λ k b c. go k b (latest n c)) (by_key less)
        (λ k b i. inl (D.less_yes (S.step n kn) k i)) (λ k b c i. behind k b c (D.less_no (S.step n kn) k i))
      where
        go : (k : K) (b : Back) → Latest n k b → Offered S n tab k b ⊎ ((k ≡ S.step n kn) × (b ≡ via n))
        go k b (inl c) = inl c
        go k b (inr (k', b', g', e', i, j)) = inr (cc, j)

        behind : (k : K) (b : Back) → Offered S n tab k b → ¬ N.lt (S.step n kn) k → ¬ Ahead K N (S.step n kn) (via n) k b
        behind k b c h (inl a) = h a
        behind k b c h (inr (i, a)) = omega (arith, offered_rank n c)

    sweep_step : (n : ℕ) (y : Bool) → f n ≡ y → (o : Entry K) → tab n ≡ o → {e : Entry K} → Least K N (Offered S n tab) e
        → Least K N (Offered S (suc n) tab) (offer K (by_key less) e (when y (mapped (S.step n) (key_of o))) (via n))
    sweep_step n false i o j = silent n (λ k b g e. subst T i ((passes n).0 g))
    sweep_step n true i unreached j = silent n (λ k b g e. clash (cc))
    sweep_step n true i (reached k b) j = speaks n k b ((passes n).1 (subst T (sym i) tt)) j

    gather_least : (n : ℕ) → Least K N (Offered S n tab) (gather K less x S.key f S.step tab n)
    gather_least zero = begin_least x refl
    gather_least (suc n) = sweep_step n (f n) refl (tab n) refl (gather_least n)

  -- ---- the three sweeps

  pub turn_least : (tab : Table K) (t : ℕ) → Least K N (Cand K N tab t) (turn_entry K N less tab t)
  turn_least tab t =
      least_same K N (turn_cands K N)
      (gather_least (turn_stage K N t) (N.begins t) (λ p. N.follows p t) tab itself (λ p. itself) N.turns)

  pub link_least : (tab : Table K) (l : ℕ) → Least K N (LinkCand K N tab l) (link_entry K N less tab l)
  link_least tab l =
      least_same K N (link_cands K N)
      (gather_least (link_stage K N l) (N.leaves l) (λ t. eqb (N.second t) l) tab itself (λ t. eqb_iff (N.second t) l) N.turns)

  pub node_least : (ltab : Table K) (r s : ℕ) → Least K N (NodeCand K N ltab r s) (route_entry K N less ltab r s)
  node_least ltab r s =
      least_same K N (node_cands K N)
      (gather_least (node_stage K N r s) (eqb r s) (λ l. eqb (N.enters l) s) ltab (eqb_iff r s) (λ l. eqb_iff (N.enters l) s) N.links)

  -- ---- the local equations are fixed points of the sweep

  pub local_fixed : (tab : Table K) → Local K N tab ↔ ((t : ℕ) → t < N.turns → tab t ≡ turn_entry K N less tab t)
  local_fixed tab = (λ m t h. least_unique K N L (m t h) (turn_least tab t), λ e t h. rw (e t h) (turn_least tab t))

  -- what a search has to reach, what a judge of lent labels has to test, and what a worked case computes
  pub turns_true : (tab : Table K) → ((t : ℕ) → t < N.turns → tab t ≡ turn_entry K N less tab t) ↔ TrueTurns K N tab
  turns_true tab = (λ e. (certificate K N L tab).0 ((local_fixed tab).1 e), λ e. (local_fixed tab).0 ((certificate K N L tab).1 e))

  pub link_true : (tab : Table K) → TrueTurns K N tab → (l : ℕ) → l < N.links → TrueLink K N l (link_entry K N less tab l)
  link_true tab e l h = (link_true_least K N L tab e l h).0 (link_least tab l)

  pub route_true : (ltab : Table K) → TrueLinks K N ltab → (r s : ℕ) → TrueRoute K N r s (route_entry K N less ltab r s)
  route_true ltab e r s = (route_certificate K N L ltab e r s).0 (node_least ltab r s)
