-- A walk with no links costs nothing; one whose first link does not leave the origin is not permitted.
use Rattle.std.proofs.Common.{rules, arith, sym, ◌≡◌, ◌∷◌, ◌∙◌}
use Rattle.walk.proofs.Growth.{same_split}
use Rattle.walk.specs.View.{view_in}
use Rattle.walk.proofs.GivenWalks.{no_links, no_start, onward_all, all_followed}
use Rattle.walk.proofs.Viewed.cost_along.Goals as goal

pub returns-in_default : goal.returns-in_default
returns-in_default c =
    let (ride, (wait, (walk, extra))) = c.default.ensures in
    rw (same_split ride wait walk extra) (no_links _ _ _ (search rules))

pub returns-then-self-from : goal.returns-then-self-from
returns-then-self-from c =
    let parts : c.args.links.now ≡ c.in-Some.number.now ∷ c.in-Some.rest.now = search rules in
    rw parts (no_start _ _ _ (omega arith) (λ h. omega (arith, h.0, c.from.ensures, c.if-self-from.true)))

pub returns-then-ne : goal.returns-then-ne
returns-then-ne c =
    let parts : c.args.links.now ≡ c.in-Some.number.now ∷ c.in-Some.rest.now = search rules in
    rw parts (no_start _ _ _ (omega arith) (λ h. search (rules, c.if-ne.true, h.1)))

pub returns : goal.returns
returns c =
    let parts : c.args.links.now ≡ c.in-Some.number.now ∷ c.in-Some.rest.now = search rules in
    let met : c.link_from.result.0 ≡ c.args.origin.0 = search (rules, c.if-ne.false) in
    rw (parts, ← sym c.link_from.ensures ∙ met) (onward_all (view_in c.args.self) _ _ c.cost_onward.ensures (search (rules, arith, all_followed)))
