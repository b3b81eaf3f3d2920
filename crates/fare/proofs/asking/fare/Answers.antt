-- What the check refuses, Route refuses, and what Route answers with room for every walk is what it answers with the lent buffer.
use Rattle.std.proofs.Common.{sym, ◌∙◌, arith}
use Rattle.std.proofs.lemmas.Result.{err_from_is_err_and}
use Rattle.search.proofs.RouteRoom.{check_refuses, refused_elsewhere, found_elsewhere}
use Rattle.fare.proofs.FoundLaws.{refused_faring, found_faring}
use Rattle.fare.proofs.asking.fare.Goals as goal

pub returns-in_err-counts : goal.returns-in_err-counts
returns-in_err-counts c =
    let p = err_from_is_err_and c.from_residual.result c.from_residual.ensures.1 in
    rw (p.1, p.2) (refused_faring _ _ _ _ _ _ _ _ _ (check_refuses _ _ _ _ _ _ _ (sym c.check.ensures ∙ c.in_err-counts.was)))

pub returns-in_err-found : goal.returns-in_err-found
returns-in_err-found c =
    let p = err_from_is_err_and c.from_residual-in_err-found.result c.from_residual-in_err-found.ensures.1 in
    rw (p.1, p.2) (refused_faring _ _ _ _ _ _ _ _ _ (refused_elsewhere _ _ _ _ _ _ _ _ _ _ c.in_err-found.was (omega arith) c.route.ensures))

pub fare_found-requires : goal.fare_found-requires
fare_found-requires c =
    let found = found_elsewhere _ _ _ _ _ c.args.buffer.now _ _ c.in_ok-counts.counts (sym c.check.ensures ∙ c.in_ok-counts.was) _ _ _ c.in_ok-found.was c.route.ensures in
    rw (c.carry.ensures.counts, c.from.ensures) (record { few = omega (arith, found.front, found.few); exist = found.exist })

pub returns : goal.returns
returns c =
    let good = sym c.check.ensures ∙ c.in_ok-counts.was in
    found_faring _ _ _ _ _ _ _ _ _ _ good _ _ (found_elsewhere _ _ _ _ _ _ _ _ c.in_ok-counts.counts good _ _ _ c.in_ok-found.was c.route.ensures) _ _ (rw (c.carry.ensures.bytes, c.carry.ensures.counts, c.from.ensures) at c.fare_found.ensures)
