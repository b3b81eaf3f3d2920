-- A search that refuses has refused the origin; one that is done hands its labels to the route.
use Rattle.std.proofs.lemmas.Result.{err_from_is_err_and}
use Rattle.sheet.proofs.Finding.{search_found, route_found}
use Rattle.sheet.proofs.planning.plan_search.Goals as goal

pub returns-in_err-search-clause-found : goal.returns-in_err-search-clause-found
returns-in_err-search-clause-found c =
    let p = err_from_is_err_and c.from_residual.result c.from_residual.ensures.1 in
    rw (p.1, p.2) (search_found _ _ _ _ _ _ _ _ c.search.ensures.searched _ c.args.book.good c.requires.turns_sized c.requires.links_sized _ c.in_err-search.was _)

pub returns-clause-found : goal.returns-clause-found
returns-clause-found c = route_found _ _ _ _ _ _ _ _ c.search.ensures.searched c.in_ok-search.was _ _ c.requires.room _ (rw (c.lent.ensures, c.lent-2.ensures) at c.route.ensures)
