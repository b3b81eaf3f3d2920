-- The fields of the links passed are put.
use Rattle.std.proofs.Common.{take}
use Rattle.sheet.specs.Line.{further}
use Rattle.sheet.specs.steps.Storing.{Put}
use Rattle.sheet.proofs.Page.put_links.Given as goal

abbrev pub invariant-loop-link : goal.invariant-loop-link
invariant-loop-link l = Put l.initial.self (further (take l.link-index l.links)) l.self
