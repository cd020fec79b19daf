-- `edges::refusing::refused` meets its contract.
-- Assumes nothing.
use mathlib.Core.Path.{◌∙◌}
use Rattle.edges.proofs.Refusals.{router_is}
use Rattle.edges.proofs.Same.{same_router}
use Rattle.edges.proofs.refusing.refused.Goals as goal

pub expect-requires-2 : goal.expect-requires-2
expect-requires-2 c =
    let a = c.args in
    c.eq-2.ensures ∙ (same_router c.step-stepped.result.router a.before).1
    (router_is a.before a.part.now a.number a.port c.requires c.step-stepped.result c.step-stepped.ensures)
