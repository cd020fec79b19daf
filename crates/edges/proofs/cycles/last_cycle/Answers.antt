-- `edges::cycles::last_cycle` meets its contract.
-- Assumes nothing.
use mathlib.Core.Path.{refl, ◌∙◌}
use borrow.Author.Rules.{rules}
use Rattle.state.specs.Setters.{with_cycle}
use Rattle.edges.proofs.Same.{same_router}
use Rattle.edges.proofs.Limits.{last_verdict, last_router, last_reply}
use Rattle.edges.proofs.cycles.last_cycle.Goals as goal

pub expect-requires : goal.expect-requires
expect-requires c =
    let e = last_verdict c.turns-before.result c.turns-before.ensures c.step-stepped.result c.step-stepped.ensures in
    c.eq.ensures ∙ rw e refl

pub expect-requires-2 : goal.expect-requires-2
expect-requires-2 c =
    c.eq-2.ensures ∙ (same_router c.step-stepped.result.router (with_cycle 1000000000 c.turns-end.result)).1
    (last_router c.turns-before.result c.turns-before.ensures c.step-stepped.result
    c.step-stepped.ensures c.turns-end.result c.turns-end.ensures)

pub expect-requires-3 : goal.expect-requires-3
expect-requires-3 c =
    let e = last_reply c.turns-before.result c.turns-before.ensures c.step-stepped.result c.step-stepped.ensures in
    search (rules, e)
