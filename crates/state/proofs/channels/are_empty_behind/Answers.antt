-- `state::channels::are_empty_behind` meets its contract: a slot that is not empty fails.
-- Assumes nothing.
use Rattle.std.proofs.Common.{rules, arith}
use Rattle.state.proofs.Tests.{every_fails}
use Rattle.state.proofs.Clauses.{behind_some}
use Rattle.state.proofs.channels.are_empty_behind.Goals as goal

pub returns-then-store-base-ne0 : goal.returns-then-store-base-ne0
returns-then-store-base-ne0 c =
    let a = c.args in
    every_fails _ c.loop-k.k _ (search rules) (behind_some a.base a.queued a.store.now c.loop-k.k (omega arith) c.if-store-base-ne0.true)
