-- `arbiter::order::is_total` meets its contract: the ranks passed have their links, so what it answers is what the definition asks.
-- Assumes nothing.
use native.Mathlib.Omega.{arith}
use Rattle.arbiter.proofs.OrderTest.{entry, passed_none, passed_more, link_here, here_link, test_fails, test_passed}
use Rattle.arbiter.proofs.order.is_total.Goals as goal

pub loop-rank-init : goal.loop-rank-init
loop-rank-init c = passed_none c.args.n c.args.rows.now (entry c.by_rank-at.result)

pub only-own-requires : goal.only-own-requires
only-own-requires c =
    let p = c.requires in omega (arith, c.by_rank-at.ensures.inside c.loop-rank.rank)

pub offset_bounds-rows-i : goal.offset_bounds-rows-i
offset_bounds-rows-i c =
    let p = c.requires in
    record { fits = omega (arith, c.by_rank-at.ensures.inside c.loop-rank.rank) }

pub bounds-rows-i : goal.bounds-rows-i
bounds-rows-i c =
    let p = c.requires in
    omega (arith, c.by_rank-at.ensures.inside c.loop-rank.rank)

pub returns-then-rows-i : goal.returns-then-rows-i
returns-then-rows-i c =
    let a = c.args in
    test_fails a.n a.rows.now (entry c.by_rank-at.result) c.by_rank-at.ensures.inside c.by_rank-at.ensures.ranked c.loop-rank.rank
    c.loop-rank-test.true
    (λ link. c.if-rows-i.true (here_link a.n a.rows.now (entry c.by_rank-at.result) c.loop-rank.lower c.loop-rank.rank
    c.loop-rank.invariant link).0)

pub returns-then-lower-own-ne0 : goal.returns-then-lower-own-ne0
returns-then-lower-own-ne0 c =
    let a = c.args in
    test_fails a.n a.rows.now (entry c.by_rank-at.result) c.by_rank-at.ensures.inside c.by_rank-at.ensures.ranked c.loop-rank.rank
    c.loop-rank-test.true
    (λ link. c.if-lower-own-ne0.true (rw c.only-own.ensures
    (here_link a.n a.rows.now (entry c.by_rank-at.result) c.loop-rank.lower c.loop-rank.rank c.loop-rank.invariant link).1))

pub loop-rank-preserved : goal.loop-rank-preserved
loop-rank-preserved c =
    let a = c.args in
    rw c.only-own.ensures
    (passed_more a.n a.rows.now (entry c.by_rank-at.result) c.loop-rank.lower c.loop-rank.rank c.loop-rank-test.true
    c.loop-rank.invariant
    (link_here a.n a.rows.now (entry c.by_rank-at.result) c.loop-rank.lower c.loop-rank.rank c.loop-rank.invariant c.if-rows-i.false
    (rw c.only-own.ensures at c.if-lower-own-ne0.false)))

pub returns : goal.returns
returns c =
    let a = c.args in
    rw c.all.ensures
    (test_passed a.n a.rows.now (entry c.by_rank-at.result) c.by_rank-at.ensures.inside c.by_rank-at.ensures.ranked c.loop-rank.lower
    c.loop-rank.rank
    c.loop-rank-test.false c.loop-rank.invariant)
