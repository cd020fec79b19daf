-- `router::running::flits_of` meets its contract: of the outputs passed so many have a flit.
-- Assumes nothing.
use Rattle.std.proofs.Common.{◌+◌, ◌≤◌, ℕ, Bool, true, false, get_or, arith}
use Rattle.std.specs.Prelude.{None, is_some}
use mir.Val.{bool_byte}
use Rattle.router.proofs.FlitCount.{count_none, counted_more, counted}
use Rattle.router.proofs.running.flits_of.Goals as goal

small : (b : Bool) → bool_byte b ≤ 1
small true = omega arith
small false = omega arith

few : (count n : ℕ) (b : Bool) → count ≤ n → count + bool_byte b ≤ n + 1
few count n b h = let s = small b in omega arith

pub loop-left-init : goal.loop-left-init
loop-left-init c = (omega arith, count_none c.args.reply.outputs)

pub loop-left-preserved : goal.loop-left-preserved
loop-left-preserved c =
    let l = c.loop-left in
    let o = c.args.reply.outputs in
    rw (c.from-count.ensures, c.is_some.ensures) (
      few l.count l.left-index (is_some (get_or o l.left-index None)) l.invariant.0,
      counted_more o l.left-index l.count l.invariant.1,
    )

pub overflow_add-count : goal.overflow_add-count
overflow_add-count c =
    let l = c.loop-left in
    let t = c.loop-left-test.true in
    let h = l.invariant.0 in
    rw (c.from-count.ensures) (record { fits = let b = small (c.is_some.result) in omega arith })

pub returns-clause-few : goal.returns-clause-few
returns-clause-few c = let h = c.loop-left.invariant.0 in let e = c.loop-left.auto.left-index-end in omega arith

pub returns-clause-lines : goal.returns-clause-lines
returns-clause-lines c =
    let l = c.loop-left in
    λ cycle. counted c.args.reply cycle l.left-index l.count (let t = c.loop-left-test.false in let e = l.auto.left-index-end in omega arith)
    l.invariant.1
