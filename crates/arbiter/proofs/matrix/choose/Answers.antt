-- `arbiter::matrix::choose` meets its contract: the search over the bits that are left is the whole search.
-- Assumes nothing.
use Prim.Native.Nat.{◌≤◌, ◌<◌, ◌^◌}
use native.Mathlib.Omega.{arith}
use lib.Count.{count_trailing_zeros}
use lib.Pow.{pow_pos}
use Rattle.arbiter.proofs.Champion.{covered, trying_all, trying_below, trying_own, trying_wins, trying_less, trying_none}
use Rattle.arbiter.proofs.matrix.choose.Goals as goal
use Rattle.arbiter.proofs.matrix.choose.Goals.{In-loop-left}

-- the requester that a turn tries
tried : (c : In-loop-left) → count_trailing_zeros 32 c.loop-left.left < c.args.n
tried c =
    let a = c.args in
    let p = c.requires in
    trying_below a.n a.asking a.rows.now c.loop-left.left p.0 p.2 c.loop-left.invariant
    (omega (arith, c.loop-left-test.true))

own-le : (c : In-loop-left) → 2 ^ count_trailing_zeros 32 c.loop-left.left ≤ c.loop-left.left
own-le c =
    let a = c.args in
    let p = c.requires in
    trying_own a.n a.asking a.rows.now c.loop-left.left p.0 p.2 c.loop-left.invariant
    (omega (arith, c.loop-left-test.true))

pub loop-left-init : goal.loop-left-init
loop-left-init c = trying_all c.args.n c.args.asking c.args.rows.now c.requires.2

pub only-own-requires : goal.only-own-requires
only-own-requires c = let l = tried c in omega arith

pub overflow_cast-i : goal.overflow_cast-i
overflow_cast-i c = let l = tried (goal.at.overflow_cast-i c).In-loop-left in record { fits = omega arith }

pub offset_bounds-rows-i : goal.offset_bounds-rows-i
offset_bounds-rows-i c = let l = tried (goal.at.offset_bounds-rows-i c).In-loop-left in record { fits = omega arith }

pub bounds-rows-i : goal.bounds-rows-i
bounds-rows-i c = let l = tried (goal.at.bounds-rows-i c).In-loop-left in omega arith

pub returns-then-asking-rows : goal.returns-then-asking-rows
unfolding covered
returns-then-asking-rows c =
    let a = c.args in
    let p = c.requires in
    trying_wins a.n a.asking a.rows.now c.loop-left.left p.0 p.2 c.loop-left.invariant
    (omega (arith, c.loop-left-test.true))
    (rw c.only-own.ensures at c.if-asking-rows.true)

pub overflow_sub-left : goal.overflow_sub-left
overflow_sub-left c = rw c.only-own.ensures (own-le (goal.at.overflow_sub-left c).In-loop-left)

pub loop-left-smaller : goal.loop-left-smaller
loop-left-smaller c =
    let o = own-le (goal.at.loop-left-smaller c).In-loop-left in
    omega (arith, pow_pos (count_trailing_zeros 32 c.loop-left.left))

pub loop-left-preserved : goal.loop-left-preserved
unfolding covered
loop-left-preserved c =
    let a = c.args in
    let p = c.requires in
    rw c.only-own.ensures
    (trying_less a.n a.asking a.rows.now c.loop-left.left p.0 p.2 c.loop-left.invariant
    (omega (arith, c.loop-left-test.true))
    (rw c.only-own.ensures at c.if-asking-rows.false))

pub returns : goal.returns
returns c =
    let a = c.args in
    trying_none a.n a.asking a.rows.now c.loop-left.left c.loop-left.invariant c.loop-left-test.false
