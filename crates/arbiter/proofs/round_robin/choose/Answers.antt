-- `arbiter::round_robin::choose` meets its contract: the first bit at or after the pointer, else the first.
-- Assumes nothing.
use native.Mathlib.Omega.{arith}
use Rattle.arbiter.proofs.RoundRobin.{found_after, turn_after, turn_before, turn_nobody}
use Rattle.arbiter.proofs.round_robin.choose.Goals as goal

pub overflow_add-result : goal.overflow_add-result
overflow_add-result c =
    let a = c.args in
    let p = c.requires in
    let f = found_after a.n a.asking a.pointer p.0 p.1 p.2 (omega (arith, c.if-after-ne0.true)) in
    let low = f.below in
    record { fits = omega arith }

pub returns-then-after-ne0 : goal.returns-then-after-ne0
returns-then-after-ne0 c =
    let a = c.args in
    let p = c.requires in
    turn_after a.n a.asking a.pointer p.0 p.1 p.2 (omega (arith, c.if-after-ne0.true))

pub returns-then-asking-ne0 : goal.returns-then-asking-ne0
returns-then-asking-ne0 c =
    let a = c.args in
    let p = c.requires in
    turn_before a.n a.asking a.pointer p.0 p.1 p.2 (omega (arith, c.if-after-ne0.false)) (omega (arith, c.if-asking-ne0.true))

pub returns : goal.returns
returns c =
    let a = c.args in
    let p = c.requires in
    turn_nobody a.n a.asking a.pointer p.0 p.1 p.2 c.if-asking-ne0.false
