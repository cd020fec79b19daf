-- `arbiter::matrix::order` meets its contract: the rows passed are the list of the fresh ones.
-- Assumes nothing.
use Rattle.std.proofs.Common.{◌≡◌, ℕ, ◌<◌, length, take, refl, sym, ap, ◌∙◌, arith}
use Rattle.std.proofs.Math.Seq.{take-length}
use Rattle.arbiter.specs.Matrix.{list_of, fresh_row, fresh_rows}
use Rattle.arbiter.proofs.Rows.{filled_more}
use Rattle.arbiter.proofs.matrix.order.Goals as goal

pub loop-i-init : goal.loop-i-init
unfolding list_of
loop-i-init c = refl

pub loop-i-preserved : goal.loop-i-preserved
loop-i-preserved c =
    let l = c.loop-i in
    let h : l.i < length l.rows = let long = l.auto.rows in let t = c.loop-i-test.true in omega arith in
    filled_more (fresh_row c.args.n) l.rows l.i c.above.result h l.invariant c.above.ensures

pub returns : goal.returns
unfolding fresh_rows
returns c =
    let l = c.loop-i in
    let end : l.i ≡ length c.args.rows.now = let t = c.loop-i-test.false in let e = l.auto.i-end in omega arith in
    sym (take-length l.rows) ∙ ap (λ (k : ℕ). take k l.rows) (l.auto.rows ∙ sym end) ∙ l.invariant
    ∙ ap (list_of (fresh_row c.args.n)) end
