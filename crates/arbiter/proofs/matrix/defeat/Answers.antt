-- `arbiter::matrix::defeat` meets its contract: the loop raises the rows one by one, and the last store clears the winner's.
-- Assumes nothing.
use Rattle.std.proofs.Common.{◌≡◌, ℕ, List, set, refl, ap, ◌∙◌, arith}
use Rattle.arbiter.specs.Matrix.{raised, defeated}
use Rattle.arbiter.proofs.Rows.{raised_more}
use Rattle.arbiter.proofs.matrix.defeat.Goals as goal

pub loop-j-init : goal.loop-j-init
unfolding raised
loop-j-init c = refl

pub loop-j-preserved : goal.loop-j-preserved
loop-j-preserved c = rw c.only-own.ensures (raised_more c.args.w c.loop-j.j c.args.rows.now c.loop-j.rows c.loop-j.invariant)

pub returns : goal.returns
unfolding defeated
returns c =
    let l = c.loop-j in
    let end : l.j ≡ c.args.n = let t = c.loop-j-test.false in let e = l.auto.j-end in omega arith in
    ap (λ (r : List ℕ). set r c.args.w 0) (l.invariant ∙ ap (λ (k : ℕ). raised c.args.w k c.args.rows.now) end)
