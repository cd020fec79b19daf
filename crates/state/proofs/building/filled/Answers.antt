-- `state::building::filled` meets its contract: the places passed are filled.
-- Assumes nothing.
use Rattle.std.proofs.Common.{◌≡◌, ℕ, ap, ◌∙◌, arith}
use Rattle.state.specs.Fresh.{filled}
use Rattle.state.proofs.Filled.{filled_again}
use Rattle.state.proofs.building.filled.Goals as goal

pub loop-k-preserved : goal.loop-k-preserved
loop-k-preserved g c =
    let l = c.loop-k in
    filled_again l.made c.args.used c.args.unused g.row.PLACES l.k (let t = c.loop-k-test.true in let r = c.requires in omega arith) l.invariant

pub returns : goal.returns
returns g c =
    let l = c.loop-k in
    let end : l.k ≡ c.args.n = let t = c.loop-k-test.false in let e = l.auto.k-end in omega arith in
    l.invariant ∙ ap (λ (k : ℕ). filled k g.row.PLACES c.args.used c.args.unused) end
