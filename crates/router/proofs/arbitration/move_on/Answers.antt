-- `router::arbitration::move_on` meets its contract.
-- Assumes nothing.
use Rattle.std.proofs.Common.{◌∙◌, rules, arith}
use lib.ListN.{length-set}
use Rattle.arbiter.specs.Requests.{width}
use Rattle.rules.proofs.Folds.{over_none, over_again}
use Rattle.router.proofs.Moving.{turn, turn_stays, turn_moves}
use Rattle.router.proofs.arbitration.move_on.Goals as goal

pub loop-i-init : goal.loop-i-init
loop-i-init g c = (search rules, over_none (turn g.row.PLACES c.args.config (width g.row.PLACES c.args.n) c.args.picks) c.args.before)

pub loop-i-preserved-in_default : goal.loop-i-preserved-in_default
loop-i-preserved-in_default g c =
    let a = c.args in
    let l = c.loop-i in
    let t = turn g.row.PLACES a.config (width g.row.PLACES a.n) a.picks in (
      l.invariant.0,
      over_again l.i t a.before l.arbiters l.arbiters l.invariant.1
          (turn_stays g.row.PLACES a.config (width g.row.PLACES a.n) a.picks l.arbiters l.i c.in_default.not-Some),
    )

pub loop-i-preserved : goal.loop-i-preserved
loop-i-preserved g c =
    let a = c.args in
    let l = c.loop-i in
    let t = turn g.row.PLACES a.config (width g.row.PLACES a.n) a.picks in (
      length-set l.arbiters l.i c.moved.result ∙ l.invariant.0,
      over_again l.i t a.before l.arbiters _ l.invariant.1
          (rw c.moved.ensures
          (turn_moves g.row.PLACES a.config (width g.row.PLACES a.n) a.picks l.arbiters l.i c.in-Some.pick c.index-arbiters-i.result
          c.in-Some.is (omega arith))),
    )
