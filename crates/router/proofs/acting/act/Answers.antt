-- `router::acting::act` meets its contract.
-- Assumes nothing.
use Rattle.std.proofs.Common.{◌≡◌, ℕ}
use Rattle.rules.specs.Intake.{advanced}
use Rattle.router.specs.Whole.{router_of, bound_of}
use Rattle.rules.specs.Intake.{advanced}
use Rattle.router.proofs.WholeCycle.{fifth_is, sent_is, sent_resting}
use Rattle.router.proofs.acting.act.Goals as goal
use Rattle.router.proofs.acting.act.Goals.{After-ready-ready}

-- after phase 5
bound : (c : After-ready-ready) (n : ℕ)
    → router_of c.args.config n (record {
      inputs = c.bind-named.result.inputs;
      outputs = c.bind-named.result.outputs;
      vcs = c.move_on-vcs.result;
      ins = c.args.parts.ins;
      outs = c.args.parts.outs;
    }) c.land-inputs3.new.store c.take_offers-inputs4.new.wire c.advance.new.line
    ≡ bound_of c.args.config n c.args.parts c.args.store.now c.args.wire.now c.args.home.now c.args.part.now
unfolding advanced
bound c n = search fifth_is

pub returns-then-ready-eq0 : goal.returns-then-ready-eq0
returns-then-ready-eq0 c =
    let b = bound (goal.at.returns-then-ready-eq0 c).After-ready-ready in
    let k = λ (n : ℕ). sent_resting c.args.config c.requires.0.ports.1 n _ _ _ _ _ _ _ _ _ _ (b n) c.ready-ready.ensures c.if-ready-eq0.true in
    record { after = λ n. (k n).0; said = λ n. rw (c.report-senders.ensures, (k n).1) }

pub returns : goal.returns
returns c =
    let b = bound (goal.at.returns c).After-ready-ready in
    let k = λ (n : ℕ). sent_is c.args.config c.requires.0.ports.1 n _ _ _ _ _ _ _ _ _ _ (b n) c.ready-ready.ensures
    c.pick_inputs-picks.result c.pick_outputs-rows.result c.table_of-table.result _ _ _ _ _ _ _ c.pick_inputs-picks.ensures
    c.table_of-table.ensures.by_index c.pick_outputs-rows.ensures c.move_on-ins.ensures c.move_on-outs.ensures
    c.leave-gone.ensures in
    record { after = λ n. (k n).0; said = λ n. rw (c.report-senders.ensures, (k n).1) }
