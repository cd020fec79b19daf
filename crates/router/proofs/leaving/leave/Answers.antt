-- `router::leaving::leave` meets its contract.
-- Assumes nothing.
use Rattle.std.proofs.Common.{◌≡◌, ◌≤◌, length, rules, arith}
use Rattle.state.proofs.Exact.{length_any}
use Rattle.rules.specs.Departures.{departures}
use Rattle.rules.proofs.Folds.{over_none, over_again}
use Rattle.router.proofs.Departing.{nobody, no_channel, not_bound, leaves_now, leaves_past}
use Rattle.router.proofs.leaving.leave.Goals as goal

pub loop-o-init : goal.loop-o-init
loop-o-init c = record {
  inputs_long = search (rules, length_any);
  outputs_long = search (rules, length_any);
  so_far = over_none _ _;
}

pub loop-o-preserved-in_default : goal.loop-o-preserved-in_default
loop-o-preserved-in_default c =
    let a = c.args in
    record {
      inputs_long = search rules;
      outputs_long = search rules;
      so_far = over_again _ _ _ _ _ c.loop-o.invariant.so_far
          (nobody a.config a.rows a.picks _ _ c.in_default.ensures.winner);
    }

pub loop-o-preserved-then-x-ge-CHANNEL_PLACES : goal.loop-o-preserved-then-x-ge-CHANNEL_PLACES
loop-o-preserved-then-x-ge-CHANNEL_PLACES c =
    let a = c.args in
    let past : length c.loop-o.inputs ≤ c.number-x.result = omega arith in
    record {
      inputs_long = search rules;
      outputs_long = search rules;
      so_far = over_again _ _ _ _ _ c.loop-o.invariant.so_far
          (no_channel a.config a.rows a.picks _ _ c.in-Some.winner _ c.in-Some.ensures.winner c.number-x.ensures past);
    }

pub loop-o-preserved-in_default-binding : goal.loop-o-preserved-in_default-binding
loop-o-preserved-in_default-binding c =
    let a = c.args in
    record {
      inputs_long = search rules;
      outputs_long = search rules;
      so_far = over_again _ _ _ _ _ c.loop-o.invariant.so_far
          (not_bound a.config a.rows a.picks _ _ c.in-Some.winner _ c.in-Some.ensures.winner c.number-x.ensures c.in_default-binding.is);
    }

pub loop-o-preserved-then-y-ge-CHANNEL_PLACES : goal.loop-o-preserved-then-y-ge-CHANNEL_PLACES
loop-o-preserved-then-y-ge-CHANNEL_PLACES c =
    let a = c.args in
    let past : length c.loop-o.outputs ≤ c.number-y.result = omega arith in
    record {
      inputs_long = search rules;
      outputs_long = search rules;
      so_far = over_again _ _ _ _ _ c.loop-o.invariant.so_far
          (leaves_past a.config a.rows a.picks _ _ c.in-Some.winner _ c.in-Some.ensures.winner c.number-x.ensures c.in-Bound.to c.in-Bound.is
          c.ends_packet-last.ensures c.after_leaving.ensures c.let_go.ensures.seen c.let_go.ensures.left
          c.let_go.ensures.credited c.number-y.ensures past);
    }

pub loop-o-preserved : goal.loop-o-preserved
loop-o-preserved c =
    let a = c.args in
    record {
      inputs_long = search rules;
      outputs_long = search rules;
      so_far = over_again _ _ _ _ _ c.loop-o.invariant.so_far
          (leaves_now a.config a.rows a.picks _ _ c.in-Some.winner _ c.in-Some.ensures.winner c.number-x.ensures c.in-Bound.to c.in-Bound.is
          c.ends_packet-last.ensures c.after_leaving.ensures c.let_go.ensures.seen c.let_go.ensures.left
          c.let_go.ensures.credited c.number-y.ensures c.after_taking.ensures);
    }

pub returns : goal.returns
unfolding departures
returns c = let e : c.loop-o.o ≡ c.args.config.ports = omega arith in rw (← e) c.loop-o.invariant.so_far
