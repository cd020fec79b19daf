-- `router::leaving::leave` meets its contract.
-- Assumes nothing.
use Rattle.std.proofs.Common.{◌≡◌, length}
use Rattle.rules.specs.Ports.{over_ports}
use Rattle.rules.specs.Departures.{Leaving}
use Rattle.router.proofs.Departing.{leave_turn}
use Rattle.router.proofs.leaving.leave.Given as goal

abbrev pub invariant-loop-o : goal.invariant-loop-o
invariant-loop-o l = record {
  inputs_long : length l.inputs ≡ 32;
  outputs_long : length l.outputs ≡ 32;
  so_far : ◌≡◌ {A = Leaving} (record { inputs = l.inputs; outputs = l.outputs; store = l.store; home = l.home; left = l.left })
      (over_ports l.o (leave_turn l.config l.rows l.picks)
      (record {
        inputs = l.initial.inputs;
        outputs = l.initial.outputs;
        store = l.initial.store;
        home = l.initial.home;
        left = l.initial.left;
      }));
}
