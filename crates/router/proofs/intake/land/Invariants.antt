-- `router::intake::land` meets its contract.
-- Assumes nothing.
use Rattle.std.proofs.Common.{◌≡◌, ◌+◌, length}
use Rattle.rules.specs.Ports.{over_ports}
use Rattle.rules.specs.Intake.{Queues}
use Rattle.router.specs.Fitting.{QueuesFit}
use Rattle.router.proofs.Landing.{land_turn}
use Rattle.router.proofs.intake.land.Given as goal

abbrev pub invariant-loop-i : goal.invariant-loop-i
invariant-loop-i l = record {
  landed : ◌≡◌ {A = Queues} (record { inputs = l.inputs; store = l.store })
      (over_ports l.i (land_turn l.config l.wire) (record { inputs = l.initial.inputs; store = l.initial.store }));
  long : length l.inputs ≡ 32;
  fits : QueuesFit (16 + l.i) l.inputs;
}
