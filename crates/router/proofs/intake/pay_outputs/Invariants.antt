-- `router::intake::pay_outputs` meets its contract.
-- Assumes nothing.
use Rattle.std.proofs.Common.{◌≡◌, ◌+◌, length}
use Rattle.rules.specs.Ports.{over_ports}
use Rattle.router.specs.Fitting.{OutputCreditsFit}
use Rattle.router.proofs.Paying.{output_turn}
use Rattle.router.proofs.intake.pay_outputs.Given as goal

abbrev pub invariant-loop-o : goal.invariant-loop-o
invariant-loop-o l = record {
  paid : l.outputs ≡ over_ports l.o (output_turn l.config l.part) l.initial.outputs;
  long : length l.outputs ≡ 32;
  fits : OutputCreditsFit (16 + l.o) l.outputs;
}
