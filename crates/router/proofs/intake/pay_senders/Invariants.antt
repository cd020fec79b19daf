-- `router::intake::pay_senders` meets its contract.
-- Assumes nothing.
use Rattle.std.proofs.Common.{◌≡◌, ◌+◌, length}
use Rattle.rules.specs.Ports.{over_ports}
use Rattle.router.specs.Fitting.{CreditsFit}
use Rattle.router.proofs.Paying.{sender_turn}
use Rattle.router.proofs.intake.pay_senders.Given as goal

abbrev pub invariant-loop-i : goal.invariant-loop-i
invariant-loop-i l = record {
  paid : l.inputs ≡ over_ports l.i (sender_turn l.config l.home) l.initial.inputs;
  long : length l.inputs ≡ 32;
  fits : CreditsFit (16 + l.i) l.inputs;
}
