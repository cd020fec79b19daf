-- `router::intake::take_offers` meets its contract.
-- Assumes nothing.
use Rattle.std.proofs.Common.{◌≡◌, length}
use Rattle.rules.specs.Ports.{over_ports}
use Rattle.rules.specs.Intake.{Senders, taken_at}
use Rattle.router.proofs.intake.take_offers.Given as goal

abbrev pub invariant-loop-i : goal.invariant-loop-i
invariant-loop-i l = record {
  taken : ◌≡◌ {A = Senders} (record { inputs = l.inputs; wire = l.wire })
      (over_ports l.i (taken_at l.config l.part) (record { inputs = l.initial.inputs; wire = l.initial.wire }));
  long : length l.inputs ≡ 32;
}
