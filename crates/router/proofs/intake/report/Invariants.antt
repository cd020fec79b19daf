-- `router::intake::report` meets its contract.
-- Assumes nothing.
use Rattle.std.proofs.Common.{◌≡◌}
use Rattle.rules.specs.Ports.{over_ports}
use Rattle.router.proofs.Paying.{report_turn}
use Rattle.router.proofs.intake.report.Given as goal

abbrev pub invariant-loop-i : goal.invariant-loop-i
invariant-loop-i l = l.senders ≡ over_ports l.i (report_turn l.home) l.initial.senders
