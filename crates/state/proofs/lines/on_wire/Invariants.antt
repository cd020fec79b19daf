-- `state::lines::on_wire` meets its contract: what the stages passed so far hold is counted.
-- Assumes nothing.
use Rattle.std.proofs.Common.{◌≡◌, ◌≤◌, length}
use Rattle.state.specs.Views.{places, flat, on_vc, wire_place}
use Rattle.state.proofs.lines.on_wire.Given as goal

abbrev pub invariant-loop-k : goal.invariant-loop-k
invariant-loop-k l = (l.count ≤ l.k) × (l.count ≡ length (flat (places l.k (λ j. on_vc l.v (wire_place l.wire j l.i)))))
