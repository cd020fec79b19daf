-- `state::lines::going_home` meets its contract: what the stages passed so far hold is counted.
-- Assumes nothing.
use Rattle.std.proofs.Common.{◌≡◌, ◌≤◌}
use Rattle.state.specs.Views.{places, total, to_vc, home_place}
use Rattle.state.proofs.lines.going_home.Given as goal

abbrev pub invariant-loop-k : goal.invariant-loop-k
invariant-loop-k l = (l.count ≤ l.k) × (l.count ≡ total (places l.k (λ j. to_vc l.v (home_place l.home j l.i))))
