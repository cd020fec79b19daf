-- `state::arbitration::are_sound` meets its contract: the ports passed so far pass.
-- Assumes nothing.
use Rattle.std.proofs.Common.{◌≡◌, ℕ, true, get_or}
use Rattle.base.specs.Search.{every}
use Rattle.state.specs.Fresh.{past_arbiter}
use Rattle.state.specs.Testing.{port_arbiters}
use Rattle.state.proofs.arbitration.are_sound.Given as goal

abbrev pub invariant-loop-i : goal.invariant-loop-i
invariant-loop-i l =
    every l.i (λ (j : ℕ). port_arbiters l.config (get_or l.vcs j past_arbiter) (get_or l.inputs j past_arbiter)
    (get_or l.outputs j past_arbiter)) ≡ true
