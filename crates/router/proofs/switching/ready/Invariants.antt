-- `router::switching::ready` meets its contract.
-- Assumes nothing.
use Rattle.std.proofs.Common.{◌≡◌, ℕ, get_or}
use Rattle.base.specs.Bits.{word_of}
use Rattle.state.specs.Fresh.{fresh_input}
use Rattle.rules.specs.Allocation.{is_ready}
use Rattle.router.proofs.switching.ready.Given as goal

abbrev pub invariant-loop-x : goal.invariant-loop-x
invariant-loop-x l = l.set ≡ word_of (λ (x : ℕ). is_ready l.config l.outputs (get_or l.inputs x (fresh_input 0))) l.x
