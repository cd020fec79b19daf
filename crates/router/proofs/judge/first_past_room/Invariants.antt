-- `router::judge::first_past_room` meets its contract.
-- Assumes nothing.
use Rattle.std.proofs.Common.{◌≡◌, ℕ, ◌<◌, false}
use Rattle.rules.specs.Numbers.{credit_past_room}
use Rattle.router.proofs.judge.first_past_room.Given as goal

abbrev pub invariant-loop-o : goal.invariant-loop-o
invariant-loop-o l = (j : ℕ) → j < l.o → credit_past_room l.config l.outputs l.part j ≡ false
