-- `router::judge::first_without_credit` meets its contract.
-- Assumes nothing.
use Rattle.std.proofs.Common.{◌≡◌, ℕ, ◌<◌, false}
use Rattle.rules.specs.Numbers.{no_sender_credit}
use Rattle.router.proofs.judge.first_without_credit.Given as goal

abbrev pub invariant-loop-i : goal.invariant-loop-i
invariant-loop-i l = (j : ℕ) → j < l.i → no_sender_credit l.config l.paid l.part j ≡ false
