-- `router::allocation::requesters` meets its contract.
-- Assumes nothing.
use Rattle.std.proofs.Common.{◌≡◌, ℕ, ◌<◌, length}
use Rattle.rules.specs.Allocation.{requester_of}
use Rattle.router.specs.Picks.{pick_in}
use Rattle.router.specs.Grants.{grant_at}
use Rattle.router.proofs.allocation.requesters.Given as goal

abbrev pub invariant-loop-o : goal.invariant-loop-o
invariant-loop-o l = (length l.picks ≡ 8) × ((j : ℕ) → j < l.o → pick_in l.picks j ≡ requester_of (grant_at l.made j))
