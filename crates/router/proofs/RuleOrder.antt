-- The two rules that name no port, as the code tests them.
-- Assumes nothing.
use Rattle.std.proofs.Common.{◌≡◌, ℕ, List, true, false, length, ◌<◌, ◌≤◌}
use borrow.Author.Tests.{eq-eqb, ne_eqb, le-leb, lt-leb}
use Rattle.base.specs.Sizes.{cycle_limit}
use Rattle.trace.specs.Blocks.{cycle_length}
use Rattle.rules.specs.Numbers.{run_full, part_wrong}

pub full : (cycle : ℕ) → cycle_limit ≤ cycle → run_full cycle ≡ true
unfolding run_full
full cycle h = le-leb cycle_limit cycle h

pub not_full : (cycle : ℕ) → cycle < cycle_limit → run_full cycle ≡ false
unfolding run_full
not_full cycle h = lt-leb cycle_limit cycle h

pub wrong_length : (part : List ℕ) → (length part ≡ cycle_length → ⊥) → part_wrong part ≡ true
unfolding part_wrong
wrong_length part n = rw (ne_eqb (length part) cycle_length n)

pub right_length : (part : List ℕ) → length part ≡ cycle_length → part_wrong part ≡ false
unfolding part_wrong
right_length part l = rw (eq-eqb (length part) cycle_length l)

pub ruleset no_ports = (full, not_full, wrong_length, right_length)
