-- `floor::passing::pass` meets its contract: a part handed over call by call; it stays inside its part and its buffer and ends.
-- Assumes nothing.
use mathlib.Core.Path.{◌≡◌}
use Prim.Native.Nat.{ℕ, ◌+◌, ◌-◌, ◌≤◌}
use lib.ListN.{length, drop}
use Rattle.floor.specs.Handing.{Outcome, Handed, Passes}
use Rattle.floor.proofs.passing.pass.Given as goal

-- whatever the calls with the rest of the part come to, all calls come to
abbrev pub invariant-loop-from : goal.invariant-loop-from
invariant-loop-from g l =
    (l.from ≤ length l.part) × (length l.out ≡ length l.initial.out) × (l.calls ≤ l.from)
    × ((k : ℕ) (s : Outcome) (g : Handed) → Passes (drop l.from l.part) (record { run = l.run; buffer = l.out }) k s g
    → Passes l.part (record { run = l.initial.run; buffer = l.initial.out }) (l.calls + k) s g)

abbrev pub decreases-loop-from : goal.decreases-loop-from
decreases-loop-from g l = length l.part - l.from
