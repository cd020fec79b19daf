-- `floor::whole::list` meets its contract: pieces of the input handed over one after another.
-- Assumes nothing.
use mathlib.Core.Path.{◌≡◌}
use mathlib.Core.List.{List}
use Prim.Native.Nat.{ℕ}
use lib.ListN.{length}
use Rattle.std.specs.Prelude.{Result}
use Rattle.floor.specs.declared.whole.Unlisted.{Unlisted}
use Rattle.runs.specs.Run.{started}
use Rattle.floor.specs.Handing.{Handed, Lists}
use Rattle.floor.proofs.whole.list.Given as goal

-- pieces after those that were handed over make a night with them
abbrev pub invariant-each : goal.invariant-each
invariant-each g l =
    (length l.buf ≡ length l.initial.buf) × (length l.out ≡ length l.initial.out)
    × ((pieces : List (List ℕ)) (r : Result Unit Unlisted) (g : Handed) → Lists (length l.initial.buf) (record { run = l.run; buffer = l.out }) pieces r g
    → (all : List (List ℕ)) × Lists (length l.initial.buf) (record { run = started; buffer = l.initial.out }) all r g)
