-- The way through a file, block by block: "A file is one configuration block, any number of cycle blocks, one end block." (01, blocks)
-- Assumes nothing.
use Rattle.std.specs.Prelude.{◌≡◌, Bool, false, List, ℕ, ◌+◌, ◌≤◌}
use Rattle.std.specs.Prelude.{None, Result, Ok, Err}
use Rattle.base.specs.Sizes.{cycle_limit}
use Rattle.base.specs.declared.refusal.Refusal.{Refusal}
use Rattle.trace.specs.declared.place.Place.{Place}
use Rattle.trace.specs.Bytes.{AreBytes}
use Rattle.trace.specs.Place.{start}
use Rattle.trace.specs.Rules.{block_short, check_wrong, block_wrong, field_wrong}
use Rattle.trace.specs.declared.judging.Found.{Found}
use Rattle.trace.specs.declared.judging.Found.TheVariants as found
use Rattle.trace.specs.Judged.{taken}

-- the cycles that a block was found to hold
abbrev pub cycles_in : Result Found Refusal → ℕ
cycles_in (Ok (found.Configuration c)) = 0
cycles_in (Ok (found.Cycles n)) = n
cycles_in (Ok found.End) = 0
cycles_in (Ok found.Done) = 0
cycles_in (Err r) = 0

-- of the cycles that a block holds so many were accepted: all, or where the caller skips those that are refused any number of them
pub record Brought (skips : Bool) (held brought : ℕ) : Type 0 where
  pub most : brought ≤ held
  pub all : skips ≡ false → brought ≡ held

-- some file leads to the place p with c cycles accepted: each block before it is refused by none of 9, 7, 8 and 1; of the cycles the
-- caller has "refused ones skipped" (demand 3) or, as a run does, none
pub data Way (skips : Bool) : Place → ℕ → Type 0 where
  begins : Way skips start 0
  goes_on : (p : Place) (c : ℕ) (block : List ℕ) (brought : ℕ) → Way skips p c → AreBytes block → block_short p block ≡ false
      → check_wrong p block ≡ false → block_wrong p c block ≡ false → field_wrong p block ≡ None
      → Brought skips (cycles_in (taken p block).found) brought → c + brought ≤ cycle_limit → Way skips (taken p block).place (c + brought)
