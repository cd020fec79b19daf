-- "Any one byte changed, in a block whose check holds, must be noticed." (01, blocks), of a whole file: what one byte changed is there.
-- Assumes nothing.
use Rattle.std.specs.Prelude.{◌≡◌, List, ℕ, ◌*◌, ◌/◌, ◌<◌, length, take}
use Rattle.base.specs.Numbers.{check_wrong}
use Rattle.trace.specs.Bytes.{byte}
use Rattle.trace.specs.Blocks.{block_length}
use Rattle.night.specs.File.{Printed, refuses}

-- of a file's bytes the one at k differs, and no other
pub record ChangedIn (k : ℕ) (bytes changed : List ℕ) : Type 0 where
  pub long : length changed ≡ length bytes
  pub inside : k < length bytes
  pub differs : byte bytes k ≡ byte changed k → ⊥
  pub same : (i : ℕ) → (i ≡ k → ⊥) → byte bytes i ≡ byte changed i

-- the blocks before the one in which byte k lies
abbrev pub blocks_before : ℕ → List ℕ → List ℕ
blocks_before k bytes = take (k / block_length * block_length) bytes

-- the same lines and cycles, and then a block whose check is wrong
abbrev pub then_wrong : Printed → Printed
then_wrong p = record { lines = p.lines; cycles = p.cycles; ending = refuses check_wrong 0 }
