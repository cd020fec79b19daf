-- The history of a file: a fresh router of its configuration, run through its accepted cycles (01, "Blocks"; demand 3).
-- Assumes nothing.
use Rattle.std.specs.Prelude.{cond, List, [], ◌∷◌, ◌++◌, ℕ, zero, suc, ◌+◌, eqb, take}
use Rattle.base.specs.declared.config.Config.{Config}
use Rattle.base.specs.declared.flit.Flit.{Flit}
use Rattle.trace.specs.Blocks.{block_length, kind_of, cycles, held_of, config_of, part_at}
use Rattle.model.specs.History.{History}
use Rattle.history.specs.Run.{run_of}
use Rattle.night.specs.File.{blocks_of}
use Rattle.night.specs.Accepted.{accepted_of}

-- the parts of n cycles of a block, from cycle k on
unfoldable pub parts_from : List ℕ → ℕ → ℕ → List (List ℕ)
parts_from block k zero = []
parts_from block k (suc n) = part_at block k ∷ parts_from block (k + 1) n

-- "Byte 0 kind (.. 2 cycles ..), byte 1 cycles held"
unfoldable pub parts_in : List ℕ → List (List ℕ)
parts_in block = cond (eqb (kind_of block) cycles) (parts_from block 0 (held_of block)) []

-- the parts of all cycles that some blocks hold
unfoldable pub parts_of : List (List ℕ) → List (List ℕ)
parts_of [] = []
parts_of (block ∷ blocks) = parts_in block ++ parts_of blocks

-- a file's configuration is that of its first block
abbrev pub configuration_of : List ℕ → Config
configuration_of bytes = config_of (take block_length bytes)

-- its accepted cycles are the first that its blocks hold
abbrev pub accepted_parts : List ℕ → List (List ℕ)
accepted_parts bytes = take (accepted_of bytes) (parts_of (blocks_of bytes))

abbrev pub history_of : List ℕ → History Flit
history_of bytes = (run_of (configuration_of bytes) (accepted_parts bytes)).history
