-- "A file is one configuration block, any number of cycle blocks, one end block." (01, blocks): the places in a file that there are.
-- Assumes nothing.
use Rattle.std.specs.Prelude.{Bool, false, cond, not, ◌&&◌, ℕ, ◌*◌, ◌-◌, eqb, leb}
use Rattle.base.specs.Sizes.{cycle_limit}
use Rattle.trace.specs.declared.place.Place.{Place}
use Rattle.trace.specs.Blocks.{most_held, block_numbers}

-- before the first block
abbrev pub start : Place
start = record { number = 0; configured = false; ended = false }

-- n cycle blocks can have brought c accepted cycles: "cycles held (1..7 ..)" in each, of which a caller may skip those that are refused;
-- "At most 1,000,000,000 accepted cycles in a run"
unfoldable pub can_hold : ℕ → ℕ → Bool
can_hold n c = leb c (most_held * n) && leb c cycle_limit

-- the blocks before a place that hold no cycles: the configuration block, and the end block once it is read
abbrev pub without_cycles : Place → ℕ
without_cycles p = cond p.ended 2 1

-- and those that hold cycles
abbrev pub cycle_blocks : Place → ℕ
cycle_blocks p = p.number - without_cycles p

-- some file leads to this place with c cycles accepted, "refused ones skipped" (demand 3)
unfoldable pub good_place : Place → ℕ → Bool
good_place p c =
    cond p.configured (leb p.number block_numbers && leb (without_cycles p) p.number && can_hold (cycle_blocks p) c)
    (not p.ended && eqb p.number 0 && eqb c 0)
