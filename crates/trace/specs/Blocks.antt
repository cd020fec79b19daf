-- "Blocks" (01): what each byte of a block is for.
-- Assumes nothing.
use Rattle.std.specs.Prelude.{cond, List, ℕ, ◌+◌, ◌*◌, eqb, take, drop}
use Rattle.base.specs.declared.config.Config.{Config}
use Rattle.base.specs.Sizes.{sized}
use Rattle.trace.specs.Bytes.{byte, big_endian}

-- "512 bytes."
abbrev pub block_length : ℕ
block_length = 512

-- "Byte 0 kind (1 configuration, 2 cycles, 3 end)"
abbrev pub kind_of : List ℕ → ℕ
kind_of block = byte block 0

abbrev pub configuration : ℕ
configuration = 1

abbrev pub cycles : ℕ
cycles = 2

abbrev pub end : ℕ
end = 3

-- "byte 1 cycles held (1..7 ..)"
abbrev pub held_of : List ℕ → ℕ
held_of block = byte block 1

abbrev pub most_held : ℕ
most_held = 7

-- "bytes 2..5 block number from 0, big-endian"
abbrev pub number_of : List ℕ → ℕ
number_of block = big_endian block 2 4

-- four bytes have so many numbers, so that a file has at most so many blocks
abbrev pub block_numbers : ℕ
block_numbers = 4294967296

-- "8..509 body; 510..511 the check"
abbrev pub body_start : ℕ
body_start = 8

abbrev pub check_start : ℕ
check_start = 510

-- "Configuration body: P, V, D, E, F, B, arbiter code at bytes 8..14."
abbrev pub config_of : List ℕ → Config
config_of block =
    sized (byte block 8) (byte block 9) (byte block 10) (byte block 11) (byte block 12) (byte block 13) (byte block 14)

-- "End body: accepted cycles, bytes 8..11 big-endian."
abbrev pub total_of : List ℕ → ℕ
total_of block = big_endian block 8 4

-- "Cycles: 64 bytes each from byte 8"
abbrev pub cycle_length : ℕ
cycle_length = 64

abbrev pub cycle_start : ℕ → ℕ
cycle_start k = body_start + cycle_length * k

-- the bytes of cycle k
abbrev pub part_at : List ℕ → ℕ → List ℕ
part_at block k = take cycle_length (drop (cycle_start k) block)

-- the first byte after those that the kind's body uses: 8..14, the cycles held, or 8..11
unfoldable pub end_of_body : List ℕ → ℕ
end_of_body block = cond (eqb (kind_of block) configuration) 15 (cond (eqb (kind_of block) cycles) (cycle_start (held_of block)) 12)
