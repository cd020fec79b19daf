-- "The block reader .. shows the next cycle as a part of the caller's block, not a copy. After the last cycle held, or over a lent part
-- that is under 512 bytes or has byte 1 above 7, it shows an empty part" (01, blocks)
-- Assumes nothing.
use Rattle.std.specs.Prelude.{Bool, cond, ◌&&◌, List, ℕ, ◌+◌, leb, ltb, length, take, drop}
use Rattle.std.specs.Borrow.{Bor}
use Rattle.trace.specs.Blocks.{block_length, held_of, most_held, cycle_length, cycle_start}

-- what a slice is: the memory that it lies in, the byte there at which it starts, and its bytes
pub record Slice : Type 0 where
  pub memory : ℕ
  pub start : ℕ
  pub bytes : List ℕ

abbrev pub slice_of : Bor (List ℕ) → Slice
slice_of r = record { memory = r.ref_ptr.0; start = r.ref_ptr.1; bytes = r.now }

-- n bytes of a slice from byte i on, where they lie
abbrev pub part : Slice → ℕ → ℕ → Slice
part s i n = record { memory = s.memory; start = i + s.start; bytes = take n (drop i s.bytes) }

-- whether there is a cycle k, counted from 0, to show
unfoldable pub shows : List ℕ → ℕ → Bool
shows block k = leb block_length (length block) && leb (held_of block) most_held && ltb k (held_of block)

-- cycle k, or an empty part
unfoldable pub part_of_cycle : Slice → ℕ → Slice
part_of_cycle block k = cond (shows block.bytes k) (part block (cycle_start k) cycle_length) (part block 0 0)
