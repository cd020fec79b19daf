-- The rules of 2, 9, 7, 8 and 1 for a block (01, "Numbers given back"), each by itself: p is the place of the block in its file, c the
-- cycles accepted so far. An empty lent block is the end of the input.
-- Assumes nothing.
use Rattle.std.specs.Prelude.{Bool, cond, not, ◌&&◌, ◌||◌, List, ℕ, eqb, leb, ltb, length}
use Rattle.std.specs.Prelude.{Option, None}
use Rattle.base.specs.Sizes.{illegal_field}
use Rattle.trace.specs.declared.place.Place.{Place}
use Rattle.trace.specs.Bytes.{zeros}
use Rattle.trace.specs.Check.{check_holds}
use Rattle.trace.specs.Blocks.{block_length, kind_of, configuration, cycles, end, held_of, most_held, number_of, check_start, config_of}
use Rattle.trace.specs.Blocks.{total_of, end_of_body}
use Rattle.trace.specs.Place.{good_place}

-- 2, "state not sound": no file leads to the place
unfoldable pub place_unsound : Place → ℕ → Bool
place_unsound p c = not (good_place p c)

-- 9, "fewer than 512 bytes in a block, or input ends before the end block"
unfoldable pub block_short : Place → List ℕ → Bool
block_short p block = not p.ended && ltb (length block) block_length

-- 7, "block check wrong"
unfoldable pub check_wrong : Place → List ℕ → Bool
check_wrong p block = not p.ended && not (check_holds block)

-- "Byte 0 kind (1 configuration, 2 cycles, 3 end)"
unfoldable pub has_wrong_kind : List ℕ → Bool
has_wrong_kind block = not (leb configuration (kind_of block) && leb (kind_of block) end)

-- "bytes 2..5 block number from 0, big-endian"
unfoldable pub has_wrong_number : Place → List ℕ → Bool
has_wrong_number p block = not (eqb (number_of block) p.number)

-- "byte 1 cycles held (1..7, only in kind 2, else 0)"
unfoldable pub has_wrong_count : List ℕ → Bool
has_wrong_count block =
    cond (eqb (kind_of block) cycles) (not (leb 1 (held_of block) && leb (held_of block) most_held)) (not (eqb (held_of block) 0))

-- "6..7 zero"; "Bytes without a use are zero."
unfoldable pub has_wrong_unused : List ℕ → Bool
has_wrong_unused block = not (zeros block 6 8 && zeros block (end_of_body block) check_start)

-- "A file is one configuration block, any number of cycle blocks, one end block.": a configuration block after the first block, or
-- another as the first
unfoldable pub has_wrong_order : Place → List ℕ → Bool
has_wrong_order p block = cond (eqb (kind_of block) configuration) p.configured (not p.configured)

-- "End body: accepted cycles, bytes 8..11 big-endian."
unfoldable pub has_wrong_total : ℕ → List ℕ → Bool
has_wrong_total c block = eqb (kind_of block) end && not (eqb (total_of block) c)

-- "Any byte after the end block, however few follow, gives 8."
unfoldable pub bytes_follow : List ℕ → Bool
bytes_follow block = ltb 0 (length block)

-- "block kind, number, count, unused byte, place in the file, or end total wrong", before the end block
unfoldable pub form_wrong : Place → ℕ → List ℕ → Bool
form_wrong p c block =
    has_wrong_kind block || (has_wrong_number p block || (has_wrong_count block
    || (has_wrong_unused block || (has_wrong_order p block || has_wrong_total c block))))

-- 8: before the end block the above, after it any byte
unfoldable pub block_wrong : Place → ℕ → List ℕ → Bool
block_wrong p c block = cond p.ended (bytes_follow block) (form_wrong p c block)

-- 1, "configuration value out of range; the first such field, 1..7"
unfoldable pub field_wrong : Place → List ℕ → Option ℕ
field_wrong p block = cond (not p.ended && eqb (kind_of block) configuration) (illegal_field (config_of block)) None
