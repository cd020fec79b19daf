-- Room for a block's lines, and where blocks end in a part.
-- Assumes nothing.
use mathlib.Core.Path.{◌≡◌}
use mathlib.Core.Bool.{true, false}
use mathlib.Core.List.{List}
use Prim.Native.Nat.{ℕ, ◌+◌, ◌-◌, ◌≤◌, ◌<◌, min}
use native.Mathlib.Nat.{min-eq_left, min-eq_right}
use native.Mathlib.Omega.{arith}
use lib.ListN.{length, drop, length-take, length-drop}
use Rattle.listing.specs.Writing.{lacks}
use Rattle.router.specs.Running.{room_of_block, lacks_block_room, block_at}

-- the tests of the room for a block, in the words of the rules
module _ (buffer : List ℕ) (at : ℕ) where
  pub full : lacks room_of_block buffer at ≡ true → lacks_block_room buffer at ≡ true
  unfolding lacks_block_room
  full e = e

  pub roomy : lacks room_of_block buffer at ≡ false → lacks_block_room buffer at ≡ false
  unfolding lacks_block_room
  roomy e = e

module _ (part : List ℕ) (from : ℕ) where
  pub end_short : from ≤ length part → length part - from < 512 → length part ≡ from + length (block_at part from)
  end_short l h =
      let e = length-take 512 (drop from part) in
      let f = length-drop from part in
      let g : min 512 (length (drop from part)) ≡ length (drop from part) = min-eq_right (omega (arith, f)) in omega (arith, e, f, g)

  pub end_whole : 512 ≤ length part - from → from + 512 ≡ from + length (block_at part from)
  end_whole h =
      let e = length-take 512 (drop from part) in
      let f = length-drop from part in
      let g : min 512 (length (drop from part)) ≡ 512 = min-eq_left (omega (arith, f)) in omega (arith, e, g)
