-- "Any one byte changed, in a block whose check holds, must be noticed." (01, blocks): what one byte changed is.
-- Assumes nothing.
use Rattle.std.specs.Prelude.{◌≡◌, List, ℕ, ◌<◌}
use Rattle.trace.specs.Bytes.{byte}
use Rattle.base.specs.Numbers as numbers
use Rattle.base.specs.Refusal.{number_of}
use Rattle.trace.specs.declared.place.Place.{Place}
use Rattle.trace.specs.Blocks.{block_length}
use Rattle.trace.specs.Judged.{judged}

-- of the 512 bytes the one at k differs, and no other
pub record ChangedAt (k : ℕ) (x y : List ℕ) : Type 0 where
  pub inside : k < block_length
  pub differs : byte x k ≡ byte y k → ⊥
  pub same : (i : ℕ) → i < block_length → (i ≡ k → ⊥) → byte x i ≡ byte y i

-- a block passes its check at its place: judging it there gives none of 2 "state not sound", 9 "fewer than 512 bytes in a block" and 7
-- "block check wrong"
pub record PassesCheck (p : Place) (c : ℕ) (block : List ℕ) : Type 0 where
  pub not_unsound : number_of (judged p c block).found ≡ numbers.not_sound → ⊥
  pub not_short : number_of (judged p c block).found ≡ numbers.block_short → ⊥
  pub not_check_wrong : number_of (judged p c block).found ≡ numbers.check_wrong → ⊥
