-- What is known of a block that passes its check at a place before the end block.
-- Assumes nothing.
use mathlib.Core.Path.{◌≡◌, refl, sym, ap, ◌∙◌}
use mathlib.Core.Bool.{Bool, true, false, not, ◌&&◌}
use mathlib.Core.List.{List}
use Prim.Native.Nat.{ℕ, ◌≤◌}
use lib.Dec.{ltb}
use lib.ListN.{length}
use borrow.Author.Tests.{ltb-false, not-false}
use Rattle.trace.specs.declared.place.Place.{Place}
use Rattle.trace.specs.Changed.{PassesCheck}
use Rattle.trace.specs.Check.{check_holds}
use Rattle.trace.specs.Place.{good_place}
use Rattle.trace.specs.Rules.{place_unsound, block_short, check_wrong}
use Rattle.trace.proofs.Exactness.{two_exactly, nine_exactly, seven_exactly}

-- a place is good where 2's rule does not hold
pub sound_good : (p : Place) (c : ℕ) → place_unsound p c ≡ false → good_place p c ≡ true
unfolding place_unsound
sound_good p c e = not-false (good_place p c) e

-- before the end block, where 9's and 7's rules do not hold
pub whole_long : (p : Place) (l : List ℕ) → p.ended ≡ false → block_short p l ≡ false → 512 ≤ length l
unfolding block_short
whole_long p l e s = ltb-false (length l) 512 (ap (λ (b : Bool). not b && ltb (length l) 512) (sym e) ∙ s)

pub checked_holds : (p : Place) (l : List ℕ) → p.ended ≡ false → check_wrong p l ≡ false → check_holds l ≡ true
unfolding check_wrong
checked_holds p l e s = not-false (check_holds l) (ap (λ (b : Bool). not b && not (check_holds l)) (sym e) ∙ s)

module _ (p : Place) (c : ℕ) (l : List ℕ) where
  sound : PassesCheck p c l → place_unsound p c ≡ false
  sound pass = go (place_unsound p c) refl
    where
      go : (b : Bool) → place_unsound p c ≡ b → b ≡ false
      go true e = absurd (pass.not_unsound ((two_exactly p c l).1 e))
      go false e = refl

  whole : PassesCheck p c l → block_short p l ≡ false
  whole pass = go (block_short p l) refl
    where
      go : (b : Bool) → block_short p l ≡ b → b ≡ false
      go true e = absurd (pass.not_short ((nine_exactly p c l).1 (sound pass, e)))
      go false e = refl

  checked : PassesCheck p c l → check_wrong p l ≡ false
  checked pass = go (check_wrong p l) refl
    where
      go : (b : Bool) → check_wrong p l ≡ b → b ≡ false
      go true e = absurd (pass.not_check_wrong ((seven_exactly p c l).1 (sound pass, whole pass, e)))
      go false e = refl

  pub passes_good : PassesCheck p c l → good_place p c ≡ true
  passes_good pass = sound_good p c (sound pass)

  pub passes_whole : p.ended ≡ false → PassesCheck p c l → 512 ≤ length l
  passes_whole e pass = whole_long p l e (whole pass)

  pub passes_check : p.ended ≡ false → PassesCheck p c l → check_holds l ≡ true
  passes_check e pass = checked_holds p l e (checked pass)
