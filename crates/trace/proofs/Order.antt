-- The order of the refusals, case by case: what is judged where the tests came out so.
-- Assumes nothing.
use mathlib.Core.Path.{◌≡◌}
use mathlib.Core.Bool.{true, false}
use mathlib.Core.List.{List}
use Prim.Native.Nat.{ℕ, ◌≤◌, ◌<◌}
use lib.ListN.{length}
use borrow.Author.Tests.{lt-ltb, le-ltb}
use Rattle.base.specs.Numbers as numbers
use Rattle.trace.specs.declared.place.Place.{Place}
use Rattle.trace.specs.Check.{check_holds}
use Rattle.trace.specs.Place.{good_place}
use Rattle.trace.specs.Rules.{place_unsound, block_short, check_wrong, bytes_follow, form_wrong, block_wrong, field_wrong}
use Rattle.trace.specs.declared.judging.Found.TheVariants as found
use Rattle.trace.specs.Judged.{accepted, refused, taken, judged_by_field, judged}

module _ (p : Place) (c : ℕ) (l : List ℕ) where
  pub judged_unsound : good_place p c ≡ false → judged p c l ≡ refused numbers.not_sound 0 p
  unfolding judged place_unsound
  judged_unsound g = rw g

  module _ (g : good_place p c ≡ true) where
    -- after the end block
    pub judged_follows : p.ended ≡ true → 0 < length l → judged p c l ≡ refused numbers.block_wrong 0 p
    unfolding judged place_unsound block_short check_wrong block_wrong bytes_follow
    judged_follows e h = rw (g, lt-ltb 0 (length l) h, e)

    pub judged_done : p.ended ≡ true → length l ≤ 0 → judged p c l ≡ accepted found.Done p
    unfolding judged place_unsound block_short check_wrong block_wrong bytes_follow field_wrong judged_by_field taken
    judged_done e h = rw (g, le-ltb 0 (length l) h, e)

    -- before it
    module _ (e : p.ended ≡ false) where
      pub judged_short : length l < 512 → judged p c l ≡ refused numbers.block_short 0 p
      unfolding judged place_unsound block_short
      judged_short h = rw (g, lt-ltb (length l) 512 h, e)

      module _ (h : 512 ≤ length l) where
        pub judged_check : check_holds l ≡ false → judged p c l ≡ refused numbers.check_wrong 0 p
        unfolding judged place_unsound block_short check_wrong
        judged_check k = rw (g, le-ltb (length l) 512 h, k, e)

        pub judged_form : check_holds l ≡ true → form_wrong p c l ≡ true → judged p c l ≡ refused numbers.block_wrong 0 p
        unfolding judged place_unsound block_short check_wrong block_wrong
        judged_form k f = rw (g, le-ltb (length l) 512 h, k, f, e)

        pub judged_read : check_holds l ≡ true → form_wrong p c l ≡ false → judged p c l ≡ judged_by_field (field_wrong p l) p l
        unfolding judged place_unsound block_short check_wrong block_wrong
        judged_read k f = rw (g, le-ltb (length l) 512 h, k, f, e)
