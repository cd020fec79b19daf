-- Where a run can stand: between two blocks exactly where some file leads without a skipped cycle.
-- Assumes nothing.
use mathlib.Core.Path.{◌≡◌, sym, ap, ap₂, ◌∙◌}
use mathlib.Core.Logic.{◌↔◌}
use mathlib.Core.Bool.{Bool, true, false, ◌&&◌, ◌||◌, or-false}
use Prim.Native.Nat.{ℕ, ◌≤◌}
use lib.Dec.{leb}
use borrow.Author.Tests.{leb-true, le-leb}
use Rattle.base.proofs.Search.{both}
use Rattle.trace.specs.declared.place.Place.{Place}
use Rattle.trace.specs.Place.{cycle_blocks, good_place}
use Rattle.trace.specs.Way.{Way}
use Rattle.trace.proofs.Reached.{whole_exactly}
use Rattle.runs.specs.declared.Run.{Run}
use Rattle.runs.specs.Run.{between_blocks, stopped_inside, place_right, run_sound}

module _ (p : Place) (c : ℕ) where
  pub between_is : between_blocks p c ≡ true → (good_place p c ≡ true) × (cycle_blocks p ≤ c)
  unfolding between_blocks
  between_is e = let b = both (good_place p c) (leb (cycle_blocks p) c) e in (b.0, leb-true (cycle_blocks p) c b.1)

  pub between_holds : good_place p c ≡ true → cycle_blocks p ≤ c → between_blocks p c ≡ true
  unfolding between_blocks
  between_holds g l = ap₂ ◌&&◌ g (le-leb (cycle_blocks p) c l)

  -- "refused ones skipped" is not a run's: some file leads here, all cycles of its blocks accepted
  pub between_exactly : (between_blocks p c ≡ true) ↔ Way false p c
  between_exactly = (
    λ e. (whole_exactly p c).0 (between_is e),
    λ w. let b = (whole_exactly p c).1 w in between_holds b.0 b.1,
  )

  -- a run between two blocks is at a right place, whether it is over or not; one that goes on is nowhere else
  pub between_right : (over : Bool) → between_blocks p c ≡ true → place_right p c over ≡ true
  unfolding place_right
  between_right over e = rw e

  pub right_between : (over : Bool) → over ≡ false → place_right p c over ≡ true → between_blocks p c ≡ true
  unfolding place_right
  right_between over o e =
      sym (or-false (between_blocks p c)) ∙ ap (λ (b : Bool). between_blocks p c || (b && stopped_inside p c)) (sym o) ∙ e

-- a run that is not over stands at a place that some file leads to
pub going_good : (n : Run) → run_sound n ≡ true → n.over ≡ false → good_place n.place n.router.cycle ≡ true
unfolding run_sound
going_good n e o = (between_is n.place n.router.cycle
    (right_between n.place n.router.cycle n.over o (both (place_right n.place n.router.cycle n.over) _ e).0)).0
