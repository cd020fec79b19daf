-- A caller who goes on after a refused cycle ("refused ones skipped", demand 3), by value: one cycle block was read, and none of its cycles
-- was accepted.
-- Assumes nothing.
use mathlib.Core.Path.{◌≡◌, refl, ap}
use mathlib.Core.Bool.{true, false, ◌&&◌}
use mathlib.Core.List.{List}
use lib.Dec.{leb, lit≤, lit<}
use Prim.Native.Nat.{ℕ}
use Rattle.base.specs.Numbers as numbers
use Rattle.base.specs.Refusal.{number_of}
use Rattle.trace.specs.Place.{can_hold, cycle_blocks, good_place}
use Rattle.trace.specs.declared.judging.Answer.{Answer}
use Rattle.trace.specs.declared.judging.Found.TheVariants as found
use Rattle.trace.specs.Judged.{accepted, judged}
use Rattle.trace.specs.Way.{Way}
use Rattle.trace.proofs.Made.{at, cycles_block, cycles_judged, end_block, end_judged}
use Rattle.trace.proofs.Order.{judged_unsound}
use Rattle.trace.proofs.Reached.{good_exactly}

-- a file leads there ..
pub none_accepted_good : good_place (at 2) 0 ≡ true
unfolding good_place can_hold
none_accepted_good = refl

pub none_accepted_way : Way true (at 2) 0
none_accepted_way = (good_exactly (at 2) 0).0 none_accepted_good

-- .. so that the next cycle block is taken, and so is the end block
pub none_accepted_goes_on : judged (at 2) 0 (cycles_block 2 0 7 (lit< tt) (lit≤ tt) (lit≤ tt)) ≡ accepted (found.Cycles 7) (at 3)
none_accepted_goes_on = cycles_judged 2 0 7 (lit< tt) (lit≤ tt) (lit≤ tt) none_accepted_good

pub none_accepted_ends : number_of (judged (at 2) 0 (end_block 2 0 (lit< tt) (lit< tt))).found ≡ numbers.done
none_accepted_ends = ap (λ (o : Answer). number_of o.found) (end_judged 2 0 (lit< tt) (lit< tt) none_accepted_good)

-- a rule that asks each cycle block for an accepted cycle fails there
pub one_each_fails : (good_place (at 2) 0 && leb (cycle_blocks (at 2)) 0) ≡ false
unfolding good_place can_hold
one_each_fails = refl

-- more cycles than the block can hold are 2
pub eight_accepted_refused : (l : List ℕ) → number_of (judged (at 2) 8 l).found ≡ numbers.not_sound
unfolding good_place can_hold
eight_accepted_refused l = ap (λ (o : Answer). number_of o.found) (judged_unsound (at 2) 8 l refl)
