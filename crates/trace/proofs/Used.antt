-- The bytes of a body that have a use: no kind has more of them than seven cycles take.
-- Assumes nothing.
use mathlib.Core.Path.{◌≡◌}
use mathlib.Core.Bool.{Bool, true, false, cond, not, ◌&&◌}
use mathlib.Core.List.{List}
use Prim.Native.Nat.{ℕ, ◌≤◌}
use native.Mathlib.Omega.{arith}
use lib.Dec.{eqb, leb, lit≤}
use borrow.Author.Tests.{leb-true, not-false}
use Rattle.base.proofs.Search.{both}
use Rattle.trace.specs.Blocks.{kind_of, held_of, cycle_start, end_of_body}
use Rattle.trace.specs.Rules.{has_wrong_count}

pub count_end : (l : List ℕ) → has_wrong_count l ≡ false → end_of_body l ≤ 456
unfolding has_wrong_count end_of_body
count_end l e = first (eqb (kind_of l) 1)
  where
    second : (b : Bool) → cond b (not (leb 1 (held_of l) && leb (held_of l) 7)) (not (eqb (held_of l) 0)) ≡ false
        → cond b (cycle_start (held_of l)) 12 ≤ 456
    second true d =
        let held = both (leb 1 (held_of l)) (leb (held_of l) 7) (not-false (leb 1 (held_of l) && leb (held_of l) 7) d) in
        let most = leb-true (held_of l) 7 held.1 in
        omega arith
    second false d = lit≤ tt

    first : (b : Bool) → cond b 15 (cond (eqb (kind_of l) 2) (cycle_start (held_of l)) 12) ≤ 456
    first true = lit≤ tt
    first false = second (eqb (kind_of l) 2) e
