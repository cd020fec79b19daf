-- Good places, clause by clause.
-- Assumes nothing.
use mathlib.Core.Path.{◌≡◌, refl}
use mathlib.Core.Bool.{Bool, true, false, cond, not, ◌&&◌}
use Prim.Native.Nat.{ℕ, ◌+◌, ◌*◌, ◌-◌, ◌≤◌}
use native.Mathlib.Omega.{arith}
use lib.Dec.{eqb, leb}
use borrow.Author.Tests.{leb-true, le-leb, eqb-true, eq-eqb, not-true}
use Rattle.base.specs.Sizes.{cycle_limit}
use Rattle.base.proofs.Search.{both}
use Rattle.trace.specs.declared.place.Place.{Place}
use Rattle.trace.specs.Blocks.{block_numbers}
use Rattle.trace.specs.Place.{can_hold, without_cycles, cycle_blocks, good_place}

-- n cycle blocks were read, and c cycles accepted
pub record Held (n c : ℕ) : Type 0 where
  pub most : c ≤ 7 * n
  pub limit : c ≤ cycle_limit

pub held_is : (n c : ℕ) → can_hold n c ≡ true → Held n c
unfolding can_hold
held_is n c e =
    let q = both (leb c (7 * n)) (leb c cycle_limit) e in
    record { most = leb-true c (7 * n) q.0; limit = leb-true c cycle_limit q.1 }

pub held_holds : (n c : ℕ) → Held n c → can_hold n c ≡ true
unfolding can_hold
held_holds n c h = rw (le-leb c (7 * n) h.most, le-leb c cycle_limit h.limit)

-- nothing was read yet, or the configuration block and n cycle blocks, and perhaps the end block
pub data Good (p : Place) (c : ℕ) : Type 0 where
  nothing : p.configured ≡ false → p.ended ≡ false → p.number ≡ 0 → c ≡ 0 → Good p c
  after : (n : ℕ) → p.configured ≡ true → p.number ≡ n + without_cycles p → p.number ≤ block_numbers → Held n c → Good p c

pub good_is : (p : Place) (c : ℕ) → good_place p c ≡ true → Good p c
unfolding good_place
good_is p c e = go p.configured refl e
  where
    go : (b : Bool) → p.configured ≡ b
        → cond b (leb p.number block_numbers && leb (without_cycles p) p.number && can_hold (cycle_blocks p) c)
        (not p.ended && eqb p.number 0 && eqb c 0) ≡ true
        → Good p c
    go true k d =
        let q = both (leb p.number block_numbers && leb (without_cycles p) p.number) (can_hold (cycle_blocks p) c) d in
        let r = both (leb p.number block_numbers) (leb (without_cycles p) p.number) q.0 in
        let l = leb-true (without_cycles p) p.number r.1 in
        after (cycle_blocks p) k (omega arith) (leb-true p.number block_numbers r.0) (held_is (cycle_blocks p) c q.1)
    go false k d =
        let q = both (not p.ended && eqb p.number 0) (eqb c 0) d in
        let r = both (not p.ended) (eqb p.number 0) q.0 in
        nothing k (not-true p.ended r.0) (eqb-true p.number 0 r.1) (eqb-true c 0 q.1)

pub good_holds : (p : Place) (c : ℕ) → Good p c → good_place p c ≡ true
unfolding good_place
good_holds p c (nothing k e n z) = rw (eq-eqb p.number 0 n, eq-eqb c 0 z, k, e)
good_holds p c (after n k e m h) =
    let l : without_cycles p ≤ p.number = omega arith in
    let d : p.number - without_cycles p ≡ n = omega arith in
    rw (le-leb p.number block_numbers m, le-leb (without_cycles p) p.number l, d, held_holds n c h, k)

-- so that one more does not wrap
pub good_number : (p : Place) (c : ℕ) → good_place p c ≡ true → p.number ≤ block_numbers
good_number p c e = go (good_is p c e)
  where
    go : Good p c → p.number ≤ block_numbers
    go (nothing k d n z) = omega arith
    go (after n k d m h) = m

pub good_cycles : (p : Place) (c : ℕ) → good_place p c ≡ true → c ≤ cycle_limit
good_cycles p c e = go (good_is p c e)
  where
    go : Good p c → c ≤ cycle_limit
    go (nothing k d n z) = omega arith
    go (after n k d m h) = h.limit
