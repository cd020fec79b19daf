-- The parts that a block shows: each is 64 bytes long, all that an accepted block holds are shown, and after them an empty one.
-- Assumes nothing.
use mathlib.Core.Path.{◌≡◌, ap, ◌∙◌}
use mathlib.Core.Bool.{Bool, true, false, ◌&&◌, and-false}
use mathlib.Core.List.{List, []}
use Prim.Native.Nat.{ℕ, ◌+◌, ◌*◌, ◌≤◌, ◌<◌}
use native.Mathlib.Omega.{arith}
use lib.Dec.{leb, ltb}
use lib.ListN.{length, drop, length-drop}
use lib.Seq.{length-take-le}
use borrow.Author.Tests.{leb-true, le-leb, ltb-true, lt-ltb, le-ltb}
use Rattle.base.proofs.Search.{both}
use Rattle.trace.specs.declared.place.Place.{Place}
use Rattle.trace.specs.Blocks.{kind_of, held_of}
use Rattle.trace.specs.Cycles.{Slice, shows, part_of_cycle}
use Rattle.trace.proofs.Formed.{Formed}

-- a cycle that is shown is one of the 7 that a block may hold
pub shown_below_7 : (l : List ℕ) (k : ℕ) → shows l k ≡ true → k < 7
unfolding shows
shown_below_7 l k e =
    let q = both (leb 512 (length l) && leb (held_of l) 7) (ltb k (held_of l)) e in
    let p = both (leb 512 (length l)) (leb (held_of l) 7) q.0 in
    let most = leb-true (held_of l) 7 p.1 in
    let below = ltb-true k (held_of l) q.1 in
    omega arith

pub shown_64 : (s : Slice) (k : ℕ) → shows s.bytes k ≡ true → length (part_of_cycle s k).bytes ≡ 64
unfolding part_of_cycle shows
shown_64 s k e =
    let q = both (leb 512 (length s.bytes) && leb (held_of s.bytes) 7) (ltb k (held_of s.bytes)) e in
    let p = both (leb 512 (length s.bytes)) (leb (held_of s.bytes) 7) q.0 in
    let long = leb-true 512 (length s.bytes) p.0 in
    let most = leb-true (held_of s.bytes) 7 p.1 in
    let below = ltb-true k (held_of s.bytes) q.1 in
    rw e (length-take-le 64 (drop (8 + 64 * k) s.bytes) (omega (arith, length-drop (8 + 64 * k) s.bytes)))

not_shown : (l : List ℕ) (k : ℕ) → held_of l ≤ k → shows l k ≡ false
unfolding shows
not_shown l k h =
    ap (λ (b : Bool). leb 512 (length l) && leb (held_of l) 7 && b) (le-ltb k (held_of l) h)
    ∙ and-false (leb 512 (length l) && leb (held_of l) 7)

-- "After the last cycle held .. it shows an empty part"
pub after_last_empty : (s : Slice) (k : ℕ) → held_of s.bytes ≤ k → (part_of_cycle s k).bytes ≡ []
unfolding part_of_cycle
after_last_empty s k h = rw (not_shown s.bytes k h)

-- a cycle that a block holds is shown, where the block is long enough and holds at most 7
pub few_shown : (l : List ℕ) (k : ℕ) → 512 ≤ length l → held_of l ≤ 7 → k < held_of l → shows l k ≡ true
unfolding shows
few_shown l k long most h = rw (le-leb 512 (length l) long, le-leb (held_of l) 7 most, lt-ltb k (held_of l) h)

-- so the cycles that an accepted block holds are shown
pub held_shown : (p : Place) (c k : ℕ) (l : List ℕ) → 512 ≤ length l → Formed p c l → kind_of l ≡ 2 → k < held_of l → shows l k ≡ true
held_shown p c k l long f e h = few_shown l k long (f.held_to e) h
