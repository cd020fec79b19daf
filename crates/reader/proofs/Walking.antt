-- How a reader moves: on by one while a cycle is shown, and never past the first empty part.
-- Assumes nothing.
use mathlib.Core.Path.{◌≡◌, refl, ap, ◌∙◌}
use mathlib.Core.Bool.{Bool, true, false}
use mathlib.Core.List.{List, []}
use Prim.Native.Nat.{ℕ, zero, suc, ◌+◌, ◌*◌, ◌≤◌, ◌<◌}
use native.Mathlib.Numerals.{add-one}
use native.Mathlib.Omega.{arith}
use lib.ListN.{length}
use Rattle.trace.specs.Blocks.{held_of}
use Rattle.trace.specs.Cycles.{Slice, part, shows, part_of_cycle}
use Rattle.trace.proofs.Parts.{shown_64, few_shown}
use Rattle.reader.specs.Reader.{following_cycle, walked}

-- where a cycle is shown, the reader moves on by one
pub shown_moves : (l : List ℕ) (k : ℕ) → shows l k ≡ true → following_cycle l k ≡ k + 1
unfolding following_cycle
shown_moves l k e = rw e

-- where none is, it stays
pub not_shown_stays : (l : List ℕ) (k : ℕ) → shows l k ≡ false → following_cycle l k ≡ k
unfolding following_cycle
not_shown_stays l k e = rw e

-- where none is, the part shown is empty
pub not_shown_empty : (s : Slice) (k : ℕ) → shows s.bytes k ≡ false → (part_of_cycle s k).bytes ≡ []
unfolding part_of_cycle
not_shown_empty s k e = rw e

-- where the part shown has no byte, the reader stays
pub no_byte_stays : (s r : Slice) (k : ℕ) → r ≡ part_of_cycle s k → length r.bytes ≡ 0 → following_cycle s.bytes k ≡ k
no_byte_stays s r k q none = go (shows s.bytes k) refl
  where
    go : (b : Bool) → shows s.bytes k ≡ b → following_cycle s.bytes k ≡ k
    go true e = absurd (omega (arith, shown_64 s k e, ap (λ (x : Slice). length x.bytes) q, none))
    go false e = not_shown_stays s.bytes k e

-- where it has a byte, a cycle is shown
pub some_byte_shown : (s r : Slice) (k : ℕ) → r ≡ part_of_cycle s k → ¬ (length r.bytes ≡ 0) → shows s.bytes k ≡ true
some_byte_shown s r k q some = go (shows s.bytes k) refl
  where
    go : (b : Bool) → shows s.bytes k ≡ b → shows s.bytes k ≡ true
    go true e = e
    go false e = absurd (some (ap (λ (x : Slice). length x.bytes) q ∙ ap length (not_shown_empty s k e)))

-- after n moves, as many as there are cycles at most, the reader is at cycle n
pub walk_shows : (l : List ℕ) (n : ℕ) → 512 ≤ length l → held_of l ≤ 7 → n ≤ held_of l → walked l n ≡ n
unfolding walked
walk_shows l zero long most h = refl
walk_shows l (suc n) long most h = ap (following_cycle l) (walk_shows l n long most (omega arith))
    ∙ shown_moves l n (few_shown l n long most (omega arith)) ∙ add-one n

-- so it shows each cycle held, in turn: the 64 bytes of cycle n, where they lie
pub walk_shows_cycle : (s : Slice) (n : ℕ) → 512 ≤ length s.bytes → held_of s.bytes ≤ 7 → n < held_of s.bytes
    → part_of_cycle s (walked s.bytes n) ≡ part s (8 + 64 * n) 64
unfolding part_of_cycle
walk_shows_cycle s n long most h = ap (part_of_cycle s) (walk_shows s.bytes n long most (omega arith))
    ∙ rw (few_shown s.bytes n long most h)

-- "it shows an empty part and stays": over any block, once no cycle is shown
pub walk_stays : (s : Slice) (n : ℕ) → shows s.bytes (walked s.bytes n) ≡ false
    → (walked s.bytes (n + 1) ≡ walked s.bytes n) × ((part_of_cycle s (walked s.bytes n)).bytes ≡ [])
unfolding walked
walk_stays s n e = (
  ap (walked s.bytes) (add-one n) ∙ not_shown_stays s.bytes (walked s.bytes n) e,
  not_shown_empty s
      (walked s.bytes n) e,
)
