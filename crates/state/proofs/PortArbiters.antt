-- The arbiters of one port, and of all.
-- Assumes nothing.
use Rattle.arbiter.specs.declared.Arbiter.{Arbiter}
use mathlib.Core.Path.{◌≡◌, refl, sym, ap, ◌∙◌}
use mathlib.Core.Bool.{Bool, true, ◌&&◌, ◌||◌}
use mathlib.Core.List.{List}
use Prim.Native.Nat.{ℕ, zero, suc, ◌≤◌}
use native.Mathlib.Omega.{arith}
use lib.Dec.{eqb, ltb}
use lib.ListN.{length, get_or}
use borrow.Author.Tests.{lt-ltb, le-ltb, le-leb, ne_eqb}
use Rattle.base.specs.Search.{every}
use Rattle.base.proofs.Search.{all_every}
use Rattle.arbiter.specs.Arbiter as arbiter
use Rattle.arbiter.specs.Matrix.{blank_from}
use Rattle.state.specs.Fresh.{past_arbiter}
use Rattle.state.specs.Sound.{arbiter_unused}
use Rattle.state.specs.Testing.{no_arbiters}

-- a pointer below 1 is 0
below_one : (p : ℕ) → ltb p 1 ≡ eqb p 0
below_one zero = refl
below_one (suc p) = le-ltb (suc p) 1 (omega arith) ∙ sym (ne_eqb (suc p) 0 (λ e. omega arith))

-- a round robin over one requester is sound just when all of it is zero
pub one_unused : (places : ℕ) (a : Arbiter places) → 1 ≤ places → arbiter.sound places 1 1 a ≡ arbiter_unused places a
unfolding arbiter.sound arbiter.known
one_unused places a h =
    rw (le-leb 1 places h)
    (ap (λ b. eqb (length a.rows) places && (b && blank_from 0 places a.rows)) (below_one a.pointer))

-- the arbiters of a port from n on are none
abbrev pub none_from : ℕ → List (Arbiter 32) → List (Arbiter 8) → List (Arbiter 8) → ℕ → Bool
none_from n vcs inputs outputs i =
    ltb i n || no_arbiters (get_or vcs i past_arbiter) (get_or inputs i past_arbiter) (get_or outputs i past_arbiter)

pub none_below : (n : ℕ) (vcs : List (Arbiter 32)) (inputs outputs : List (Arbiter 8)) → every n (none_from n vcs inputs outputs) ≡ true
none_below n vcs inputs outputs =
    all_every n (none_from n vcs inputs outputs) (λ i h.
    ap (λ b. b || no_arbiters (get_or vcs i past_arbiter) (get_or inputs i past_arbiter) (get_or outputs i past_arbiter)) (lt-ltb i n h))

pub none_is : (n : ℕ) (vcs : List (Arbiter 32)) (inputs outputs : List (Arbiter 8)) (i : ℕ) → n ≤ i
    → none_from n vcs inputs outputs i ≡ no_arbiters (get_or vcs i past_arbiter) (get_or inputs i past_arbiter) (get_or outputs i past_arbiter)
none_is n vcs inputs outputs i h =
    ap (λ b. b || no_arbiters (get_or vcs i past_arbiter) (get_or inputs i past_arbiter) (get_or outputs i past_arbiter)) (le-ltb i n h)
