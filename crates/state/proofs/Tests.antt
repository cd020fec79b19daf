-- Laws of tests that computed so far pass.
-- Assumes nothing.
use mathlib.Core.Path.{◌≡◌, refl, sym, ap, ap₂, ◌∙◌}
use mathlib.Core.Bool.{Bool, true, false, ◌&&◌, and-false}
use Prim.Native.Nat.{ℕ, ◌+◌, ◌≤◌, ◌<◌}
use native.Mathlib.Nat.{le_antisymm, lt_of_lt_of_le}
use native.Mathlib.Numerals.{add-one}
use Rattle.base.specs.Search.{every}
use Rattle.base.proofs.Search.{not_every, every_at, all_every}

-- two tests that pass together are the same
pub same_test : (a b : Bool) → (a ≡ true → b ≡ true) → (b ≡ true → a ≡ true) → a ≡ b
same_test true b f g = sym (f refl)
same_test false true f g = g refl
same_test false false f g = refl

-- nothing is tested yet
pub every_none : (test : ℕ → Bool) → every 0 test ≡ true
unfolding every
every_none test = refl

-- one more passes
pub every_more : (n : ℕ) (test : ℕ → Bool) → every n test ≡ true → test n ≡ true → every (n + 1) test ≡ true
unfolding every
every_more n test e f = ap (λ k. every k test) (add-one n) ∙ ap₂ ◌&&◌ e f

-- all have passed
pub every_passed : (n m : ℕ) (test : ℕ → Bool) → m ≤ n → n ≤ m → every m test ≡ true → every n test ≡ true
every_passed n m test h g e = ap (λ k. every k test) (le_antisymm g h) ∙ e

-- one does not pass
pub every_fails : (n m : ℕ) (test : ℕ → Bool) → m < n → test m ≡ false → false ≡ every n test
every_fails n m test h e = sym (not_every n test m h e)

-- some before it all pass
pub every_below : (n m : ℕ) (test : ℕ → Bool) → n ≤ m → every m test ≡ true → every n test ≡ true
every_below n m test h e = all_every n test (λ i l. every_at m test e i (lt_of_lt_of_le l h))

-- the first of two tests fails, or it passes and the second is left
pub and_no : (a b : Bool) → a ≡ false → false ≡ (a && b)
and_no a b e = sym (ap (λ t. t && b) e)

pub and_yes : (a b : Bool) → a ≡ true → b ≡ (a && b)
and_yes a b e = sym (ap (λ t. t && b) e)

-- the second of two tests fails
pub and_none : (a b : Bool) → b ≡ false → false ≡ (a && b)
and_none a b e = sym (ap (λ t. a && t) e ∙ and-false a)
