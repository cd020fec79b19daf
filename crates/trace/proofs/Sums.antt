-- Laws of a sum over the first n numbers.
-- Assumes nothing.
use mathlib.Core.Path.{◌≡◌, refl, sym, ap, ap₂, ◌∙◌}
use mathlib.Core.Bool.{Bool, true, false}
use Prim.Native.Nat.{ℕ, zero, suc, ◌+◌, ◌*◌, ◌≤◌, ◌<◌, zero-le}
use native.Mathlib.Nat.{not-suc-le-zero, mul-suc, le_refl}
use native.Mathlib.Numerals.{add-one}
use native.Mathlib.Omega.{arith}
use lib.Arith.{lt_of_le-ne}
use lib.Dec.{eqb}
use borrow.Author.Tests.{eqb-true, eqb-false}
use Rattle.trace.specs.Check.{sum}

-- one number more
pub sum_more : (n : ℕ) (f : ℕ → ℕ) (s x : ℕ) → s ≡ sum n f → x ≡ f n → s + x ≡ sum (n + 1) f
unfolding sum
sum_more n f s x e d = ap₂ ◌+◌ e d ∙ sym (ap (λ (m : ℕ). sum m f) (add-one n))

-- numbers of at most m each
pub sum_le : (n m : ℕ) (f : ℕ → ℕ) → ((i : ℕ) → i < n → f i ≤ m) → sum n f ≤ m * n
unfolding sum
sum_le zero m f small = zero-le
sum_le (suc n) m f small =
    let rest = sum_le n m f (λ i h. small i (omega arith)) in
    let last = small n (le_refl (suc n)) in
    omega (arith, mul-suc m n)

-- the sum goes by its numbers
pub sum_ext : (n : ℕ) (f g : ℕ → ℕ) → ((i : ℕ) → i < n → f i ≡ g i) → sum n f ≡ sum n g
unfolding sum
sum_ext zero f g same = refl
sum_ext (suc n) f g same = ap₂ ◌+◌ (sum_ext n f g (λ i h. same i (omega arith))) (same n (le_refl (suc n)))

-- one number changed: the sums differ by just what it does
pub sum_change : (n k : ℕ) (f g : ℕ → ℕ) → k < n → ((i : ℕ) → i < n → (i ≡ k → ⊥) → f i ≡ g i) → sum n f + g k ≡ sum n g + f k
unfolding sum
sum_change zero k f g h same = absurd (not-suc-le-zero h)
sum_change (suc n) k f g h same = go (eqb k n) refl (sum_change n k f g)
  where
    go : (b : Bool) → eqb k n ≡ b → (k < n → ((i : ℕ) → i < n → (i ≡ k → ⊥) → f i ≡ g i) → sum n f + g k ≡ sum n g + f k)
        → sum n f + f n + g k ≡ sum n g + g n + f k
    go true e rest =
        let at : k ≡ n = eqb-true k n e in
        let below : sum n f ≡ sum n g = sum_ext n f g (λ i l. same i (omega arith) (λ q. absurd (omega arith))) in
        let p : f k ≡ f n = ap f at in
        let q : g k ≡ g n = ap g at in
        omega arith
    go false e rest =
        let below = rest (lt_of_le-ne (omega arith) (eqb-false k n e)) (λ i l. same i (omega arith)) in
        let last : f n ≡ g n = same n (le_refl (suc n)) (λ q. eqb-false k n e (sym q)) in
        omega arith
