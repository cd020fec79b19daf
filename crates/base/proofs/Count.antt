-- How many numbers below k pass a test; `count_ones` of a word counts its bits.
-- Assumes nothing.
use mathlib.Core.Path.{◌≡◌, refl, sym, ap, ap₂, ◌∙◌}
use mathlib.Core.Logic.{◌⊎◌, inl, inr}
use mathlib.Core.Bool.{Bool, true, false, ◌||◌, or-false, or-true}
use Prim.Native.Nat.{ℕ, zero, suc, ◌+◌, ◌/◌, ◌%◌, ◌^◌, ◌≤◌, ◌<◌, zero-le}
use native.Mathlib.Nat.{not-suc-le-zero, pow-suc}
use native.Mathlib.Omega.{arith}
use lib.Count.{ones, ones_step}
use lib.Dec.{eqb, eqb-zero-suc, eqb-suc-zero, eqb-suc-suc}
use Rattle.base.specs.Bits.{bit}
use Rattle.base.proofs.Bits.{digit, bit_first, bit_half}

abbrev pub one : Bool → ℕ
one true = 1
one false = 0

unfoldable pub count : (ℕ → Bool) → ℕ → ℕ
count f zero = 0
count f (suc k) = one (f 0) + count (λ (i : ℕ). f (suc i)) k

pub count_ext : (f g : ℕ → Bool) (k : ℕ) → ((i : ℕ) → i < k → f i ≡ g i) → count f k ≡ count g k
unfolding count
count_ext f g zero same = refl
count_ext f g (suc k) same =
    ap₂ (λ (b : Bool) (n : ℕ). one b + n) (same 0 (omega arith))
    (count_ext (λ (i : ℕ). f (suc i)) (λ (i : ℕ). g (suc i)) k (λ i h. same (suc i) (omega arith)))

-- `count_ones` of a word of k bits
pub ones_count : (k x : ℕ) → x < 2 ^ k → ones x ≡ count (bit x) k
unfolding ones count
ones_count zero x h = let e : x ≡ 0 = omega arith in ap ones e
ones_count (suc k) x h =
    ones_step x
    ∙ ap₂ (λ (a b : ℕ). a + b) (low (x % 2) (digit x) ∙ ap one (sym (bit_first x)))
    (ones_count k (x / 2) (omega (arith, pow-suc 2 k)) ∙ count_ext (bit (x / 2)) (λ (i : ℕ). bit x (suc i)) k (λ i g. bit_half x i))
  where
    low : (d : ℕ) → (d ≡ 0) ⊎ (d ≡ 1) → d ≡ one (eqb d 1)
    low d (inl e) = rw e
    low d (inr e) = rw e

one_le : (a b : Bool) → (a ≡ true → b ≡ true) → one a ≤ one b
one_le true b sub = let e : one b ≡ 1 = ap one (sub refl) in omega arith
one_le false b sub = zero-le

pub count_le : (f g : ℕ → Bool) (k : ℕ) → ((i : ℕ) → i < k → f i ≡ true → g i ≡ true) → count f k ≤ count g k
unfolding count
count_le f g zero sub = zero-le
count_le f g (suc k) sub =
    let rest = count_le (λ (i : ℕ). f (suc i)) (λ (i : ℕ). g (suc i)) k (λ i h. sub (suc i) (omega arith)) in
    let low = one_le (f 0) (g 0) (sub 0 (omega arith)) in
    omega arith

-- a test that passes more numbers counts more
pub count_lt : (f g : ℕ → Bool) (k j : ℕ) → ((i : ℕ) → i < k → f i ≡ true → g i ≡ true) → j < k → f j ≡ false → g j ≡ true
    → count f k < count g k
unfolding count
count_lt f g zero j sub h p q = absurd (not-suc-le-zero h)
count_lt f g (suc k) zero sub h p q =
    let rest = count_le (λ (i : ℕ). f (suc i)) (λ (i : ℕ). g (suc i)) k (λ i l. sub (suc i) (omega arith)) in
    let off : one (f 0) ≡ 0 = ap one p in
    let on : one (g 0) ≡ 1 = ap one q in
    omega arith
count_lt f g (suc k) (suc j) sub h p q =
    let rest = count_lt (λ (i : ℕ). f (suc i)) (λ (i : ℕ). g (suc i)) k j (λ i l. sub (suc i) (omega arith)) (omega arith) p q in
    let low = one_le (f 0) (g 0) (sub 0 (omega arith)) in
    omega arith

-- one number more
pub count_more : (f : ℕ → Bool) (k j : ℕ) → j < k → f j ≡ false → count (λ (i : ℕ). f i || eqb i j) k ≡ suc (count f k)
unfolding count
count_more f zero j h p = absurd (not-suc-le-zero h)
count_more f (suc k) zero h p =
    let rest =
    count_ext (λ (i : ℕ). f (suc i) || eqb (suc i) 0) (λ (i : ℕ). f (suc i)) k
    (λ i l. ap (λ (b : Bool). f (suc i) || b) (eqb-suc-zero i) ∙ or-false (f (suc i))) in
    let off : one (f 0) ≡ 0 = ap one p in
    let on : one (f 0 || true) ≡ 1 = ap one (or-true (f 0)) in
    omega arith
count_more f (suc k) (suc j) h p =
    let same =
    count_ext (λ (i : ℕ). f (suc i) || eqb (suc i) (suc j)) (λ (i : ℕ). f (suc i) || eqb i j) k
    (λ i l. ap (λ (b : Bool). f (suc i) || b) (eqb-suc-suc i j)) in
    let rest = count_more (λ (i : ℕ). f (suc i)) k j (omega arith) p in
    let low : one (f 0 || eqb 0 (suc j)) ≡ one (f 0) = ap one (ap (λ (b : Bool). f 0 || b) (eqb-zero-suc j) ∙ or-false (f 0)) in
    omega arith

pub count_all : (f : ℕ → Bool) (k : ℕ) → ((i : ℕ) → i < k → f i ≡ true) → count f k ≡ k
unfolding count
count_all f zero all = refl
count_all f (suc k) all =
    let rest = count_all (λ (i : ℕ). f (suc i)) k (λ i h. all (suc i) (omega arith)) in
    let on : one (f 0) ≡ 1 = ap one (all 0 (omega arith)) in
    omega arith
