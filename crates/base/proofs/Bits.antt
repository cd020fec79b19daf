-- Laws of a word's bits, each once for every width: what `&`, `|`, shifts and remainders do to them, and that a word is its bits.
-- Assumes nothing.
use mathlib.Core.Path.{◌≡◌, refl, sym, ap, subst, subst₂, ◌∙◌}
use mathlib.Core.Logic.{◌⊎◌, inl, inr}
use mathlib.Core.Bool.{Bool, true, false, cond, not, ◌&&◌, ◌||◌, true≢false, false≢true, and-true, and-false, or-false}
use Prim.Native.Nat.{ℕ, zero, suc, ◌+◌, ◌-◌, ◌*◌, ◌/◌, ◌%◌, ◌^◌, ◌≤◌, ◌<◌}
use native.Mathlib.Nat.{zero-div, div-eq_of_lt, add-zero, one-mul, pow-suc, lt_of_lt_of_le, mod-lt, div-one, mod-eq_of_lt, le_refl}
use native.Mathlib.Nat.{not-suc-le-zero, suc-mul}
use native.Mathlib.Numerals.{one-add}
use native.Mathlib.Omega.{arith}
use lib.Dec.{eqb, ltb, lit<, eqb-zero-suc, eqb-suc-zero, eqb-suc-suc}
use lib.Pow.{pow_pos, pow_mono, pow-lt, shr-shr, split, field, mod-mod-pow}
use lib.Arith.{lt_of_le-ne, digits_div}
use lib.Bits.{bit_and, bit_or, and_shr, or_shr, and_mod, or_mod, and_le_r, or_lt, or_add_and, or_disjoint, or_zero_l, and_mask}
use borrow.Author.Tests.{eqb-true, eqb-false, eq-eqb, ne_eqb, ltb-true, ltb-false}
use Rattle.base.specs.Bits.{bit, word_of, with_bit}

-- a digit is 0 or 1
pub digit : (x : ℕ) → (x % 2 ≡ 0) ⊎ (x % 2 ≡ 1)
digit x = go (x % 2) refl
  where
    go : (r : ℕ) → x % 2 ≡ r → (r ≡ 0) ⊎ (r ≡ 1)
    go zero e = inl refl
    go (suc zero) e = inr refl
    go (suc (suc r)) e = absurd (omega arith)

-- what holds of all four pairs of digits holds of the digits of two words
by_digits : (P : ℕ → ℕ → Type 0) → P 0 0 → P 0 1 → P 1 0 → P 1 1 → (x y : ℕ) → P (x % 2) (y % 2)
by_digits P p00 p01 p10 p11 x y = go (digit x) (digit y)
  where
    go : (x % 2 ≡ 0) ⊎ (x % 2 ≡ 1) → (y % 2 ≡ 0) ⊎ (y % 2 ≡ 1) → P (x % 2) (y % 2)
    go (inl p) (inl q) = subst₂ P (sym p) (sym q) p00
    go (inl p) (inr q) = subst₂ P (sym p) (sym q) p01
    go (inr p) (inl q) = subst₂ P (sym p) (sym q) p10
    go (inr p) (inr q) = subst₂ P (sym p) (sym q) p11

-- a digit is its test
digit_of : (x y : ℕ) → eqb (x % 2) 1 ≡ eqb (y % 2) 1 → x % 2 ≡ y % 2
digit_of x y =
    by_digits (λ (a b : ℕ). eqb a 1 ≡ eqb b 1 → a ≡ b) (λ e. refl) (λ e. absurd (false≢true e)) (λ e. absurd (true≢false e)) (λ e. refl)
    x y

pub bit_zero : (i : ℕ) → bit 0 i ≡ false
unfolding bit
bit_zero i = ap (λ (q : ℕ). eqb (q % 2) 1) (zero-div (2 ^ i))

-- no bit stands at or above the width
pub bit_high : (k x i : ℕ) → x < 2 ^ k → k ≤ i → bit x i ≡ false
unfolding bit
bit_high k x i h g = ap (λ (q : ℕ). eqb (q % 2) 1) (div-eq_of_lt (lt_of_lt_of_le h (pow_mono g)))

-- `x >> p`: the bits from p on
pub bit_shr : (x p i : ℕ) → bit (x / 2 ^ p) i ≡ bit x (p + i)
unfolding bit
bit_shr x p i = ap (λ (q : ℕ). eqb (q % 2) 1) (shr-shr x p i)

-- `x % 2 ^ k`: the bits below k
pub bit_mod : (x k i : ℕ) → i < k → bit (x % 2 ^ k) i ≡ bit x i
unfolding bit
bit_mod x k i h =
    let j = k - suc i in
    let e : j + 1 + i ≡ k = omega arith in
    subst (λ (n : ℕ). eqb (x % 2 ^ n / 2 ^ i % 2) 1 ≡ eqb (x / 2 ^ i % 2) 1) e
    (ap (λ (q : ℕ). eqb (q % 2) 1) (field x (j + 1) i) ∙ ap (λ (q : ℕ). eqb q 1) (mod-mod-pow (x / 2 ^ i) j 1))

pub bit_and-law : (x y i : ℕ) → bit (bit_and x y) i ≡ (bit x i && bit y i)
unfolding bit
bit_and-law x y i =
    ap (λ (q : ℕ). eqb (q % 2) 1) (and_shr x y i) ∙ ap (λ (q : ℕ). eqb q 1) (and_mod (x / 2 ^ i) (y / 2 ^ i) 1)
    ∙ by_digits (λ (a b : ℕ). eqb (bit_and a b) 1 ≡ (eqb a 1 && eqb b 1)) refl refl refl refl (x / 2 ^ i) (y / 2 ^ i)

pub bit_or-law : (x y i : ℕ) → bit (bit_or x y) i ≡ (bit x i || bit y i)
unfolding bit
bit_or-law x y i =
    ap (λ (q : ℕ). eqb (q % 2) 1) (or_shr x y i) ∙ ap (λ (q : ℕ). eqb q 1) (or_mod (x / 2 ^ i) (y / 2 ^ i) 1)
    ∙ by_digits (λ (a b : ℕ). eqb (bit_or a b) 1 ≡ (eqb a 1 || eqb b 1)) refl refl refl refl (x / 2 ^ i) (y / 2 ^ i)

-- the lowest bit, and the bits of the rest
pub bit_first : (x : ℕ) → bit x 0 ≡ eqb (x % 2) 1
unfolding bit
bit_first x = ap (λ (q : ℕ). eqb (q % 2) 1) (div-one x)

pub bit_half : (x i : ℕ) → bit (x / 2) i ≡ bit x (suc i)
bit_half x i = bit_shr x 1 i ∙ ap (bit x) (one-add i)

half_lt : (x k : ℕ) → x < 2 ^ suc k → x / 2 < 2 ^ k
half_lt x k h = omega (arith, pow-suc 2 k)

-- two words of k bits with the same bits are the same
pub bit_ext : (k x y : ℕ) → x < 2 ^ k → y < 2 ^ k → ((i : ℕ) → i < k → bit x i ≡ bit y i) → x ≡ y
bit_ext zero x y hx hy same = omega arith
bit_ext (suc k) x y hx hy same =
    let low : x % 2 ≡ y % 2 = digit_of x y (sym (bit_first x) ∙ same 0 (omega arith) ∙ bit_first y) in
    let rest : x / 2 ≡ y / 2 = bit_ext k (x / 2) (y / 2) (half_lt x k hx) (half_lt y k hy)
    (λ i h. bit_half x i ∙ same (suc i) (omega arith) ∙ sym (bit_half y i)) in
    omega arith

-- `1 << w`: the one bit w
pub bit_pow : (w i : ℕ) → bit (2 ^ w) i ≡ eqb i w
unfolding bit
bit_pow zero zero = refl
bit_pow zero (suc i) = bit_high 1 1 (suc i) (lit< tt) (omega arith) ∙ sym (eqb-suc-zero i)
bit_pow (suc w) zero =
    let even : 2 ^ suc w % 2 ≡ 0 = omega (arith, pow-suc 2 w) in
    bit_first (2 ^ suc w) ∙ ap (λ (q : ℕ). eqb q 1) even ∙ sym (eqb-zero-suc w)
bit_pow (suc w) (suc i) =
    let half : 2 ^ suc w / 2 ≡ 2 ^ w = omega (arith, pow-suc 2 w) in
    sym (bit_half (2 ^ suc w) i) ∙ ap (λ (q : ℕ). bit q i) half ∙ bit_pow w i ∙ sym (eqb-suc-suc i w)

-- the part of a word that is its bit w
and_bit : (x w i : ℕ) → bit (bit_and x (2 ^ w)) i ≡ (bit x w && eqb i w)
and_bit x w i = bit_and-law x (2 ^ w) i ∙ ap (λ (b : Bool). bit x i && b) (bit_pow w i) ∙ go (eqb i w) refl
  where
    go : (b : Bool) → eqb i w ≡ b → (bit x i && b) ≡ (bit x w && b)
    go true e = ap (λ (k : ℕ). bit x k && true) (eqb-true i w e)
    go false e = and-false (bit x i) ∙ sym (and-false (bit x w))

and_pow_lt : (x w : ℕ) → bit_and x (2 ^ w) < 2 ^ suc w
and_pow_lt x w = omega (arith, and_le_r x (2 ^ w), pow-suc 2 w, pow_pos w)

pub and_clear : (x w : ℕ) → bit x w ≡ false → bit_and x (2 ^ w) ≡ 0
and_clear x w clear =
    bit_ext (suc w) (bit_and x (2 ^ w)) 0 (and_pow_lt x w) (pow_pos (suc w))
    (λ i h. and_bit x w i ∙ ap (λ (b : Bool). b && eqb i w) clear ∙ sym (bit_zero i))

pub clear_and : (x w : ℕ) → bit_and x (2 ^ w) ≡ 0 → bit x w ≡ false
clear_and x w e =
    sym (and-true (bit x w)) ∙ ap (λ (b : Bool). bit x w && b) (sym (eq-eqb w w refl)) ∙ sym (and_bit x w w) ∙ ap (λ (q : ℕ). bit q w) e
    ∙ bit_zero w

and_there : (x w : ℕ) → bit x w ≡ true → bit_and x (2 ^ w) ≡ 2 ^ w
and_there x w there =
    bit_ext (suc w) (bit_and x (2 ^ w)) (2 ^ w) (and_pow_lt x w) (omega (arith, pow-suc 2 w, pow_pos w))
    (λ i h. and_bit x w i ∙ ap (λ (b : Bool). b && eqb i w) there ∙ sym (bit_pow w i))

-- `a | b` is 0 just when both are
pub or_zero : (a b : ℕ) → eqb (bit_or a b) 0 ≡ (eqb a 0 && eqb b 0)
or_zero a b = go (eqb a 0) refl
  where
    go : (t : Bool) → eqb a 0 ≡ t → eqb (bit_or a b) 0 ≡ (t && eqb b 0)
    go true e = ap (λ (x : ℕ). eqb (bit_or x b) 0) (eqb-true a 0 e) ∙ ap (λ (x : ℕ). eqb x 0) (or_zero_l b)
    go false e = ne_eqb (bit_or a b) 0 (λ z. eqb-false a 0 e (omega (arith, or_add_and a b, and_le_r a b)))

-- `x | 1 << w` sets bit w
pub or_with : (x w : ℕ) → bit_or x (2 ^ w) ≡ with_bit w x
unfolding with_bit
or_with x w = go (bit x w) refl
  where
    go : (b : Bool) → bit x w ≡ b → bit_or x (2 ^ w) ≡ cond b x (x + 2 ^ w)
    go true e = omega (arith, or_add_and x (2 ^ w), and_there x w e)
    go false e = or_disjoint x (2 ^ w) (and_clear x w e)

pub bit_with : (w x i : ℕ) → bit (with_bit w x) i ≡ (bit x i || eqb i w)
bit_with w x i = ap (λ (q : ℕ). bit q i) (sym (or_with x w)) ∙ bit_or-law x (2 ^ w) i ∙ ap (λ (b : Bool). bit x i || b) (bit_pow w i)

pub with_lt : (k w x : ℕ) → x < 2 ^ k → w < k → with_bit w x < 2 ^ k
with_lt k w x h g = subst (λ (q : ℕ). q < 2 ^ k) (or_with x w) (or_lt k x (2 ^ w) h (pow-lt g))

-- `1 << w` at a width that holds it
pub shl_one : (width w : ℕ) → w < width → 1 * 2 ^ w % 2 ^ width ≡ 2 ^ w
shl_one width w h = ap (λ (x : ℕ). x % 2 ^ width) (one-mul (2 ^ w)) ∙ mod-eq_of_lt (pow-lt h)

-- `2 ^ k - 1`: all bits below k
pub bit_all : (k i : ℕ) → i < k → bit (2 ^ k - 1) i ≡ true
bit_all k i h =
    let own : bit (2 ^ i) i ≡ true = bit_pow i i ∙ eq-eqb i i refl in
    let kept : bit_and (2 ^ i) (2 ^ k - 1) ≡ 2 ^ i = and_mask (2 ^ i) k ∙ mod-eq_of_lt (pow-lt h) in
    ap (λ (b : Bool). b && bit (2 ^ k - 1) i) (sym own) ∙ sym (bit_and-law (2 ^ i) (2 ^ k - 1) i) ∙ ap (λ (x : ℕ). bit x i) kept ∙ own

-- a bit that is there stands below the width
pub bit_below : (k x i : ℕ) → x < 2 ^ k → bit x i ≡ true → i < k
bit_below k x i h there = go (ltb i k) refl
  where
    go : (b : Bool) → ltb i k ≡ b → i < k
    go true e = ltb-true i k e
    go false e = absurd (true≢false (sym there ∙ bit_high k x i h (ltb-false i k e)))

-- adding a bit that is not there sets it and no other
pub bit_add : (x w i : ℕ) → bit x w ≡ false → bit (x + 2 ^ w) i ≡ (bit x i || eqb i w)
unfolding with_bit
bit_add x w i clear = ap (λ (b : Bool). bit (cond b x (x + 2 ^ w)) i) (sym clear) ∙ bit_with w x i

taken_clear : (x w : ℕ) → bit x w ≡ true → (2 ^ w ≤ x) × (bit (x - 2 ^ w) w ≡ false)
unfolding bit
taken_clear x w there =
    let q = x / 2 ^ w in
    let p = q - 1 in
    let odd : q % 2 ≡ 1 = eqb-true (q % 2) 1 there in
    let whole : q * 2 ^ w + x % 2 ^ w ≡ x = split x w in
    let top : q * 2 ^ w ≡ p * 2 ^ w + 2 ^ w = ap (λ (k : ℕ). k * 2 ^ w) (omega arith) ∙ suc-mul p (2 ^ w) in
    let rest : x - 2 ^ w ≡ p * 2 ^ w + x % 2 ^ w = omega arith in
    let even : p % 2 ≡ 0 = omega arith in (
      omega arith,
      ap (λ (k : ℕ). eqb (k % 2) 1) (ap (λ (k : ℕ). k / 2 ^ w) rest ∙ digits_div p (mod-lt x (pow_pos w))) ∙ ap (λ (k : ℕ). eqb k 1) even,
    )

-- a word is at least each of its bits
pub bit_le : (x w : ℕ) → bit x w ≡ true → 2 ^ w ≤ x
bit_le x w there = (taken_clear x w there).0

-- taking a bit away that is there clears it and no other
pub bit_take : (x w i : ℕ) → bit x w ≡ true → bit (x - 2 ^ w) i ≡ (bit x i && not (eqb i w))
bit_take x w i there = go (eqb i w) refl
  where
    y : ℕ
    y = x - 2 ^ w

    clear : (2 ^ w ≤ x) × (bit y w ≡ false)
    clear = taken_clear x w there

    back : y + 2 ^ w ≡ x
    back = let h = clear.0 in omega arith

    more : bit x i ≡ (bit y i || eqb i w)
    more = ap (λ (q : ℕ). bit q i) (sym back) ∙ bit_add y w i clear.1

    go : (b : Bool) → eqb i w ≡ b → bit y i ≡ (bit x i && not b)
    go true e = ap (bit y) (eqb-true i w e) ∙ clear.1 ∙ sym (and-false (bit x i))
    go false e = sym (or-false (bit y i)) ∙ ap (λ (b : Bool). bit y i || b) (sym e) ∙ sym more ∙ sym (and-true (bit x i))

-- the word of a set has the set's numbers below n, and no other
pub word_lt : (set : ℕ → Bool) (n : ℕ) → word_of set n < 2 ^ n
unfolding word_of
word_lt set zero = lit< tt
word_lt set (suc n) = go (set n) (word_lt set n)
  where
    go : (b : Bool) → word_of set n < 2 ^ n → word_of set n + cond b (2 ^ n) 0 < 2 ^ suc n
    go true h = omega (arith, pow-suc 2 n)
    go false h = omega (arith, pow-suc 2 n)

word_more : (set : ℕ → Bool) (n i : ℕ) → bit (word_of set (suc n)) i ≡ (bit (word_of set n) i || (set n && eqb i n))
unfolding word_of
word_more set n i = go (set n)
  where
    go : (b : Bool) → bit (word_of set n + cond b (2 ^ n) 0) i ≡ (bit (word_of set n) i || (b && eqb i n))
    go true = bit_add (word_of set n) n i (bit_high n (word_of set n) n (word_lt set n) (le_refl n))
    go false = ap (λ (q : ℕ). bit q i) (add-zero (word_of set n)) ∙ sym (or-false (bit (word_of set n) i))

pub bit_word : (set : ℕ → Bool) (n i : ℕ) → i < n → bit (word_of set n) i ≡ set i
bit_word set zero i h = absurd (not-suc-le-zero h)
bit_word set (suc n) i h = word_more set n i ∙ go (eqb i n) refl (bit_word set n i)
  where
    go : (b : Bool) → eqb i n ≡ b → (i < n → bit (word_of set n) i ≡ set i) → (bit (word_of set n) i || (set n && b)) ≡ set i
    go true e below =
        let same : i ≡ n = eqb-true i n e in
        let high : bit (word_of set n) i ≡ false = bit_high n (word_of set n) i (word_lt set n) (omega arith) in
        ap (λ (b : Bool). b || (set n && true)) high ∙ and-true (set n) ∙ ap set (sym same)
    go false e below =
        let h' : i < n = lt_of_le-ne (omega arith) (eqb-false i n e) in
        ap (λ (b : Bool). bit (word_of set n) i || b) (and-false (set n)) ∙ or-false (bit (word_of set n) i) ∙ below h'

-- a word is the word of its bits
pub word_of-law : (k x : ℕ) → x < 2 ^ k → word_of (bit x) k ≡ x
word_of-law k x h = bit_ext k (word_of (bit x) k) x (word_lt (bit x) k) h (λ i g. bit_word (bit x) k i g)
