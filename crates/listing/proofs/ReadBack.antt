-- Numbers are read back from their digits, and a decimal has no leading zero.
-- Assumes nothing.
use mathlib.Core.Path.{◌≡◌, refl, sym, ap, ap₂, ◌∙◌}
use mathlib.Core.Bool.{Bool, true, false, cond}
use mathlib.Core.List.{List, [], ◌∷◌, ◌++◌}
use Prim.Native.Nat.{ℕ, zero, suc, ◌+◌, ◌*◌, ◌/◌, ◌%◌, ◌^◌, ◌≤◌, ◌<◌}
use native.Mathlib.Nat.{pow-suc, not-suc-le-zero, div-add-mod'}
use native.Mathlib.Omega.{arith}
use lib.Dec.{ltb, lit<}
use lib.ListN.{length, get_or, length-append, get_or-append}
use borrow.Author.Tests.{ltb-true, ltb-false, lt-ltb, le-ltb}
use Rattle.listing.specs.Digits.{glyph, decimal, last_digits, hex}
use Rattle.listing.specs.Reading.{digit_of, value_from, value_of}
use Rattle.listing.proofs.Decimals.{decimal_digit, decimal_more}

-- what holds of the numbers below 10, and of a number when it holds of its tenth, holds of all
pub by_tenths : (P : ℕ → Type 0) → ((n : ℕ) → n < 10 → P n) → ((n : ℕ) → 10 ≤ n → P (n / 10) → P n) → (n : ℕ) → P n
by_tenths P low high n = within (suc n) n (omega arith)
  where
    within : (k m : ℕ) → m < k → P m
    within zero m h = absurd (not-suc-le-zero h)
    within (suc k) m h = go (ltb m 10) refl (λ (l : 10 ≤ m). within k (m / 10) (omega arith))
      where
        go : (b : Bool) → ltb m 10 ≡ b → (10 ≤ m → P (m / 10)) → P m
        go true e tenth = low m (ltb-true m 10 e)
        go false e tenth = high m (ltb-false m 10 e) (tenth (ltb-false m 10 e))

-- a digit is read back
pub digit_read : (d : ℕ) → d < 16 → digit_of (glyph d) ≡ d
unfolding digit_of glyph
digit_read d h = go (ltb d 10) refl
  where
    go : (b : Bool) → ltb d 10 ≡ b → digit_of (cond b (48 + d) (87 + d)) ≡ d
    go true e = let l = ltb-true d 10 e in rw (lt-ltb (48 + d) 58 (omega arith)) (omega arith)
    go false e = let l = ltb-false d 10 e in rw (le-ltb (87 + d) 58 (omega arith)) (omega arith)

-- one more digit at the end
value_more : (b n : ℕ) (cs : List ℕ) (c : ℕ) → value_from b n (cs ++ (c ∷ [])) ≡ value_from b n cs * b + digit_of c
unfolding value_from
value_more b n [] c = refl
value_more b n (x ∷ cs) c = value_more b (n * b + digit_of x) cs c

-- reading a printed decimal back gives the number
pub decimal_read : (n : ℕ) → value_of 10 (decimal n) ≡ n
unfolding value_of value_from digit_of
decimal_read = by_tenths (λ (n : ℕ). value_from 10 0 (decimal n) ≡ n) one more
  where
    one : (n : ℕ) → n < 10 → value_from 10 0 (decimal n) ≡ n
    one n h =
        ap (value_from 10 0) (decimal_digit n h) ∙ rw (lt-ltb (48 + n) 58 (omega arith)) (omega arith)

    more : (n : ℕ) → 10 ≤ n → value_from 10 0 (decimal (n / 10)) ≡ n / 10 → value_from 10 0 (decimal n) ≡ n
    more n h e =
        ap (value_from 10 0) (decimal_more n h) ∙ value_more 10 0 (decimal (n / 10)) (glyph (n % 10))
        ∙ ap₂ (λ (a d : ℕ). a * 10 + d) e (digit_read (n % 10) (omega arith)) ∙ div-add-mod' n 10

-- the eight hex digits of a 32-bit payload are read back to it
last_read : (k n : ℕ) → n < 16 ^ k → value_from 16 0 (last_digits 16 k n) ≡ n
unfolding value_from last_digits
last_read zero n h = omega arith
last_read (suc k) n h =
    value_more 16 0 (last_digits 16 k (n / 16)) (glyph (n % 16))
    ∙ ap₂ (λ (a d : ℕ). a * 16 + d) (last_read k (n / 16) (omega (arith, pow-suc 16 k))) (digit_read (n % 16) (omega arith))
    ∙ div-add-mod' n 16

pub hex_read : (n : ℕ) → n < 2 ^ 32 → value_of 16 (hex n) ≡ n
unfolding value_of hex
hex_read n h = last_read 8 n h

-- the first digit of a decimal is not 0 unless the number is
pub decimal_first : (n : ℕ) → get_or (decimal n) 0 0 ≡ glyph 0 → n ≡ 0
unfolding glyph
decimal_first n = (by_tenths (λ (m : ℕ). (0 < length (decimal m)) × (get_or (decimal m) 0 0 ≡ 48 → m ≡ 0)) one more n).1
  where
    one : (m : ℕ) → m < 10 → (0 < length (decimal m)) × (get_or (decimal m) 0 0 ≡ 48 → m ≡ 0)
    one m h = rw (decimal_digit m h) (lit< tt, λ e. omega arith)

    more : (m : ℕ) → 10 ≤ m → (0 < length (decimal (m / 10))) × (get_or (decimal (m / 10)) 0 0 ≡ 48 → m / 10 ≡ 0)
        → (0 < length (decimal m)) × (get_or (decimal m) 0 0 ≡ 48 → m ≡ 0)
    more m h (some, first) =
        let last = glyph (m % 10) ∷ [] in
        let longer : length (decimal m) ≡ length (decimal (m / 10)) + 1 = ap length (decimal_more m h)
        ∙ length-append (decimal (m / 10)) last in
        let same : get_or (decimal m) 0 0 ≡ get_or (decimal (m / 10)) 0 0 = ap (λ (ds : List ℕ). get_or ds 0 0) (decimal_more m h)
        ∙ get_or-append (decimal (m / 10)) last 0 0 some in
        (omega arith, λ e. absurd (let z = first (sym same ∙ e) in omega arith))
