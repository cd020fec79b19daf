-- Numbers as text: how long a decimal is, that it is read back to its number, that it has no leading zero; the hex digits likewise.
-- Assumes nothing.
use mathlib.Core.Path.{◌≡◌, refl, sym, ap, ◌∙◌}
use mathlib.Core.Bool.{Bool, true, false, cond}
use mathlib.Core.List.{List, [], ◌∷◌, ◌++◌}
use Prim.Native.Nat.{ℕ, zero, suc, ◌+◌, ◌*◌, ◌/◌, ◌%◌, ◌^◌, ◌≤◌, ◌<◌}
use native.Mathlib.Nat.{pow-suc, mod-eq_of_lt, not-suc-le-zero, div-div-eq-div-mul}
use native.Mathlib.Numerals.{add-one}
use native.Mathlib.Omega.{arith}
use lib.Dec.{ltb}
use lib.ListN.{length, set, length-append}
use lib.Seq.{sets}
use borrow.Author.Tests.{ltb-true, ltb-false, lt-ltb, le-ltb}
use Rattle.listing.specs.Digits.{glyph, unless, decimal_within, decimal, last_digits, hex}
use Rattle.listing.specs.Inside.{Laid}
use Rattle.listing.proofs.Stores.{stores, stores_from}

-- a decimal digit is 48 and its value
pub glyph_low : (d : ℕ) → d < 10 → glyph d ≡ 48 + d
unfolding glyph
glyph_low d h = ap (λ (b : Bool). cond b (48 + d) (87 + d)) (lt-ltb d 10 h)

-- `0` to `9`, then `a` to `f`, by arithmetic
pub glyph_sum : (d : ℕ) → d < 16 → 48 + d + (d + 6) / 16 * 39 ≡ glyph d
unfolding glyph
glyph_sum d h = go (ltb d 10) refl
  where
    go : (b : Bool) → ltb d 10 ≡ b → 48 + d + (d + 6) / 16 * 39 ≡ cond b (48 + d) (87 + d)
    go true e = let l = ltb-true d 10 e in omega arith
    go false e = let l = ltb-false d 10 e in omega arith

-- enough digits are enough
within_same : (k j n : ℕ) → n < k → n < j → decimal_within k n ≡ decimal_within j n
unfolding decimal_within
within_same zero j n h g = absurd (not-suc-le-zero h)
within_same (suc k) zero n h g = absurd (not-suc-le-zero g)
within_same (suc k) (suc j) n h g = go (ltb n 10) refl (λ (l : 10 ≤ n). within_same k j (n / 10) (omega arith) (omega arith))
  where
    go : (b : Bool) → ltb n 10 ≡ b → (10 ≤ n → decimal_within k (n / 10) ≡ decimal_within j (n / 10))
        → unless b (λ u. decimal_within k (n / 10)) ++ (glyph (n % 10) ∷ [])
        ≡ unless b (λ u. decimal_within j (n / 10)) ++ (glyph (n % 10) ∷ [])
    go true e same = refl
    go false e same = ap (λ (ds : List ℕ). ds ++ (glyph (n % 10) ∷ [])) (same (ltb-false n 10 e))

-- a number below 10 is one digit
pub decimal_digit : (n : ℕ) → n < 10 → decimal n ≡ (48 + n) ∷ []
unfolding decimal decimal_within
decimal_digit n h =
    rw (lt-ltb n 10 h) (ap (λ (d : ℕ). d ∷ []) (ap glyph (mod-eq_of_lt h) ∙ glyph_low n h))

-- any other is the digits of its tenth, and one more
pub decimal_more : (n : ℕ) → 10 ≤ n → decimal n ≡ decimal (n / 10) ++ (glyph (n % 10) ∷ [])
unfolding decimal decimal_within
decimal_more n h =
    rw (le-ltb n 10 h) (ap (λ (ds : List ℕ). ds ++ (glyph (n % 10) ∷ []))
    (within_same n (suc (n / 10)) (n / 10) (omega arith) (omega arith)))

-- no decimal is longer than its bound's
pub decimal_length : (k n : ℕ) → n < 10 ^ suc k → length (decimal n) ≤ suc k
decimal_length zero n h = let e : length (decimal n) ≡ 1 = ap length (decimal_digit n h) in omega arith
decimal_length (suc k) n h = go (ltb n 10) refl (λ (l : 10 ≤ n). decimal_length k (n / 10) (omega (arith, pow-suc 10 (suc k))))
  where
    go : (b : Bool) → ltb n 10 ≡ b → (10 ≤ n → length (decimal (n / 10)) ≤ suc k) → length (decimal n) ≤ suc (suc k)
    go true e shorter = let s : length (decimal n) ≡ 1 = ap length (decimal_digit n (ltb-true n 10 e)) in omega arith
    go false e shorter =
        let l = ltb-false n 10 e in
        let m : length (decimal n) ≡ length (decimal (n / 10)) + 1 = ap length (decimal_more n l)
        ∙ length-append (decimal (n / 10)) (glyph (n % 10) ∷ []) in
        omega (arith, shorter l)

pub decimal_ten : (n : ℕ) → n < 10000000000 → length (decimal n) ≤ 10
decimal_ten n h = decimal_length 9 n h

-- the last k digits are k
pub last_length : (b k n : ℕ) → length (last_digits b k n) ≡ k
unfolding last_digits
last_length b zero n = refl
last_length b (suc k) n =
    length-append (last_digits b k (n / b)) (glyph (n % b) ∷ []) ∙ ap (λ (m : ℕ). m + 1) (last_length b k (n / b)) ∙ add-one k

-- a decimal digit by arithmetic
pub glyph_mod : (x : ℕ) → glyph (x % 10) ≡ 48 + x % 10
glyph_mod x = glyph_low (x % 10) (omega arith)

-- the ten digits, each by one division
pub ten_digits : (n : ℕ) →
    (48 + n / 1000000000 % 10) ∷ (48 + n / 100000000 % 10) ∷ (48 + n / 10000000 % 10) ∷ (48 + n / 1000000 % 10) ∷ (48 + n / 100000 % 10)
    ∷ (48 + n / 10000 % 10) ∷ (48 + n / 1000 % 10) ∷ (48 + n / 100 % 10) ∷ (48 + n / 10 % 10) ∷ (48 + n % 10) ∷ [] ≡ last_digits 10 10 n
unfolding last_digits
ten_digits n = simp (div-div-eq-div-mul, glyph_mod)

-- the eight hex digits, each by one division
pub eight_digits : (n : ℕ) →
    glyph (n / 268435456 % 16) ∷ glyph (n / 16777216 % 16) ∷ glyph (n / 1048576 % 16) ∷ glyph (n / 65536 % 16) ∷ glyph (n / 4096 % 16)
    ∷ glyph (n / 256 % 16) ∷ glyph (n / 16 % 16) ∷ glyph (n % 16) ∷ [] ≡ hex n
unfolding hex last_digits
eight_digits n = simp div-div-eq-div-mul

-- stored one by one they are the eight
pub hex_laid : (l : List ℕ) (p n a b c d e f g h : ℕ) → a ≡ glyph (n / 268435456 % 16) → b ≡ glyph (n / 16777216 % 16) → c
    ≡ glyph (n / 1048576 % 16)
    → d ≡ glyph (n / 65536 % 16) → e ≡ glyph (n / 4096 % 16) → f ≡ glyph (n / 256 % 16) → g ≡ glyph (n / 16 % 16) → h ≡ glyph (n % 16)
    → Laid l p (hex n) (stores (set l p a) p 1 (b ∷ c ∷ d ∷ e ∷ f ∷ g ∷ h ∷ [])) (p + 8)
unfolding hex
hex_laid l p n a b c d e f g h ea eb ec ed ee ef eg eh =
    let same : a ∷ b ∷ c ∷ d ∷ e ∷ f ∷ g ∷ h ∷ [] ≡ last_digits 16 8 n = rw (ea, eb, ec, ed, ee, ef, eg, eh) (eight_digits n) in
    record {
      stored = stores_from l p a (b ∷ c ∷ d ∷ e ∷ f ∷ g ∷ h ∷ []) ∙ ap (sets l p) same;
      ahead = ap (λ (k : ℕ). p + k) (sym (last_length 16 8 n));
    }

pub hex_length : (n : ℕ) → length (hex n) ≡ 8
unfolding hex
hex_length n = last_length 16 8 n
