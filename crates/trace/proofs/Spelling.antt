-- Numbers spelled big-endian in two and four bytes.
-- Assumes nothing.
use mathlib.Core.Path.{◌≡◌, refl, ap, ap₂}
use mathlib.Core.List.{List, [], ◌∷◌}
use Rattle.std.specs.Int.{w16, w32, from_be_bytes}
use Prim.Native.Nat.{ℕ, zero, suc, ◌+◌, ◌*◌, ◌<◌}
use native.Mathlib.Nat.{add-zero, le_refl}
use native.Mathlib.Omega.{arith}
use Rattle.trace.specs.Bytes.{byte, big_endian}

pub two_spell : (l : List ℕ) (from : ℕ) → 256 * byte l from + byte l (from + 1) ≡ big_endian l from 2
unfolding big_endian
two_spell l from = let e : byte l (from + 0) ≡ byte l from = ap (byte l) (add-zero from) in omega arith

-- two pairs of bytes spell what the four spell
pub four_spell : (l : List ℕ) (from : ℕ) → 65536 * big_endian l from 2 + big_endian l (from + 2) 2 ≡ big_endian l from 4
unfolding big_endian
four_spell l from =
    let e : byte l (from + 2 + 0) ≡ byte l (from + 2) = ap (byte l) (add-zero (from + 2)) in
    let d : byte l (from + 2 + 1) ≡ byte l (from + 3) = ap (byte l) (omega arith) in
    omega arith

-- the library spells the same
pub two_read : (l : List ℕ) (from : ℕ) → from_be_bytes w16 (byte l from ∷ byte l (from + 1) ∷ []) ≡ big_endian l from 2
two_read l from = omega (arith, two_spell l from)

pub four_read : (l : List ℕ) (from : ℕ)
    → from_be_bytes w32 (byte l from ∷ byte l (from + 1) ∷ byte l (from + 2) ∷ byte l (from + 3) ∷ []) ≡ big_endian l from 4
unfolding big_endian
four_read l from = let e : byte l (from + 0) ≡ byte l from = ap (byte l) (add-zero from) in omega arith

-- each byte is below 256
pub two_lt : (l : List ℕ) (from : ℕ) → ((i : ℕ) → byte l i < 256) → big_endian l from 2 < 65536
unfolding big_endian
two_lt l from small = omega (arith, small (from + 0), small (from + 1))

pub four_lt : (l : List ℕ) (from : ℕ) → ((i : ℕ) → byte l i < 256) → big_endian l from 4 < 4294967296
four_lt l from small = omega (arith, four_spell l from, two_lt l from small, two_lt l (from + 2) small)

-- two bytes can be read off the number that they spell
pub two_inj : (x y : List ℕ) (from : ℕ) → ((i : ℕ) → byte x i < 256) → ((i : ℕ) → byte y i < 256) → big_endian x from 2 ≡ big_endian y from 2
    → (byte x from ≡ byte y from) × (byte x (from + 1) ≡ byte y (from + 1))
unfolding big_endian
two_inj x y from xs ys e =
    let a : byte x (from + 0) ≡ byte x from = ap (byte x) (add-zero from) in
    let b : byte y (from + 0) ≡ byte y from = ap (byte y) (add-zero from) in
    (omega (arith, xs (from + 1), ys (from + 1)), omega (arith, xs (from + 1), ys (from + 1)))

-- the number goes by its bytes
pub spell_ext : (x y : List ℕ) (from n : ℕ) → ((i : ℕ) → i < n → byte x (from + i) ≡ byte y (from + i)) → big_endian x from n
    ≡ big_endian y from n
unfolding big_endian
spell_ext x y from zero same = refl
spell_ext x y from (suc n) same =
    ap₂ (λ (a b : ℕ). 256 * a + b) (spell_ext x y from n (λ i h. same i (omega arith))) (same n (le_refl (suc n)))
