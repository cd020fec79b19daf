-- Numbers as text (01, the list), each byte an ASCII code.
-- Assumes nothing.
use Rattle.std.specs.Prelude.{Bool, true, false, cond, List, [], ◌∷◌, ◌++◌, ℕ, zero, suc, ◌+◌, ◌/◌, ◌%◌, ltb}

-- a digit below 16: `0` to `9`, then `a` to `f`
unfoldable pub glyph : ℕ → ℕ
glyph d = cond (ltb d 10) (48 + d) (87 + d)

-- nothing, or where the test fails the digits that f gives
abbrev pub unless : Bool → (Unit {0} → List ℕ) → List ℕ
unless true f = []
unless false f = f tt

-- the digits of a number that has at most k: the last one, and before it those of n / 10, unless n is below 10
unfoldable pub decimal_within : ℕ → ℕ → List ℕ
decimal_within zero n = []
decimal_within (suc k) n = unless (ltb n 10) (λ u. decimal_within k (n / 10)) ++ (glyph (n % 10) ∷ [])

-- "decimal without leading zeros": no number n has more than n + 1 digits
unfoldable pub decimal : ℕ → List ℕ
decimal n = decimal_within (suc n) n

-- the last k digits of n in base b, zeros in front
unfoldable pub last_digits : ℕ → ℕ → ℕ → List ℕ
last_digits b zero n = []
last_digits b (suc k) n = last_digits b k (n / b) ++ (glyph (n % b) ∷ [])

-- "eight lower-case hex digits"
unfoldable pub hex : ℕ → List ℕ
hex n = last_digits 16 8 n
