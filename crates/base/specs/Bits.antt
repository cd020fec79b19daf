-- A set of small numbers as a word: i is in the set when bit i of the word is 1.
-- Assumes nothing.
use Rattle.std.specs.Prelude.{Bool, cond, ℕ, zero, suc, ◌+◌, ◌/◌, ◌%◌, ◌^◌, eqb}

-- bit i of the word x
unfoldable pub bit : ℕ → ℕ → Bool
bit x i = eqb (x / 2 ^ i % 2) 1

-- the word whose bits below n are those of the set, and which has no other
unfoldable pub word_of : (ℕ → Bool) → ℕ → ℕ
word_of set zero = 0
word_of set (suc n) = word_of set n + cond (set n) (2 ^ n) 0

-- the word x with bit w set
unfoldable pub with_bit : ℕ → ℕ → ℕ
with_bit w x = cond (bit x w) x (x + 2 ^ w)
