-- A set as a word, one number at a time.
-- Assumes nothing.
use Rattle.std.proofs.Common.{◌≡◌, refl, ◌∙◌, Bool, true, false, ℕ, ◌+◌, ◌*◌, ◌%◌, ◌^◌, ◌<◌, cond, bit_or, arith, add-one}
use native.Mathlib.Nat.{le_refl}
use Rattle.std.proofs.lemmas.Nat.{or_disjoint}
use Rattle.base.specs.Bits.{word_of}
use Rattle.base.proofs.Bits.{and_clear, bit_high, word_lt, shl_one}

-- nobody yet
pub word_none : (s : ℕ → Bool) → 0 ≡ word_of s 0
unfolding word_of
word_none s = refl

next : (s : ℕ → Bool) (n : ℕ) → word_of s (n + 1) ≡ word_of s n + cond (s n) (2 ^ n) 0
unfolding word_of
next s n = rw add-one

-- one that is not in the set
pub word_without : (s : ℕ → Bool) (n w : ℕ) → w ≡ word_of s n → s n ≡ false → w ≡ word_of s (n + 1)
word_without s n w e f = rw (next s n, f) (omega arith)

-- `| 1 << n`: one that is
pub word_with : (s : ℕ → Bool) (n w : ℕ) → w ≡ word_of s n → n < 32 → s n ≡ true → bit_or w (1 * 2 ^ n % 4294967296) ≡ word_of s (n + 1)
word_with s n w e h f =
    rw (e, shl_one 32 n h)
    (or_disjoint (word_of s n) (2 ^ n) (and_clear (word_of s n) n (bit_high n (word_of s n) n (word_lt s n) (le_refl n)))
    ∙ rw (next s n, f))

-- one more number, either way
pub ruleset words = (word_none, word_without, word_with)
