-- Round robin by the trailing zeros of words: what the code finds is the next in turn.
-- Assumes nothing.
use mathlib.Core.Path.{◌≡◌, sym, ap, subst, ◌∙◌}
use mathlib.Core.Bool.{true, false}
use Rattle.std.specs.Prelude.{Some, None}
use Prim.Native.Nat.{ℕ, ◌+◌, ◌-◌, ◌/◌, ◌%◌, ◌^◌, ◌≤◌, ◌<◌}
use native.Mathlib.Nat.{lt_of_le_of_lt, lt_of_lt_of_le, mod_self, mod-lt, mod-eq_of_lt, one-mul, div-lt_iff_lt-mul}
use native.Mathlib.Omega.{arith}
use lib.Arith.{lt_of_le-ne}
use lib.Count.{count_trailing_zeros}
use lib.Pow.{pow_pos, pow_mono, shr_le}
use Rattle.base.specs.Bits.{bit}
use Rattle.base.specs.Search.{or_else}
use Rattle.base.proofs.Bits.{bit_zero, bit_shr, bit_below}
use Rattle.base.proofs.Search.{First, first_at, first_none, trailing_first}
use Rattle.arbiter.specs.RoundRobin.{next_in_turn, pointer_after}

-- a word's bits from p on, read off the word shifted by p
shifted_bit : (x p j : ℕ) → p ≤ j → bit x j ≡ bit (x / 2 ^ p) (j - p)
shifted_bit x p j h = let e : p + (j - p) ≡ j = omega arith in ap (bit x) (sym e) ∙ sym (bit_shr x p (j - p))

module _ (n asking p : ℕ) (w : n ≤ 32) (q : p < n) (h : asking < 2 ^ n) where
  fits : asking < 2 ^ 32
  fits = lt_of_lt_of_le h (pow_mono w)

  -- somebody asks at or after the pointer
  pub found_after : 0 < asking / 2 ^ p → First (bit asking) (n - p) p (p + count_trailing_zeros 32 (asking / 2 ^ p))
  found_after Some-after =
      let f = trailing_first 32 (asking / 2 ^ p) (lt_of_le_of_lt (shr_le asking p) fits) Some-after in
      let t = count_trailing_zeros 32 (asking / 2 ^ p) in
      let there : bit asking (p + t) ≡ true = sym (bit_shr asking p t) ∙ f.passes in
      let low : p + t < n = bit_below n asking (p + t) h there in
      record {
        from = omega arith;
        below = omega arith;
        passes = there;
        before = λ j l g. shifted_bit asking p j l ∙ f.before (j - p) (omega arith) (omega arith);
      }

  pub turn_after : 0 < asking / 2 ^ p → Some (p + count_trailing_zeros 32 (asking / 2 ^ p)) ≡ next_in_turn n (bit asking) p
  unfolding next_in_turn or_else
  turn_after Some-after = rw (first_at (bit asking) (n - p) p (p + count_trailing_zeros 32 (asking / 2 ^ p)) (found_after Some-after))

  none_after : asking / 2 ^ p ≡ 0 → (j : ℕ) → p ≤ j → bit asking j ≡ false
  none_after e j l = shifted_bit asking p j l ∙ ap (λ (x : ℕ). bit x (j - p)) e ∙ bit_zero (j - p)

  -- somebody asks, but only before the pointer
  pub turn_before : asking / 2 ^ p ≡ 0 → 0 < asking → Some (count_trailing_zeros 32 asking) ≡ next_in_turn n (bit asking) p
  unfolding next_in_turn or_else
  turn_before e some-before =
      let f = trailing_first 32 asking fits some-before in
      let t = count_trailing_zeros 32 asking in
      let below : asking < 2 ^ p = subst (λ (m : ℕ). asking < m) (one-mul (2 ^ p)) ((div-lt_iff_lt-mul (pow_pos p)).0 (omega arith)) in
      let low : t < p = bit_below p asking t below f.passes in
      rw (first_none (bit asking) (n - p) p (λ j l g. none_after e j l))
      (sym (first_at (bit asking) p 0 t (record { from = omega arith; below = omega arith; passes = f.passes; before = f.before })))

  -- nobody asks
  pub turn_nobody : asking ≡ 0 → None ≡ next_in_turn n (bit asking) p
  unfolding next_in_turn or_else
  turn_nobody e =
      let off : (j : ℕ) → bit asking j ≡ false = λ j. ap (λ (x : ℕ). bit x j) e ∙ bit_zero j in
      rw (first_none (bit asking) (n - p) p (λ j l g. off j), first_none (bit asking) p 0 (λ j l g. off j))

-- the pointer after a win
pub next_wraps : (n w : ℕ) → w + 1 ≡ n → 0 ≡ pointer_after n w
unfolding pointer_after
next_wraps n w e = sym (ap (λ (x : ℕ). x % n) e ∙ mod_self n)

pub next_moves : (n w : ℕ) → w < n → (w + 1 ≡ n → ⊥) → w + 1 ≡ pointer_after n w
unfolding pointer_after
next_moves n w h d = sym (mod-eq_of_lt (lt_of_le-ne (omega arith) d))

pub pointer_after-law : (n w : ℕ) → 1 ≤ n → pointer_after n w < n
unfolding pointer_after
pointer_after-law n w h = mod-lt (w + 1) h
