-- The matrix choice by words: the search over set bits finds the champion.
-- Assumes nothing.
use mathlib.Core.Path.{◌≡◌, refl, sym, ap, ap₂, ◌∙◌}
use mathlib.Core.Bool.{Bool, true, false, not, ◌&&◌, ◌||◌, and-true, and-false, or-true, or-false}
use mathlib.Core.List.{List}
use Rattle.std.specs.Prelude.{Some, None}
use Prim.Native.Nat.{ℕ, ◌-◌, ◌^◌, ◌≤◌, ◌<◌}
use native.Mathlib.Nat.{lt_of_lt_of_le, lt_of_le_of_lt}
use native.Mathlib.Omega.{arith}
use lib.Bits.{bit_and, bit_or, or_lt, and_le_l}
use lib.Count.{count_trailing_zeros}
use lib.Dec.{eqb}
use lib.ListN.{get_or}
use lib.Pow.{pow_mono, pow-lt}
use borrow.Author.Tests.{eqb-true}
use Rattle.base.specs.Bits.{bit}
use Rattle.base.specs.Search.{first_from}
use Rattle.base.proofs.Bits.{bit_ext, bit_and-law, bit_or-law, bit_pow, bit_below, bit_le, bit_take, bit_zero}
use Rattle.base.proofs.Search.{First, both, every_at, all_every, first_at, first_none, first_ext, trailing_first}
use Rattle.arbiter.specs.Matrix.{beats, beats_every_other, champion}

-- the test of the code: row i and i itself cover all that ask
unfoldable pub covered : ℕ → List ℕ → ℕ → ℕ
covered asking rows i = bit_or (bit_and asking (get_or rows i 0)) (2 ^ i)

covered_bit : (asking : ℕ) (rows : List ℕ) (i j : ℕ) → bit (covered asking rows i) j ≡ (bit asking j && beats rows i j || eqb j i)
unfolding covered beats
covered_bit asking rows i j =
    bit_or-law (bit_and asking (get_or rows i 0)) (2 ^ i) j ∙ ap₂ ◌||◌ (bit_and-law asking (get_or rows i 0) j) (bit_pow i j)

module _ (n asking : ℕ) (rows : List ℕ) (i : ℕ) (h : asking < 2 ^ n) (asks : bit asking i ≡ true) where
  pub covers_beats : covered asking rows i ≡ asking → beats_every_other n (bit asking) rows i ≡ true
  unfolding beats_every_other
  covers_beats e =
      all_every n (λ (j : ℕ). not (bit asking j) || eqb j i || beats rows i j)
      (λ j l. go (bit asking j) (eqb j i) (beats rows i j) (sym (covered_bit asking rows i j) ∙ ap (λ (x : ℕ). bit x j) e))
    where
      go : (a q b : Bool) → (a && b || q) ≡ a → (not a || q || b) ≡ true
      go true true b p = refl
      go true false b p = sym (or-false b) ∙ p
      go false q b p = refl

  pub beats_covers : beats_every_other n (bit asking) rows i ≡ true → covered asking rows i ≡ asking
  unfolding beats_every_other covered
  beats_covers e =
      bit_ext n (covered asking rows i) asking low h
      (λ j l. covered_bit asking rows i j ∙ go j (eqb j i) refl (bit asking j) refl (every_at n _ e j l))
    where
      low : covered asking rows i < 2 ^ n
      low =
          or_lt n (bit_and asking (get_or rows i 0)) (2 ^ i) (lt_of_le_of_lt (and_le_l asking (get_or rows i 0)) h)
          (pow-lt (bit_below n asking i h asks))

      go : (j : ℕ) (q : Bool) → eqb j i ≡ q → (a : Bool) → bit asking j ≡ a → (not a || q || beats rows i j) ≡ true
          → (a && beats rows i j || q) ≡ a
      go j true f a g p = or-true (a && beats rows i j) ∙ sym asks ∙ ap (bit asking) (sym (eqb-true j i f)) ∙ g
      go j false f true g p = or-false (beats rows i j) ∙ p
      go j false f false g p = refl

-- the search over the set bits, with `left` still to be tried
pub record Trying (n asking : ℕ) (rows : List ℕ) (left : ℕ) : Type 0 where
  pub low : left < 2 ^ n
  pub among : (j : ℕ) → bit left j ≡ true → bit asking j ≡ true
  pub rest : first_from (λ (j : ℕ). bit left j && beats_every_other n (bit asking) rows j) n 0 ≡ champion n (bit asking) rows

pub trying_all : (n asking : ℕ) (rows : List ℕ) → asking < 2 ^ n → Trying n asking rows asking
unfolding champion
trying_all n asking rows h = record { low = h; among = λ j p. p; rest = refl }

module _ (n asking : ℕ) (rows : List ℕ) (left : ℕ) (w : n ≤ 32) (h : asking < 2 ^ n) (t : Trying n asking rows left) (some_left : 0 < left)
  where
    pub trying_first : First (bit left) 32 0 (count_trailing_zeros 32 left)
    trying_first = trailing_first 32 left (lt_of_lt_of_le t.low (pow_mono w)) some_left

    pub trying_below : count_trailing_zeros 32 left < n
    trying_below = bit_below n left (count_trailing_zeros 32 left) t.low trying_first.passes

    pub trying_own : 2 ^ count_trailing_zeros 32 left ≤ left
    trying_own = bit_le left (count_trailing_zeros 32 left) trying_first.passes

    asks : bit asking (count_trailing_zeros 32 left) ≡ true
    asks = t.among (count_trailing_zeros 32 left) trying_first.passes

    pub trying_wins : covered asking rows (count_trailing_zeros 32 left) ≡ asking → Some (count_trailing_zeros 32 left) ≡ champion n (bit asking) rows
    trying_wins e =
        sym (first_at (λ (j : ℕ). bit left j && beats_every_other n (bit asking) rows j) n 0 (count_trailing_zeros 32 left)
        (record {
          from = omega arith;
          below = let l = trying_below in omega arith;
          passes = ap₂ ◌&&◌ trying_first.passes (covers_beats n asking rows (count_trailing_zeros 32 left) h asks e);
          before = λ j l g. ap (λ (b : Bool). b && beats_every_other n (bit asking) rows j) (trying_first.before j l g);
        })) ∙ t.rest

    pub trying_less : (covered asking rows (count_trailing_zeros 32 left) ≡ asking → ⊥) → Trying n asking rows (left - 2 ^ count_trailing_zeros 32 left)
    trying_less d =
        record {
          low = lt_of_le_of_lt (omega arith) t.low;
          among = λ j p. t.among j (both (bit left j) (not (eqb j i)) (sym (bit_take left i j trying_first.passes) ∙ p)).0;
          rest = first_ext _ _ n 0 (λ j l g. same j (eqb j i) refl) ∙ t.rest;
        }
      where
        i : ℕ
        i = count_trailing_zeros 32 left

        loses : (b : Bool) → beats_every_other n (bit asking) rows i ≡ b → b ≡ false
        loses true e = absurd (d (beats_covers n asking rows i h asks e))
        loses false e = refl

        same : (j : ℕ) (q : Bool) → eqb j i ≡ q
            → (bit (left - 2 ^ i) j && beats_every_other n (bit asking) rows j) ≡ (bit left j && beats_every_other n (bit asking) rows j)
        same j true e =
            let j≡i : j ≡ i = eqb-true j i e in
            let lost : beats_every_other n (bit asking) rows j ≡ false =
            ap (beats_every_other n (bit asking) rows) j≡i ∙ loses (beats_every_other n (bit asking) rows i) refl in
            ap (λ (b : Bool). bit (left - 2 ^ i) j && b) lost ∙ and-false (bit (left - 2 ^ i) j)
            ∙ sym (ap (λ (b : Bool). bit left j && b) lost ∙ and-false (bit left j))
        same j false e =
            ap (λ (b : Bool). b && beats_every_other n (bit asking) rows j)
            (bit_take left i j trying_first.passes ∙ ap (λ (b : Bool). bit left j && not b) e ∙ and-true (bit left j))

pub trying_none : (n asking : ℕ) (rows : List ℕ) (left : ℕ) → Trying n asking rows left → left ≡ 0 → None ≡ champion n (bit asking) rows
trying_none n asking rows left t e =
    sym (first_none (λ (j : ℕ). bit left j && beats_every_other n (bit asking) rows j) n 0
    (λ j l g. ap (λ (b : Bool). b && beats_every_other n (bit asking) rows j) (ap (λ (x : ℕ). bit x j) e ∙ bit_zero j))) ∙ t.rest
