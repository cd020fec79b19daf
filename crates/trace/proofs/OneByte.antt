-- One byte changed is noticed. 65,521 is prime, so it divides no product of a weight, at most 510, and a byte's change, at most 255; and a
-- change of the stored check itself shows as it is compared as a value.
-- Assumes nothing.
use mathlib.Core.Path.{◌≡◌, refl, sym, ap, ◌∙◌}
use mathlib.Core.Bool.{Bool, true, false, not, ◌||◌, true≢false}
use mathlib.Core.List.{List}
use Prim.Native.Nat.{ℕ, ◌+◌, ◌*◌, ◌-◌, ◌%◌, ◌≤◌, ◌<◌}
use native.Mathlib.Nat.{mul-add, mul-mod_left, mul-le-mul, mul-le-mul_right, mul-pos}
use native.Mathlib.Omega.{arith}
use lib.Arith.{lt_of_le-ne}
use lib.Dec.{eqb, leb, ltb}
use lib.ListN.{length}
use borrow.Author.Tests.{eqb-true, eqb-false, ltb-true, ltb-false, leb-true, leb-false, eq-eqb}
use Rattle.base.specs.Search.{every}
use Rattle.base.proofs.Search.{every_at}
use Rattle.base.specs.Numbers as numbers
use Rattle.trace.specs.declared.place.Place.{Place}
use Rattle.trace.specs.Bytes.{byte, AreBytes, big_endian}
use Rattle.trace.specs.Changed.{ChangedAt, PassesCheck}
use Rattle.trace.specs.Check.{sum, weighed, check_value, check_holds}
use Rattle.trace.specs.Place.{good_place}
use Rattle.trace.specs.Judged.{refused, judged}
use Rattle.trace.proofs.Order.{judged_check}
use Rattle.trace.proofs.Passing.{passes_good, passes_whole, passes_check}
use Rattle.trace.proofs.Spelling.{spell_ext, two_inj}
use Rattle.trace.proofs.Sums.{sum_ext, sum_change}

-- d is too small for a product of 65,521, or does not divide it
no_factor : ℕ → Bool
no_factor d = ltb (510 * d) 65521 || not (eqb (65521 % d) 0)

no_factors : every 256 no_factor ≡ true
unfolding every no_factor
no_factors = refl

-- no weight times a byte's change is 65,521
no_product : (w d : ℕ) → w ≤ 510 → d < 256 → w * d ≡ 65521 → ⊥
unfolding no_factor
no_product w d h g e = go (ltb (510 * d) 65521) refl (every_at 256 no_factor no_factors d g)
  where
    go : (b : Bool) → ltb (510 * d) 65521 ≡ b → (b || not (eqb (65521 % d) 0)) ≡ true → ⊥
    go true q r = let l = ltb-true (510 * d) 65521 q in let m = mul-le-mul_right d h in omega arith
    go false q r = true≢false (sym r ∙ ap not (eq-eqb (65521 % d) 0 (ap (λ (n : ℕ). n % d) (sym e) ∙ mul-mod_left w d)))

-- two sums that differ by a weight times a byte's change do not agree modulo 65,521
apart : (s t w a b : ℕ) → 0 < w → w ≤ 510 → a < b → b < 256 → s + w * b ≡ t + w * a → s % 65521 ≡ t % 65521 → ⊥
apart s t w a b p h l g e same =
    let d = b - a in
    let split : w * b ≡ w * a + w * d = ap (λ (n : ℕ). w * n) (omega arith) ∙ mul-add w a d in
    let small : d ≤ 255 = omega arith in
    let most : w * d ≤ 510 * 255 = mul-le-mul h small in
    let some : 0 < w * d = mul-pos p (omega arith) in
    no_product w d h (omega arith) (omega arith)

module _ (x y : List ℕ) (k : ℕ) (xs : AreBytes x) (ys : AreBytes y) (change : ChangedAt k x y) where
  both_hold : check_holds x ≡ true → check_holds y ≡ true → ⊥
  unfolding check_holds check_value
  both_hold e d = at (leb 510 k) refl
    where
      ex : sum 510 (weighed x) % 65521 ≡ big_endian x 510 2
      ex = eqb-true (sum 510 (weighed x) % 65521) (big_endian x 510 2) e

      ey : sum 510 (weighed y) % 65521 ≡ big_endian y 510 2
      ey = eqb-true (sum 510 (weighed y) % 65521) (big_endian y 510 2) d

      -- a byte of the sum
      summed : k < 510 → ⊥
      summed h = way (ltb (byte x k) (byte y k)) refl
        where
          stored : big_endian x 510 2 ≡ big_endian y 510 2
          stored = spell_ext x y 510 2 (λ i g. change.same (510 + i) (omega arith) (λ q. absurd (omega arith)))

          moved : sum 510 (weighed x) + weighed y k ≡ sum 510 (weighed y) + weighed x k
          moved = sum_change 510 k (weighed x) (weighed y) h (λ i g n. ap (λ (v : ℕ). (i + 1) * v) (change.same i (omega arith) n))

          agree : sum 510 (weighed x) % 65521 ≡ sum 510 (weighed y) % 65521
          agree = ex ∙ stored ∙ sym ey

          way : (b : Bool) → ltb (byte x k) (byte y k) ≡ b → ⊥
          way true q =
              apart (sum 510 (weighed x)) (sum 510 (weighed y)) (k + 1) (byte x k) (byte y k) (omega arith) (omega arith)
              (ltb-true (byte x k) (byte y k) q) (ys k) moved agree
          way false q =
              apart (sum 510 (weighed y)) (sum 510 (weighed x)) (k + 1) (byte y k) (byte x k) (omega arith) (omega arith)
              (lt_of_le-ne (ltb-false (byte x k) (byte y k) q) (λ n. change.differs (sym n))) (xs k) (sym moved) (sym agree)

      -- a byte of the stored check
      kept : 510 ≤ k → ⊥
      kept h = which (eqb k 510) refl
        where
          summed_alike : sum 510 (weighed x) ≡ sum 510 (weighed y)
          summed_alike =
              sum_ext 510 (weighed x) (weighed y) (λ i g. ap (λ (v : ℕ). (i + 1) * v)
              (change.same i (omega arith) (λ q. absurd (omega arith))))

          alike : (byte x 510 ≡ byte y 510) × (byte x 511 ≡ byte y 511)
          alike = two_inj x y 510 xs ys (sym ex ∙ ap (λ (s : ℕ). s % 65521) summed_alike ∙ ey)

          which : (b : Bool) → eqb k 510 ≡ b → ⊥
          which true q =
              let n : k ≡ 510 = eqb-true k 510 q in
              change.differs (ap (byte x) n ∙ alike.0 ∙ sym (ap (byte y) n))
          which false q =
              let n : k ≡ 511 = last change.inside (lt_of_le-ne h (λ r. eqb-false k 510 q (sym r))) in
              change.differs (ap (byte x) n ∙ alike.1 ∙ sym (ap (byte y) n))
            where
              last : k < 512 → 510 < k → k ≡ 511
              last a b = omega arith

      at : (b : Bool) → leb 510 k ≡ b → ⊥
      at true q = kept (leb-true 510 k q)
      at false q = summed (leb-false 510 k q)

  -- the check of the changed block is wrong
  pub changed_fails : check_holds x ≡ true → check_holds y ≡ false
  changed_fails e = go (check_holds y) refl
    where
      go : (b : Bool) → check_holds y ≡ b → b ≡ false
      go true d = absurd (both_hold e d)
      go false d = refl

  -- so that judging it gives 7, at every place before the end block
  pub changed_gives_7 : (p : Place) (c : ℕ) → good_place p c ≡ true → p.ended ≡ false → 512 ≤ length y → check_holds x ≡ true
      → judged p c y ≡ refused numbers.check_wrong 0 p
  changed_gives_7 p c g e h k = judged_check p c y g e h (changed_fails k)

  -- "Any one byte changed, in a block whose check holds, must be noticed.", of the judge alone: a block passes its check at a place
  -- before the end block, that is, judging it there gives none of 2, 9 and 7; then judging the changed block there gives 7
  pub one_byte_noticed : (p : Place) (c : ℕ) → p.ended ≡ false → PassesCheck p c x → length y ≡ length x → judged p c y
      ≡ refused numbers.check_wrong 0 p
  one_byte_noticed p c e pass same =
      let h : 512 ≤ length x = passes_whole p c x e pass in
      changed_gives_7 p c (passes_good p c x pass) e (omega arith) (passes_check p c x e pass)
