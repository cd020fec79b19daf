-- Each number comes exactly when its rule holds and no number earlier in the order does: 2, 9, 7, 8, then 1; and a block is accepted
-- exactly when no rule holds.
-- Assumes nothing.
use mathlib.Core.Path.{◌≡◌, refl, sym, ap, subst, ◌∙◌}
use mathlib.Core.Logic.{◌↔◌}
use mathlib.Core.Bool.{Bool, true, false, cond}
use mathlib.Core.List.{List}
use Rattle.std.specs.Prelude.{Option, Some, None}
use Prim.Native.Nat.{ℕ}
use Rattle.base.specs.Numbers as numbers
use Rattle.base.specs.Refusal.{refusing, number_of, place_of}
use Rattle.trace.specs.declared.place.Place.{Place}
use Rattle.trace.specs.Rules.{place_unsound, block_short, check_wrong, block_wrong, field_wrong}
use Rattle.trace.specs.declared.judging.Answer.{Answer}
use Rattle.trace.specs.declared.judging.Found.TheVariants as found
use Rattle.trace.specs.Judged.{read_of, next_place, accepted, refused, taken, judged_by_field, judged}

-- what no number before 1 refuses
pub record Passes (p : Place) (c : ℕ) (l : List ℕ) : Type 0 where
  pub sound : place_unsound p c ≡ false
  pub whole : block_short p l ≡ false
  pub checked : check_wrong p l ≡ false
  pub formed : block_wrong p c l ≡ false

-- the first rule that holds, by the number that it gives
data First (p : Place) (c : ℕ) (l : List ℕ) : ℕ → Type 0 where
  is2 : place_unsound p c ≡ true → First p c l numbers.not_sound
  is9 : place_unsound p c ≡ false → block_short p l ≡ true → First p c l numbers.block_short
  is7 : place_unsound p c ≡ false → block_short p l ≡ false → check_wrong p l ≡ true → First p c l numbers.check_wrong
  is8 : place_unsound p c ≡ false → block_short p l ≡ false → check_wrong p l ≡ false → block_wrong p c l ≡ true
      → First p c l numbers.block_wrong
  is1 : Passes p c l → (k : ℕ) → field_wrong p l ≡ Some k → First p c l numbers.configuration_wrong
  is0 : Passes p c l → field_wrong p l ≡ None → First p c l numbers.done

module _ (p : Place) (c : ℕ) (l : List ℕ) where
  by2 : place_unsound p c ≡ true → judged p c l ≡ refused numbers.not_sound 0 p
  unfolding judged
  by2 a = rw a

  by9 : place_unsound p c ≡ false → block_short p l ≡ true → judged p c l ≡ refused numbers.block_short 0 p
  unfolding judged
  by9 a b = rw (a, b)

  by7 : place_unsound p c ≡ false → block_short p l ≡ false → check_wrong p l ≡ true → judged p c l ≡ refused numbers.check_wrong 0 p
  unfolding judged
  by7 a b d = rw (a, b, d)

  by8 : place_unsound p c ≡ false → block_short p l ≡ false → check_wrong p l ≡ false → block_wrong p c l ≡ true
      → judged p c l ≡ refused numbers.block_wrong 0 p
  unfolding judged
  by8 a b d e = rw (a, b, d, e)

  by1 : Passes p c l → (k : ℕ) → field_wrong p l ≡ Some k → judged p c l ≡ refused numbers.configuration_wrong k p
  unfolding judged judged_by_field
  by1 q k f = rw (q.sound, q.whole, q.checked, q.formed, f)

  by0 : Passes p c l → field_wrong p l ≡ None → judged p c l ≡ taken p l
  unfolding judged judged_by_field
  by0 q f = rw (q.sound, q.whole, q.checked, q.formed, f)

  taken_number : number_of (taken p l).found ≡ 0
  unfolding taken
  taken_number = go p.ended
    where
      go : (b : Bool) → number_of (cond b (accepted found.Done p) (accepted (read_of l) (next_place p l))).found ≡ 0
      go true = refl
      go false = refl

  number : {o : Answer} → judged p c l ≡ o → number_of (judged p c l).found ≡ number_of o.found
  number q = ap (λ (o : Answer). number_of o.found) q

  field : {o : Answer} → judged p c l ≡ o → place_of (judged p c l).found ≡ place_of o.found
  field q = ap (λ (o : Answer). place_of o.found) q

  -- the number given is that of the first rule that holds
  first : First p c l (number_of (judged p c l).found)
  first = two (place_unsound p c) refl
    where
      it : {n : ℕ} → number_of (judged p c l).found ≡ n → First p c l n → First p c l (number_of (judged p c l).found)
      it e f = subst (First p c l) (sym e) f

      last : Passes p c l → (f : Option ℕ) → field_wrong p l ≡ f → First p c l (number_of (judged p c l).found)
      last q (Some k) e = it (number (by1 q k e)) (is1 q k e)
      last q None e = it (number (by0 q e) ∙ taken_number) (is0 q e)

      eight : place_unsound p c ≡ false → block_short p l ≡ false → check_wrong p l ≡ false → (b : Bool) → block_wrong p c l ≡ b
          → First p c l (number_of (judged p c l).found)
      eight a d g true e = it (number (by8 a d g e)) (is8 a d g e)
      eight a d g false e = last (record { sound = a; whole = d; checked = g; formed = e }) (field_wrong p l) refl

      seven : place_unsound p c ≡ false → block_short p l ≡ false → (b : Bool) → check_wrong p l ≡ b
          → First p c l (number_of (judged p c l).found)
      seven a d true e = it (number (by7 a d e)) (is7 a d e)
      seven a d false e = eight a d e (block_wrong p c l) refl

      nine : place_unsound p c ≡ false → (b : Bool) → block_short p l ≡ b → First p c l (number_of (judged p c l).found)
      nine a true e = it (number (by9 a e)) (is9 a e)
      nine a false e = seven a e (check_wrong p l) refl

      two : (b : Bool) → place_unsound p c ≡ b → First p c l (number_of (judged p c l).found)
      two true e = it (number (by2 e)) (is2 e)
      two false e = nine e (block_short p l) refl

  rule : (n : ℕ) → number_of (judged p c l).found ≡ n → First p c l n
  rule n e = subst (First p c l) e first

  -- 2, "state not sound"
  pub two_exactly : (number_of (judged p c l).found ≡ numbers.not_sound) ↔ (place_unsound p c ≡ true)
  two_exactly = (λ e. go (rule 2 e), λ a. number (by2 a))
    where
      go : First p c l 2 → place_unsound p c ≡ true
      go (is2 a) = a

  -- 9, "fewer than 512 bytes in a block, or input ends before the end block"
  pub nine_exactly : (number_of (judged p c l).found ≡ numbers.block_short) ↔ ((place_unsound p c ≡ false) × (block_short p l ≡ true))
  nine_exactly = (λ e. go (rule 9 e), λ r. number (by9 r.0 r.1))
    where
      go : First p c l 9 → (place_unsound p c ≡ false) × (block_short p l ≡ true)
      go (is9 a b) = (a, b)

  -- 7, "block check wrong"
  pub seven_exactly : (number_of (judged p c l).found ≡ numbers.check_wrong)
      ↔ ((place_unsound p c ≡ false) × (block_short p l ≡ false) × (check_wrong p l ≡ true))
  seven_exactly = (λ e. go (rule 7 e), λ r. number (by7 r.0 r.1 r.2))
    where
      go : First p c l 7 → (place_unsound p c ≡ false) × (block_short p l ≡ false) × (check_wrong p l ≡ true)
      go (is7 a b d) = (a, b, d)

  -- 8, "block kind, number, count, unused byte, place in the file, or end total wrong"
  pub eight_exactly : (number_of (judged p c l).found ≡ numbers.block_wrong)
      ↔ ((place_unsound p c ≡ false) × (block_short p l ≡ false) × (check_wrong p l ≡ false) × (block_wrong p c l ≡ true))
  eight_exactly = (λ e. go (rule 8 e), λ r. number (by8 r.0 r.1 r.2 r.3))
    where
      go : First p c l 8 → (place_unsound p c ≡ false) × (block_short p l ≡ false) × (check_wrong p l ≡ false) × (block_wrong p c l ≡ true)
      go (is8 a b d e) = (a, b, d, e)

  -- 1, "configuration value out of range; the first such field, 1..7"
  pub one_exactly : (k : ℕ) → ((number_of (judged p c l).found ≡ numbers.configuration_wrong) × (place_of (judged p c l).found ≡ k)) ↔
      (Passes p c l × (field_wrong p l ≡ Some k))
  one_exactly k = (λ r. go (rule 1 r.0) r.1, λ r. let q = by1 r.0 k r.1 in (number q, field q))
    where
      go : First p c l 1 → place_of (judged p c l).found ≡ k → Passes p c l × (field_wrong p l ≡ Some k)
      go (is1 s j f) e = (s, f ∙ ap Some (sym (field (by1 s j f)) ∙ e))

  -- 0: accepted
  pub accepted_exactly : (number_of (judged p c l).found ≡ numbers.done) ↔ (Passes p c l × (field_wrong p l ≡ None))
  accepted_exactly = (λ e. go (rule 0 e), λ r. number (by0 r.0 r.1) ∙ taken_number)
    where
      go : First p c l 0 → Passes p c l × (field_wrong p l ≡ None)
      go (is0 s f) = (s, f)

  -- what an accepted block gives
  pub accepted_taken : number_of (judged p c l).found ≡ numbers.done → judged p c l ≡ taken p l
  accepted_taken e = let r = accepted_exactly.0 e in by0 r.0 r.1

  -- the place is as it was, and the answer is a refusal
  abbrev pub StaysRefused : Type 0
  StaysRefused =
      ((judged p c l).place ≡ p)
      × ((judged p c l).found ≡ refusing (number_of (judged p c l).found) (place_of (judged p c l).found))

  -- "a refused block leaves the reading place", and nothing is read
  pub refused_stays : (number_of (judged p c l).found ≡ numbers.done → ⊥) → StaysRefused
  refused_stays refusal = go (number_of (judged p c l).found) refl first
    where
      stays : (n k : ℕ) → judged p c l ≡ refused n k p → StaysRefused
      stays n k q = (
        ap (λ (o : Answer). o.place) q,
        ap (λ (o : Answer). o.found) q ∙ sym (ap (λ (o : Answer). refusing (number_of o.found) (place_of o.found)) q),
      )

      go : (n : ℕ) → number_of (judged p c l).found ≡ n → First p c l n → StaysRefused
      go _ e (is2 a) = stays 2 0 (by2 a)
      go _ e (is9 a b) = stays 9 0 (by9 a b)
      go _ e (is7 a b d) = stays 7 0 (by7 a b d)
      go _ e (is8 a b d f) = stays 8 0 (by8 a b d f)
      go _ e (is1 s k f) = stays 1 k (by1 s k f)
      go _ e (is0 s f) = absurd (refusal e)
