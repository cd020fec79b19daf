-- The place of an answer goes by what was found.
-- Assumes nothing.
use Rattle.std.specs.Prelude.{◌≡◌, Bool, true, false, cond, List, ℕ, ◌+◌, ◌≤◌, eqb, Ok, Err}
use Rattle.std.proofs.Common.{refl, sym, ap, ◌∙◌, subst, arith}
use borrow.Author.Tests.{eqb-true, eqb-false, eq-eqb, ne_eqb}
use Rattle.base.specs.Numbers as numbers
use Rattle.base.specs.Refusal.{number_of}
use Rattle.base.specs.declared.refusal.Refusal.{Refusal}
use Rattle.trace.specs.declared.place.Place.{Place}
use Rattle.trace.specs.declared.judging.Answer.{Answer}
use Rattle.trace.specs.declared.judging.Found.{Found}
use Rattle.trace.specs.declared.judging.Found.TheVariants as found
use Rattle.trace.specs.Blocks.{kind_of, held_of, config_of, block_numbers}
use Rattle.trace.specs.Rules.{block_wrong}
use Rattle.trace.specs.Judged.{accepted, next_place, place_after, read_of, taken, judged}
use Rattle.trace.proofs.Exactness.{accepted_exactly, accepted_taken}
use Rattle.trace.proofs.Findings.{FoundAs, refuses, configures, holds, ends, is_over, found_as}
use Rattle.trace.proofs.Formed.{Formed, formed_is}
use Rattle.trace.proofs.Passing.{sound_good}
use Rattle.trace.proofs.Places.{good_number}
use Rattle.trace.proofs.Ways.{form_right}

module _ (p : Place) (c : ℕ) (l : List ℕ) where
  passed : Bool → Place
  passed b = record { number = p.number + 1; configured = true; ended = b }

  -- before the end block
  read_after : Formed p c l → next_place p l ≡ place_after p (read_of l)
  unfolding read_of passed
  read_after f = first (eqb (kind_of l) 1) refl
    where
      second : (kind_of l ≡ 1 → ⊥) → (b : Bool) → eqb (kind_of l) 2 ≡ b
          → next_place p l ≡ place_after p (cond b (found.Cycles (held_of l)) found.End)
      second n true q = ap passed (ne_eqb (kind_of l) 3 (λ e. absurd (omega (arith, eqb-true (kind_of l) 2 q))))
      second n false q = ap passed (eq-eqb (kind_of l) 3 (last f.kind_from f.kind_to n (eqb-false (kind_of l) 2 q)))
        where
          last : 1 ≤ kind_of l → kind_of l ≤ 3 → (kind_of l ≡ 1 → ⊥) → (kind_of l ≡ 2 → ⊥) → kind_of l ≡ 3
          last a b d h = omega arith

      first : (b : Bool) → eqb (kind_of l) 1 ≡ b
          → next_place p l
          ≡ place_after p (cond b (found.Configuration (config_of l)) (cond (eqb (kind_of l) 2) (found.Cycles (held_of l)) found.End))
      first true q = ap passed (ne_eqb (kind_of l) 3 (λ e. absurd (omega (arith, eqb-true (kind_of l) 1 q))))
      first false q = second (eqb-false (kind_of l) 1 q) (eqb (kind_of l) 2) refl

  taken_after : block_wrong p c l ≡ false → (f : Found) → (taken p l).found ≡ Ok f → (taken p l).place ≡ place_after p f
  unfolding taken
  taken_after w f = go p.ended refl
    where
      go : (b : Bool) → p.ended ≡ b → (cond b (accepted found.Done p) (accepted (read_of l) (next_place p l))).found ≡ Ok f
          → (cond b (accepted found.Done p) (accepted (read_of l) (next_place p l))).place ≡ place_after p f
      go true e q = let same : found.Done ≡ f = cc in ap (place_after p) same
      go false e q =
          let same : read_of l ≡ f = cc in
          read_after (formed_is p c l (form_right p c l e w)) ∙ ap (place_after p) same

  module _ (f : Found) (e : (judged p c l).found ≡ Ok f) where
    done : number_of (judged p c l).found ≡ numbers.done
    done = ap number_of e

    -- so that one block more does not wrap
    pub found_number : p.number ≤ block_numbers
    found_number = good_number p c (sound_good p c ((accepted_exactly p c l).0 done).0.sound)

    pub found_after : (judged p c l).place ≡ place_after p f
    found_after =
        subst (λ (o : Answer). o.found ≡ Ok f → o.place ≡ place_after p f) (sym (accepted_taken p c l done))
        (taken_after ((accepted_exactly p c l).0 done).0.formed f) e

  pub refused_after : (r : Refusal) → (judged p c l).found ≡ Err r → (judged p c l).place ≡ p
  refused_after r = go (judged p c l) (found_as p c l)
    where
      go : (o : Answer) → FoundAs p c l o → o.found ≡ Err r → o.place ≡ p
      go _ (refuses n k) e = refl
      go _ (configures o k d) e = cc
      go _ (holds o k h d) e = cc
      go _ (ends o d) e = cc
      go _ (is_over o) e = refl
