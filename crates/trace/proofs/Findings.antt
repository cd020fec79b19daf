-- What a block is found to be, and what is known of it then.
-- Assumes nothing.
use mathlib.Core.Path.{◌≡◌, refl, sym, ap, ◌∙◌}
use mathlib.Core.Bool.{Bool, true, false, cond, not, ◌&&◌, true≢false}
use mathlib.Core.List.{List}
use Rattle.std.specs.Prelude.{Option, Some, None}
use Prim.Native.Nat.{ℕ, ◌≤◌}
use lib.Dec.{eqb, leb}
use lib.ListN.{length}
use borrow.Author.Tests.{eqb-true, eqb-false}
use Rattle.base.specs.Numbers as numbers
use Rattle.base.specs.Sizes.{illegal_field}
use Rattle.trace.specs.declared.place.Place.{Place}
use Rattle.trace.specs.Blocks.{kind_of, held_of, config_of, block_numbers}
use Rattle.trace.specs.Place.{can_hold, without_cycles, cycle_blocks, good_place}
use Rattle.trace.specs.Rules.{place_unsound, block_short, check_wrong, block_wrong, field_wrong}
use Rattle.trace.specs.declared.judging.Answer.{Answer}
use Rattle.trace.specs.declared.judging.Found.TheVariants as found
use Rattle.trace.specs.Judged.{accepted, refused, next_place, read_of, taken}
use Rattle.trace.specs.Judged.{judged_by_field, judged}
use Rattle.trace.proofs.Formed.{Formed, formed_is}
use Rattle.trace.proofs.Passing.{sound_good, whole_long}
use Rattle.trace.proofs.Ways.{form_right}

module _ (p : Place) (c : ℕ) (l : List ℕ) where
  pub data FoundAs : Answer → Type 0 where
    refuses : (n k : ℕ) → FoundAs (refused n k p)
    configures : p.configured ≡ false → illegal_field (config_of l) ≡ None → eqb (kind_of l) 2 ≡ false
        → FoundAs (accepted (found.Configuration (config_of l)) (next_place p l))
    holds : p.configured ≡ true → 512 ≤ length l → held_of l ≤ 7 → eqb (kind_of l) 2 ≡ true
        → FoundAs (accepted (found.Cycles (held_of l)) (next_place p l))
    ends : p.configured ≡ true → eqb (kind_of l) 2 ≡ false → FoundAs (accepted found.End (next_place p l))
    is_over : p.configured ≡ true → FoundAs (accepted found.Done p)

  module _ (e : p.ended ≡ false) (whole : block_short p l ≡ false) (f : Formed p c l) (legal : field_wrong p l ≡ None) where
    -- a configuration block's values are in range
    configuration_legal-law : eqb (kind_of l) 1 ≡ true → illegal_field (config_of l) ≡ None
    unfolding field_wrong
    configuration_legal-law k = ap (λ (b : Bool). cond b (illegal_field (config_of l)) None)
        (sym (ap (λ (b : Bool). not b && eqb (kind_of l) 1) e ∙ k)) ∙ legal

    read_as : FoundAs (accepted (read_of l) (next_place p l))
    unfolding read_of
    read_as = first (eqb (kind_of l) 1) refl
      where
        second : (kind_of l ≡ 1 → ⊥) → (b : Bool) → eqb (kind_of l) 2 ≡ b
            → FoundAs (accepted (cond b (found.Cycles (held_of l)) found.End) (next_place p l))
        second n true q = holds (f.follows n) (whole_long p l e whole) (f.held_to (eqb-true (kind_of l) 2 q)) q
        second n false q = ends (f.follows n) q

        first : (b : Bool) → eqb (kind_of l) 1 ≡ b
            → FoundAs (accepted (cond b (found.Configuration (config_of l)) (cond (eqb (kind_of l) 2) (found.Cycles (held_of l)) found.End))
            (next_place p l))
        first true q = configures (f.opens (eqb-true (kind_of l) 1 q)) (configuration_legal-law q)
            (ap (λ (k : ℕ). eqb k 2) (eqb-true (kind_of l) 1 q))
        first false q = second (eqb-false (kind_of l) 1 q) (eqb (kind_of l) 2) refl

  -- the end block comes after the configuration block
  ended_configured : good_place p c ≡ true → p.ended ≡ true → p.configured ≡ true
  unfolding good_place
  ended_configured g e = go p.configured refl
    where
      go : (b : Bool) → p.configured ≡ b → b ≡ true
      go true q = refl
      go false q =
          absurd (true≢false (sym g ∙ ap (λ (b : Bool). cond b
          (leb p.number block_numbers && leb (without_cycles p) p.number && can_hold (cycle_blocks p) c)
          (not p.ended && eqb p.number 0 && eqb c 0)) q
          ∙ ap (λ (b : Bool). not b && eqb p.number 0 && eqb c 0) e))

  taken_as : good_place p c ≡ true → block_short p l ≡ false → block_wrong p c l ≡ false → field_wrong p l ≡ None → FoundAs (taken p l)
  unfolding taken
  taken_as g s w n = go p.ended refl
    where
      go : (b : Bool) → p.ended ≡ b → FoundAs (cond b (accepted found.Done p) (accepted (read_of l) (next_place p l)))
      go true e = is_over (ended_configured g e)
      go false e = read_as e s (formed_is p c l (form_right p c l e w)) n

  pub found_as : FoundAs (judged p c l)
  unfolding judged judged_by_field
  found_as = two (place_unsound p c) refl
    where
      one : good_place p c ≡ true → block_short p l ≡ false → block_wrong p c l ≡ false → (o : Option ℕ) → field_wrong p l ≡ o
          → FoundAs (judged_by_field o p l)
      one g s w (Some k) n = refuses numbers.configuration_wrong k
      one g s w None n = taken_as g s w n

      eight : good_place p c ≡ true → block_short p l ≡ false → (b : Bool) → block_wrong p c l ≡ b
          → FoundAs (cond b (refused numbers.block_wrong 0 p) (judged_by_field (field_wrong p l) p l))
      eight g s true w = refuses numbers.block_wrong 0
      eight g s false w = one g s w (field_wrong p l) refl

      seven : good_place p c ≡ true → block_short p l ≡ false → (b : Bool)
          → FoundAs (cond b (refused numbers.check_wrong 0 p) (cond (block_wrong p c l) (refused numbers.block_wrong 0 p)
          (judged_by_field (field_wrong p l) p l)))
      seven g s true = refuses numbers.check_wrong 0
      seven g s false = eight g s (block_wrong p c l) refl

      nine : good_place p c ≡ true → (b : Bool) → block_short p l ≡ b
          → FoundAs (cond b (refused numbers.block_short 0 p)
          (cond (check_wrong p l) (refused numbers.check_wrong 0 p)
          (cond (block_wrong p c l) (refused numbers.block_wrong 0 p) (judged_by_field (field_wrong p l) p l))))
      nine g true s = refuses numbers.block_short 0
      nine g false s = seven g s (check_wrong p l)

      two : (b : Bool) → place_unsound p c ≡ b
          → FoundAs (cond b (refused numbers.not_sound 0 p)
          (cond (block_short p l) (refused numbers.block_short 0 p)
          (cond (check_wrong p l) (refused numbers.check_wrong 0 p)
          (cond (block_wrong p c l) (refused numbers.block_wrong 0 p) (judged_by_field (field_wrong p l) p l)))))
      two true q = refuses numbers.not_sound 0
      two false q = nine (sound_good p c q) (block_short p l) refl
