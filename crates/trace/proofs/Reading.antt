-- What a block before the end block holds, where no rule before 1 refuses it.
-- Assumes nothing.
use mathlib.Core.Path.{◌≡◌}
use mathlib.Core.Bool.{false}
use mathlib.Core.List.{List}
use Rattle.std.specs.Prelude.{Some, None}
use Prim.Native.Nat.{ℕ}
use borrow.Author.Tests.{eq-eqb, ne_eqb}
use Rattle.base.specs.Sizes.{illegal_field}
use Rattle.base.specs.Numbers as numbers
use Rattle.trace.specs.declared.place.Place.{Place}
use Rattle.trace.specs.Blocks.{kind_of, held_of, config_of}
use Rattle.trace.specs.Rules.{field_wrong}
use Rattle.trace.specs.declared.judging.Found.TheVariants as found
use Rattle.trace.specs.Judged.{accepted, refused, next_place, read_of, taken, judged_by_field}

module _ (p : Place) (l : List ℕ) (before : p.ended ≡ false) where
  -- a configuration value out of range
  pub read_illegal : (k : ℕ) → kind_of l ≡ 1 → illegal_field (config_of l) ≡ Some k → refused numbers.configuration_wrong k p
      ≡ judged_by_field (field_wrong p l) p l
  unfolding field_wrong judged_by_field
  read_illegal k e f = rw (before, eq-eqb (kind_of l) 1 e, f)

  -- a legal configuration
  pub read_configuration : kind_of l ≡ 1 → illegal_field (config_of l) ≡ None
      → accepted (found.Configuration (config_of l)) (next_place p l) ≡ judged_by_field (field_wrong p l) p l
  unfolding field_wrong judged_by_field taken read_of
  read_configuration e f = rw (before, eq-eqb (kind_of l) 1 e, f, eq-eqb (kind_of l) 1 e)

  -- cycles
  pub read_cycles : (kind_of l ≡ 1 → ⊥) → kind_of l ≡ 2
      → accepted (found.Cycles (held_of l)) (next_place p l) ≡ judged_by_field (field_wrong p l) p l
  unfolding field_wrong judged_by_field taken read_of
  read_cycles d e = rw (before, ne_eqb (kind_of l) 1 d, ne_eqb (kind_of l) 1 d, eq-eqb (kind_of l) 2 e)

  -- the end block
  pub read_end : (kind_of l ≡ 1 → ⊥) → (kind_of l ≡ 2 → ⊥) → accepted found.End (next_place p l) ≡ judged_by_field (field_wrong p l) p l
  unfolding field_wrong judged_by_field taken read_of
  read_end d e = rw (before, ne_eqb (kind_of l) 1 d, ne_eqb (kind_of l) 1 d, ne_eqb (kind_of l) 2 e)
