-- "Byte 0 kind (1 configuration, 2 cycles, 3 end)" (01, blocks), as the judge names it.
-- Assumes nothing.
use Rattle.std.specs.Prelude.{cond, List, ℕ, eqb, Option, Some, None}
use Rattle.trace.specs.declared.form.Kind.{Kind}
use Rattle.trace.specs.declared.form.Kind.TheVariants as kind
use Rattle.trace.specs.declared.place.Place.{Place}
use Rattle.trace.specs.Blocks.{kind_of, configuration, cycles, end}
use Rattle.trace.specs.Rules.{form_wrong}

-- the kind of a number, if it is one
unfoldable pub kind_named : ℕ → Option Kind
kind_named n =
    cond (eqb n configuration) (Some kind.Configuration) (cond (eqb n cycles) (Some kind.Cycles) (cond (eqb n end) (Some kind.End) None))

-- the kind of a block, before the end block, that the rule of 8 does not refuse
unfoldable pub kind_if_right : Place → ℕ → List ℕ → Option Kind
kind_if_right p c block = cond (form_wrong p c block) None (kind_named (kind_of block))
