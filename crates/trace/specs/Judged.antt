-- What judging a block gives back: "Order. Block: 9, 7, 8, then 1", and 2 before all; else what was read.
-- Assumes nothing.
use Rattle.std.specs.Prelude.{true, false, cond, List, ℕ, ◌+◌, eqb}
use Rattle.std.specs.Prelude.{Option, Some, None, Ok}
use Rattle.base.specs.Numbers as numbers
use Rattle.base.specs.Refusal.{refusing}
use Rattle.trace.specs.declared.place.Place.{Place}
use Rattle.trace.specs.declared.judging.Found.{Found}
use Rattle.trace.specs.declared.judging.Found.TheVariants as found
use Rattle.trace.specs.declared.judging.Answer.{Answer}
use Rattle.trace.specs.Blocks.{kind_of, configuration, cycles, end, held_of, config_of}
use Rattle.trace.specs.Rules.{place_unsound, block_short, check_wrong, block_wrong, field_wrong}

abbrev pub accepted : Found → Place → Answer
accepted r p = record { place = p; found = Ok r }

-- "a refused block leaves the reading place"
abbrev pub refused : ℕ → ℕ → Place → Answer
refused n k p = record { place = p; found = refusing n k }

-- the place after a block: one block more, the configuration was read, and the end where it was the end block
abbrev pub next_place : Place → List ℕ → Place
next_place p block = record { number = p.number + 1; configured = true; ended = eqb (kind_of block) end }

-- the same, by what was found
abbrev pub place_after : Place → Found → Place
place_after p (found.Configuration k) = record { number = p.number + 1; configured = true; ended = false }
place_after p (found.Cycles n) = record { number = p.number + 1; configured = true; ended = false }
place_after p found.End = record { number = p.number + 1; configured = true; ended = true }
place_after p found.Done = p

-- what a block before the end block holds, by its kind
unfoldable pub read_of : List ℕ → Found
read_of block =
    cond (eqb (kind_of block) configuration) (found.Configuration (config_of block))
    (cond (eqb (kind_of block) cycles) (found.Cycles (held_of block)) found.End)

-- the answer where no rule refuses the block
unfoldable pub taken : Place → List ℕ → Answer
taken p block = cond p.ended (accepted found.Done p) (accepted (read_of block) (next_place p block))

-- the answer by the rule of 1: refused with the field, if there is one
unfoldable pub judged_by_field : Option ℕ → Place → List ℕ → Answer
judged_by_field (Some k) p block = refused numbers.configuration_wrong k p
judged_by_field None p block = taken p block

-- "Order. Block: 9, 7, 8, then 1." A place that no file leads to is refused before all else.
unfoldable pub judged : Place → ℕ → List ℕ → Answer
judged p c block =
    cond (place_unsound p c) (refused numbers.not_sound 0 p)
    (cond (block_short p block) (refused numbers.block_short 0 p)
    (cond (check_wrong p block) (refused numbers.check_wrong 0 p)
    (cond (block_wrong p c block) (refused numbers.block_wrong 0 p) (judged_by_field (field_wrong p block) p block))))
