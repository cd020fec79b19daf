-- `edges::writer::credits` meets its contract: computed.
-- Assumes nothing.
use mathlib.Core.Path.{refl}
use Rattle.base.specs.Flit.{letter_of}
use Rattle.base.specs.Sizes.{in_range}
use Rattle.listing.specs.Digits.{glyph, decimal_within, decimal}
use Rattle.listing.specs.Lines.{values_of, all_in_range, printable, spaced, print, text}
use Rattle.listing.specs.Writing.{lacks_room, put, written}
use Rattle.listing.specs.Lines.{by_port, credit_line, flit_line, cycle_lines}
use Rattle.edges.proofs.Answering.{computed}
use Rattle.edges.proofs.writer.credits.Goals as goal

pub cycle_line-requires : goal.cycle_line-requires
unfolding in_range values_of all_in_range printable letter_of glyph decimal_within decimal spaced print text lacks_room put written
    by_port credit_line flit_line cycle_lines
cycle_line-requires c = computed _ _ _ refl refl refl refl refl

pub cycle_line-requires-2 : goal.cycle_line-requires-2
unfolding in_range values_of all_in_range printable letter_of glyph decimal_within decimal spaced print text lacks_room put written
    by_port credit_line flit_line cycle_lines
cycle_line-requires-2 c = computed _ _ _ refl refl refl refl refl

pub cycle_line-requires-3 : goal.cycle_line-requires-3
unfolding in_range values_of all_in_range printable letter_of glyph decimal_within decimal spaced print text lacks_room put written
    by_port credit_line flit_line cycle_lines
cycle_line-requires-3 c = computed _ _ _ refl refl refl refl refl
