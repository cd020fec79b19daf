-- `edges::writer::rooms` meets its contract: computed.
-- Assumes nothing.
use mathlib.Core.Path.{refl}
use Rattle.base.specs.Flit.{letter_of}
use Rattle.base.specs.Sizes.{in_range}
use Rattle.listing.specs.Digits.{glyph, decimal_within, decimal}
use Rattle.listing.specs.Lines.{values_of, all_in_range, printable, spaced, print, text}
use Rattle.listing.specs.Writing.{lacks_room, put, written}
use Rattle.edges.proofs.writer.rooms.Goals as goal

pub room_at-requires : goal.room_at-requires
unfolding in_range values_of all_in_range printable letter_of glyph decimal_within decimal spaced print text lacks_room put written
room_at-requires c = (refl, refl)

pub room_at-requires-2 : goal.room_at-requires-2
unfolding in_range values_of all_in_range printable letter_of glyph decimal_within decimal spaced print text lacks_room put written
room_at-requires-2 c = (refl, refl)

pub room_at-requires-3 : goal.room_at-requires-3
unfolding in_range values_of all_in_range printable letter_of glyph decimal_within decimal spaced print text lacks_room put written
room_at-requires-3 c = (refl, refl)

pub room_at-requires-4 : goal.room_at-requires-4
unfolding in_range values_of all_in_range printable letter_of glyph decimal_within decimal spaced print text lacks_room put written
room_at-requires-4 c = (refl, refl)

pub room_at-requires-5 : goal.room_at-requires-5
unfolding in_range values_of all_in_range printable letter_of glyph decimal_within decimal spaced print text lacks_room put written
room_at-requires-5 c = (refl, refl)
