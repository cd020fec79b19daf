-- `edges::writer::longest` meets its contract: computed.
-- Assumes nothing.
use mathlib.Core.Path.{◌≡◌, refl, ◌∙◌}
use borrow.Author.Tests.{eq-eqb}
use lib.ListN.{replicate}
use Rattle.base.specs.Flit.{letter_of}
use Rattle.base.specs.Sizes.{in_range}
use Rattle.listing.specs.Digits.{glyph, decimal_within, decimal, last_digits, hex}
use Rattle.listing.specs.Lines.{values_of, all_in_range, printable, spaced, print, text, by_port, credit_line, flit_line, cycle_lines}
use Rattle.listing.specs.Writing.{WriteOutcome, lacks_room, put, written}
use Rattle.edges.specs.Answers.{full_reply}
use Rattle.edges.proofs.Answering.{number_is, bytes_is}
use Rattle.edges.proofs.writer.longest.Goals as goal

abbrev outcome : WriteOutcome
outcome = written (replicate 376 0) 0 (cycle_lines 999999999 full_reply)

number : outcome.number ≡ 0
unfolding in_range values_of all_in_range printable letter_of glyph decimal_within decimal last_digits hex spaced print text lacks_room put
    written by_port credit_line flit_line cycle_lines
number = refl

count : outcome.bytes ≡ 376
unfolding in_range values_of all_in_range printable letter_of glyph decimal_within decimal last_digits hex spaced print text lacks_room put
    written by_port credit_line flit_line cycle_lines
count = refl

pub expect-requires : goal.expect-requires
expect-requires c =
    eq-eqb c.number_of.result 0 (c.number_of.ensures ∙ number_is c.write_cycle-written.result _ c.write_cycle-written.ensures
    ∙ rw (c.full.ensures) number)

pub expect-requires-2 : goal.expect-requires-2
expect-requires-2 c =
    eq-eqb c.bytes_of.result 376 (c.bytes_of.ensures ∙ bytes_is c.write_cycle-written.result _ c.write_cycle-written.ensures
    ∙ rw (c.full.ensures) count)
