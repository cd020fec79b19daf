-- `reader::next_cycle` meets its contract: the part that `cycle_part` shows says whether there is a cycle.
-- Assumes nothing.
use Rattle.std.proofs.Common.{sym, ◌∙◌, arith}
use borrow.Author.Tests.{eqb-true, eqb-false}
use Rattle.trace.proofs.Parts.{shown_below_7}
use Rattle.reader.proofs.Walking.{no_byte_stays, some_byte_shown, shown_moves}
use Rattle.reader.proofs.next_cycle.Goals as goal

pub returns-then-is_empty : goal.returns-then-is_empty
returns-then-is_empty c =
    sym (no_byte_stays _ _ _ c.cycle_part.ensures (eqb-true _ 0 (sym c.is_empty.ensures ∙ c.if-is_empty.true)))

pub overflow_add-result : goal.overflow_add-result
overflow_add-result c =
    let shown = some_byte_shown _ _ _ c.cycle_part.ensures (eqb-false _ 0 (sym c.is_empty.ensures ∙ c.if-is_empty.false)) in
    omega (arith, shown_below_7 _ _ shown)

pub returns : goal.returns
returns c =
    let shown = some_byte_shown _ _ _ c.cycle_part.ensures (eqb-false _ 0 (sym c.is_empty.ensures ∙ c.if-is_empty.false)) in
    sym (shown_moves _ _ shown)
