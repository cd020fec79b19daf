-- `edges::answers::answered` meets its contract.
-- Assumes nothing.
use mathlib.Core.Path.{◌∙◌}
use Rattle.edges.proofs.Answering.{zero_behind}
use Rattle.edges.proofs.answers.answered.Goals as goal

pub expect-requires-4 : goal.expect-requires-4
expect-requires-4 c =
    let a = c.args in
    c.are_zero.ensures ∙ zero_behind a.written a.buf.now a.number a.line.now c.requires
