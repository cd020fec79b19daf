-- What the two tests found, and what the lines came to.
-- Assumes nothing.
use Rattle.std.proofs.lemmas.Result.{err_from_is_err_and}
use Rattle.listing.proofs.Lengths.{cycle_length-law}
use Rattle.listing.proofs.Outcomes.{written_nothing, written_lines}
use Rattle.listing.proofs.write_cycle.Goals as goal

pub returns-in_err-allowed : goal.returns-in_err-allowed
returns-in_err-allowed c =
    let p = err_from_is_err_and c.from_residual.result c.from_residual.ensures.1 in
    rw (p.1, p.2) (written_nothing _ _ _ _ _ c.cycle.ensures c.in_err-allowed.ensures)

pub returns : goal.returns
returns c =
    let a = c.args in
    written_lines _ _ _ _ _ _ c.cycle.ensures c.in_ok-allowed.ensures (cycle_length-law a.cycle a.reply) c.cycle-2.ensures
