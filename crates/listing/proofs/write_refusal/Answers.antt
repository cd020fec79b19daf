-- What the two tests found, and what the line came to.
-- Assumes nothing.
use Rattle.std.proofs.Common.{sym}
use Rattle.std.proofs.lemmas.Result.{err_from_is_err_and}
use Rattle.listing.proofs.Ports.{text_one}
use Rattle.listing.proofs.Stores.{laid_as}
use Rattle.listing.proofs.Lengths.{refusal_length}
use Rattle.listing.proofs.Outcomes.{written_nothing, written_lines}
use Rattle.listing.proofs.write_refusal.Goals as goal

pub returns-in_err-allowed : goal.returns-in_err-allowed
returns-in_err-allowed c =
    let p = err_from_is_err_and c.from_residual.result c.from_residual.ensures.1 in
    rw (p.1, p.2) (written_nothing _ _ _ _ _ c.refusal.ensures c.in_err-allowed.ensures)

pub returns : goal.returns
returns c =
    written_lines _ _ _ _ _ _ c.refusal.ensures c.in_ok-allowed.ensures (λ ok. rw text_one (refusal_length _ _ _ ok))
    (laid_as c.refusal-2.ensures (sym (text_one _)))
