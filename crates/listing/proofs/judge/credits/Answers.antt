-- A port whose line is not printable spoils them all.
-- Assumes nothing.
use Rattle.std.proofs.Common.{◌∙◌, sym, ap}
use Rattle.listing.specs.Lines.{printable}
use Rattle.listing.proofs.Ports.{printable_stops, one_credit}
use Rattle.listing.proofs.judge.credits.Goals as goal

pub returns-then-not-credit : goal.returns-then-not-credit
returns-then-not-credit c =
    let a = c.args in
    let i = c.loop-input.input in
    sym (printable_stops _ i 8 c.loop-input-test.true
    (ap printable (one_credit a.cycle a.reply i _ c.in-Some.is) ∙ sym c.credit.ensures ∙ c.if-not-credit.true))
