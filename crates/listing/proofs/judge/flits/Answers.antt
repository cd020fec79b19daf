-- A port whose line is not printable spoils them all.
-- Assumes nothing.
use Rattle.std.proofs.Common.{◌∙◌, sym, ap}
use Rattle.listing.specs.Lines.{printable}
use Rattle.listing.proofs.Ports.{printable_stops, one_flit}
use Rattle.listing.proofs.judge.flits.Goals as goal

pub returns-then-not-flit : goal.returns-then-not-flit
returns-then-not-flit c =
    let a = c.args in
    let i = c.loop-output.output in
    sym (printable_stops _ i 8 c.loop-output-test.true
    (ap printable (one_flit a.cycle a.reply i _ c.in-Some.is) ∙ sym c.flit.ensures ∙ c.if-not-flit.true))
