-- `runs::is_place_right` meets its contract.
-- Assumes nothing.
use mathlib.Core.Path.{sym, ◌∙◌}
use Rattle.runs.proofs.Tests.{place_between, place_over, place_wrong}
use Rattle.runs.proofs.is_place_right.Goals as goal

pub returns-then-is_between : goal.returns-then-is_between
returns-then-is_between c = place_between c.args.place c.args.cycles c.args.over
    (sym c.is_between.ensures ∙ c.if-is_between.true)

pub returns-then-over : goal.returns-then-over
returns-then-over c =
    c.is_inside.ensures ∙ place_over c.args.place c.args.cycles c.args.over
    (sym c.is_between.ensures ∙ c.if-is_between.false) c.if-over.true

pub returns : goal.returns
returns c = place_wrong c.args.place c.args.cycles
    c.args.over (sym c.is_between.ensures ∙ c.if-is_between.false) c.if-over.false
