-- `floor::passing::finish` meets its contract: the end of the input, where it is still to be handed over.
-- Assumes nothing.
use Rattle.std.proofs.Common.{ap, not, ◌∙◌, [], arith}
use Rattle.floor.specs.Handing.{stopped, over, ends}
use Rattle.floor.proofs.Calls.{passes_few}
use Rattle.floor.proofs.passing.finish.Goals as goal
use Rattle.floor.proofs.passing.finish.Goals.{then-is_err-via-then-is_err, then-is_err-via-else-is_err+then-run}

pub returns-then-is_err : goal.returns-then-is_err
returns-then-is_err g c =
    elim c.then-is_err.branch [
      | then-is_err-via-then-is_err w ↦ stopped (c.is_err.ensures.negation ∙ ap not w.if-is_err.true)
      | then-is_err-via-else-is_err+then-run w ↦ over (c.is_err.ensures.negation ∙ ap not w.if-is_err.false) w.if-run.true
    ]

pub overflow_add-result : goal.overflow_add-result
overflow_add-result g c = record { fits = omega (arith, c.requires, passes_few [] _ _ _ _ c.pass-last.ensures) }

pub returns : goal.returns
returns g c =
    ends c.pass-last.result.calls c.pass-last.result.outcome _ (c.is_err.ensures.negation ∙ ap not c.if-is_err.false) c.if-run.false
    c.pass-last.ensures
