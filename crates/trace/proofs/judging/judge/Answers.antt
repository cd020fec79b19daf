-- `trace::judge` meets its contract.
-- Assumes nothing.
use Rattle.std.proofs.Common.{sym, ◌∙◌}
use Rattle.trace.proofs.After.{found_number, found_after, refused_after}
use Rattle.trace.proofs.judging.judge.Goals as goal

pub after-place-requires : goal.after-place-requires
after-place-requires c = found_number c.args.place c.args.cycles c.args.block.now c.in-Ok.found (sym c.read-found.ensures ∙ c.in-Ok.is)

pub returns-in-Ok : goal.returns-in-Ok
returns-in-Ok c =
    let found = sym c.read-found.ensures ∙ c.in-Ok.is in
    let place = c.after-place.ensures ∙ sym (found_after c.args.place c.args.cycles c.args.block.now c.in-Ok.found found) in
    λ i. record { place = place i; found = sym found i }

pub returns-in-Err : goal.returns-in-Err
returns-in-Err c =
    let found = sym c.read-found.ensures ∙ c.in-Err.is in
    let place = sym (refused_after c.args.place c.args.cycles c.args.block.now c.in-Err.field-0 found) in
    λ i. record { place = place i; found = c.read-found.ensures i }
