-- `router::running::cycle` meets its contract: stepped, and its lines written.
-- Assumes nothing.
use mathlib.Core.Path.{◌∙◌}
use native.Mathlib.Omega.{arith}
use Rattle.listing.specs.Lines.{cycle_lines}
use Rattle.listing.proofs.Lengths.{cycle_length-law}
use Rattle.router.proofs.Cycling.{refused_run, accepted_run}
use Rattle.router.proofs.Writes.{place_fits}
use Rattle.state.proofs.Legal.{sound_cycle}
use Rattle.router.proofs.running.cycle.Goals as goal

pub inner_step-done-requires : goal.inner_step-done-requires
inner_step-done-requires c = c.requires.sound

pub refuse-requires : goal.refuse-requires
refuse-requires c = c.requires.room

pub returns-in-Err : goal.returns-in-Err
returns-in-Err c =
    c.refuse.ensures c.args.config _ _ _
    ∙ refused_run c.args.config c.args.before c.args.store.now c.args.wire.now
    c.args.home.now c.args.out.now c.args.part.now _ _ _ _ _ _ _ c.inner_step-done.ensures _
    c.in-Err.is

pub overflow_add-result : goal.overflow_add-result
overflow_add-result c =
    let g = c.requires in
    let l = sound_cycle c.requires.sound in
    let f = g.few in
    record { fits = omega (arith, l, f, c.flits_of.ensures.few) }

pub overflow_add-result-2 : goal.overflow_add-result-2
overflow_add-result-2 c =
    let l = place_fits c.args.out.now c.args.before.at
    (cycle_lines c.args.before.cycle c.inner_step-done.result.reply) c.write_cycle.result _
    c.size-bytes.result c.write_cycle.ensures c.size-bytes.ensures
    (cycle_length-law c.args.before.cycle c.inner_step-done.result.reply) c.requires.room in
    record { fits = omega (arith, l) }

pub returns : goal.returns
returns c =
    accepted_run c.args.config c.args.before c.args.store.now c.args.wire.now c.args.home.now
    c.args.out.now c.args.part.now _ _ _ _ _ _ _ c.inner_step-done.ensures
    c.in_default.is c.write_cycle.result _ c.size-bytes.result
    c.flits_of.result c.write_cycle.ensures c.size-bytes.ensures
    (c.flits_of.ensures.lines c.args.before.cycle)
