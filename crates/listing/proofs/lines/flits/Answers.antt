-- The lines of the ports passed are laid.
-- Assumes nothing.
use Rattle.std.proofs.Common.{◌∙◌, sym, ap, arith}
use Rattle.listing.specs.Lines.{printable}
use Rattle.listing.proofs.Laying.{ports_none, ports_same, ports_line}
use Rattle.listing.proofs.Ports.{printable_at, no_flit, one_flit}
use Rattle.listing.proofs.lines.flits.Goals as goal
use Rattle.listing.proofs.lines.flits.Goals.{in-Some, in_default}

pub loop-output-init : goal.loop-output-init
loop-output-init c = record { laid = ports_none _ _ _; short = omega arith }

pub flit-at-requires : goal.flit-at-requires
flit-at-requires c =
    let one = one_flit c.args.cycle.now.number c.args.reply _ _ c.in-Some.is in
    (sym (ap printable one) ∙ printable_at _ _ 8 c.loop-output-test.true c.requires.0, omega arith)

pub loop-output-preserved : goal.loop-output-preserved
loop-output-preserved c =
    let a = c.args in
    let so_far = c.loop-output.invariant in
    elim c.match-reply-output.branch [
      | in-Some w ↦ rw (w.out-is, w.at-is)
          (record {
            laid = ports_line _ _ _ (one_flit a.cycle.now.number a.reply _ _ w.in-Some.is) so_far.laid w.flit-at.ensures.0;
            short = omega arith;
          })
      | in_default w ↦ rw (w.out-is, w.at-is)
          (record { laid = ports_same _ _ (no_flit a.cycle.now.number a.reply _ w.in_default.is) so_far.laid; short = omega arith })
    ]
