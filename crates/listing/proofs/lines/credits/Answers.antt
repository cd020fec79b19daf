-- The lines of the ports passed are laid.
-- Assumes nothing.
use Rattle.std.proofs.Common.{◌∙◌, sym, ap, arith}
use Rattle.listing.specs.Lines.{printable}
use Rattle.listing.proofs.Laying.{ports_none, ports_same, ports_line}
use Rattle.listing.proofs.Ports.{printable_at, no_credit, one_credit}
use Rattle.listing.proofs.lines.credits.Goals as goal
use Rattle.listing.proofs.lines.credits.Goals.{in-Some, in_default}

pub loop-input-init : goal.loop-input-init
loop-input-init c = record { laid = ports_none _ _ _; short = omega arith }

pub credit-at-requires : goal.credit-at-requires
credit-at-requires c =
    let one = one_credit c.args.cycle.now.number c.args.reply _ _ c.in-Some.is in
    (sym (ap printable one) ∙ printable_at _ _ 8 c.loop-input-test.true c.requires.0, omega arith)

pub loop-input-preserved : goal.loop-input-preserved
loop-input-preserved c =
    let a = c.args in
    let so_far = c.loop-input.invariant in
    elim c.match-reply-input.branch [
      | in-Some w ↦ rw (w.out-is, w.at-is)
          (record {
            laid = ports_line _ _ _ (one_credit a.cycle.now.number a.reply _ _ w.in-Some.is) so_far.laid w.credit-at.ensures.0;
            short = omega arith;
          })
      | in_default w ↦ rw (w.out-is, w.at-is)
          (record { laid = ports_same _ _ (no_credit a.cycle.now.number a.reply _ w.in_default.is) so_far.laid; short = omega arith })
    ]
