-- `state::packets::reads` meets its contract: the reading that is left is the whole reading, over the queue and then over the wire.
-- Assumes nothing.
use Rattle.std.proofs.Common.{rules, arith, sym, ap, ◌∙◌, ℕ, ◌+◌, ◌*◌, ◌≤◌, ◌<◌}
use Rattle.base.specs.declared.config.Config.{Config}
use Rattle.base.specs.Sizes.{Bounds}
use Rattle.state.specs.Views.{wire_of}
use Rattle.state.specs.Sound.{ends_as, reads}
use Rattle.state.proofs.Reading.{judging_all, judging_fails, judging_next, judging_done, queue_starts, queue_fails, queue_next}
use Rattle.state.proofs.Reading.{wire_starts, wire_passes, wire_fails, wire_next, wire_ends}
use Rattle.state.proofs.Tests.{and_no, and_yes, and_none}
use Rattle.state.proofs.Clauses.{base_fits}
use Rattle.state.proofs.packets.reads.Goals as goal

-- the channel's slots stand in the store
slots : {c : Config} {i v q : ℕ} → Bounds 0 c × (i < c.ports) × (v < c.vcs) × (q ≤ 16) → 16 * (i * c.vcs + v) + 16 ≤ 512
slots p = base_fits _ _ _ p.0 p.1 p.2

pub loop-k-init : goal.loop-k-init
loop-k-init c = (rw c.starts_inside-inside.ensures (queue_starts _ _ _ _ _ c.requires.3), judging_all _ _ _ _ c.requires.3)

pub returns-then-not-is_legal : goal.returns-then-not-is_legal
unfolding wire_of reads
returns-then-not-is_legal c =
    and_no _ _ (sym (judging_fails _ _ _ _ c.loop-k.k (search rules) (omega (arith, slots c.requires)) (search rules) c.loop-k.invariant.1))

pub returns-then-not-may_come : goal.returns-then-not-may_come
unfolding wire_of reads
returns-then-not-may_come c =
    and_none _ _ (sym (ap (ends_as c.args.input.opened)
    (queue_fails _ _ _ _ _ _ c.loop-k.k (search rules) (omega (arith, slots c.requires)) (search rules) c.loop-k.invariant.0)))

pub loop-k-preserved : goal.loop-k-preserved
loop-k-preserved c = (
  rw (c.stays_open-inside.ensures, c.kind-kind.ensures)
      (queue_next _ _ _ _ _ _ c.loop-k.k (search rules) (omega (arith, slots c.requires)) (search rules) c.loop-k.invariant.0),
  judging_next _ _ _ _ c.loop-k.k (search rules) (omega (arith, slots c.requires)) (search rules) c.loop-k.invariant.1,
)

pub loop-j-init : goal.loop-j-init
loop-j-init c =
    let r = c.args.router.now in
    wire_starts r.config.forward r.wire c.args.i c.args.v _ _ _ _ _ c.loop-k.k (search rules) c.loop-k.invariant.0

pub loop-j-preserved-then-not-is_on : goal.loop-j-preserved-then-not-is_on
loop-j-preserved-then-not-is_on c =
    let r = c.args.router.now in
    wire_passes r.config.forward r.wire c.args.i c.args.v _ _ c.loop-j.j (search rules) (search rules) c.loop-j.invariant

pub returns-then-not-may_come-2 : goal.returns-then-not-may_come-2
unfolding wire_of reads
returns-then-not-may_come-2 c =
    let r = c.args.router.now in
    and_none _ _ (sym (ap (ends_as c.args.input.opened)
    (wire_fails r.config.forward r.wire c.args.i c.args.v _ _ c.loop-j.j (search rules) (search rules) (search rules) c.loop-j.invariant)))

pub loop-j-preserved : goal.loop-j-preserved
loop-j-preserved c =
    let r = c.args.router.now in
    rw (c.stays_open-inside-in-loop-j.ensures, c.kind-kind-in-loop-j.ensures)
    (wire_next r.config.forward r.wire c.args.i c.args.v _ _ c.loop-j.j (search rules) (search rules) (search rules) c.loop-j.invariant)

pub returns : goal.returns
unfolding wire_of reads
returns c =
    let r = c.args.router.now in
    ap (ends_as c.args.input.opened) (wire_ends r.config.forward r.wire c.args.i c.args.v _ _ c.loop-j.j (search rules) c.loop-j.invariant)
    ∙ and_yes _ _ (sym (judging_done _ _ _ _ c.loop-k.k (search rules) c.loop-k.invariant.1))
