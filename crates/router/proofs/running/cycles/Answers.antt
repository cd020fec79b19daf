-- `router::running::cycles` meets its contract: cycle after cycle, until one is refused.
-- Assumes nothing.
use mathlib.Core.Path.{◌≡◌, refl, sym, ap, subst, ◌∙◌}
use mathlib.Core.List.{List}
use Prim.Native.Nat.{ℕ, ◌+◌, ◌-◌, ◌*◌}
use native.Mathlib.Nat.{sub-zero}
use native.Mathlib.Omega.{arith}
use borrow.Author.Rules.{rules}
use Rattle.trace.specs.Cycles.{Slice, slice_of}
use Rattle.trace.specs.Blocks.{part_at}
use Rattle.router.specs.Running.{cycled, cycles_from}
use Rattle.router.specs.Inside.{GoesOn, writing_of}
use Rattle.router.proofs.Going.{cycled_goes_on, piece_bytes}
use Rattle.router.proofs.Cycling.{part_shown, cycles_over, cycles_none, cycles_more}
use Rattle.router.proofs.running.cycles.Goals as goal
use Rattle.router.proofs.running.cycles.Goals.{After-cycle_part-part}

pub loop-k-init : goal.loop-k-init
loop-k-init c = (
  ap (λ (n : ℕ). cycles_from c.args.block.now 0 n
      (writing_of c.args.config c.args.before c.args.store.now
      c.args.wire.now c.args.home.now c.args.out.now))
      (sub-zero c.args.held),
  c.requires.0,
  refl,
)

pub returns-then-run : goal.returns-then-run
returns-then-run c =
    sym (cycles_over _ c.loop-k.k (c.args.held - c.loop-k.k) _
    c.if-run.true) ∙ c.loop-k.invariant.0

pub cycle-run-requires : goal.cycle-run-requires
cycle-run-requires c = c.loop-k.invariant.1

-- the part that was shown is cycle k's
shown : (c : After-cycle_part-part) → c.cycle_part-part.result.now
    ≡ part_at c.args.block.now c.loop-k.k
shown c =
    ap (λ (s : Slice). s.bytes) c.cycle_part-part.ensures ∙ part_shown (slice_of c.args.block) c.loop-k.k c.requires.1
    c.requires.2 (let h = c.requires.3 in omega (arith, h, c.loop-k-test.true))

pub loop-k-preserved : goal.loop-k-preserved
loop-k-preserved c =
    let w = writing_of c.args.config c.loop-k.run c.loop-k.store c.loop-k.wire c.loop-k.home
    c.loop-k.out in
    let e = c.cycle-run.ensures ∙ ap (λ (part : List ℕ). cycled part w) (shown (goal.at.loop-k-preserved c).After-cycle_part-part) in (
      ap (cycles_from c.args.block.now (c.loop-k.k + 1) (c.args.held - (c.loop-k.k + 1))) e
          ∙ sym (cycles_more c.args.block.now c.loop-k.k c.args.held w c.loop-k-test.true
          c.if-run.false) ∙ c.loop-k.invariant.0,
      subst GoesOn (sym e)
          (cycled_goes_on (part_at c.args.block.now c.loop-k.k)
          (piece_bytes 64 (8 + 64 * c.loop-k.k) c.args.block.now
          (λ i. (c.type_inv.block i).fits)) w c.loop-k.invariant.1),
      (search rules),
    )

pub returns : goal.returns
returns c =
    sym (cycles_none c.args.block.now c.loop-k.k c.args.held _
    (omega arith)) ∙ c.loop-k.invariant.0
