-- `router::blocks::blocks` meets its contract: block after block, until the part is used up, the run is over or the room is too little.
-- Assumes nothing.
use mathlib.Core.Path.{◌≡◌, refl, sym, ap, ap₂, subst, ◌∙◌}
use mathlib.Core.Bool.{true}
use mathlib.Core.List.{List}
use Prim.Native.Nat.{ℕ, ◌+◌, ◌-◌}
use native.Mathlib.Omega.{arith}
use borrow.Author.Rules.{rules}
use borrow.Author.Tests.{not-true, not-false}
use Rattle.router.specs.Running.{Writing, block_at, block_taken, Call, going_on}
use Rattle.router.specs.Inside.{GoesOn, writing_of}
use Rattle.router.proofs.Going.{piece_bytes, block_goes_on}
use Rattle.router.proofs.Onward.{goes_none, goes_over, goes_full, goes_more, piece_is}
use Rattle.router.proofs.Rooms.{full, roomy}
use Rattle.router.proofs.blocks.blocks.Goals as goal
use Rattle.router.proofs.blocks.blocks.Goals.{At-each}

-- the call so far
abbrev sofar : At-each → Call
sofar c =
    record {
      used = c.each.from;
      asks = 0;
      writing = writing_of c.args.config c.each.run c.each.store c.each.wire c.each.home c.each.out;
    }

pub each-init : goal.each-init
each-init c =
    let all : c.args.count - 0 ≡ c.args.count = omega arith in (
      c.requires.1,
      ap (λ (n : ℕ). going_on c.args.part.now n (record {
        used = c.args.first;
        asks = 0;
        writing = writing_of c.args.config c.args.before c.args.store.now c.args.wire.now c.args.home.now c.args.out.now;
      })) all,
      c.requires.0,
      refl,
    )

pub returns-then-run : goal.returns-then-run
returns-then-run c =
    sym (goes_over c.args.part.now (c.args.count - c.each.counter)
    (sofar (goal.at.returns-then-run c).At-each) c.if-run.true) ∙ c.each.invariant.1

pub returns-then-not-has_room : goal.returns-then-not-has_room
returns-then-not-has_room c =
    sym (goes_full c.args.part.now (c.args.count - c.each.counter) (sofar (goal.at.returns-then-not-has_room c).At-each) (omega (arith, c.each-test.true))
    c.if-run.false
    (full _ _ (not-false _ (sym c.has_room.ensures ∙ c.if-not-has_room.true))))
    ∙ c.each.invariant.1

pub block_end-end-requires : goal.block_end-end-requires
block_end-end-requires c = c.each.invariant.0

pub block-run-requires : goal.block-run-requires
block-run-requires c =
    let o = c.each.invariant.2 c.if-run.false in
    (o.1, o.0)

-- one block more
pub each-preserved : goal.each-preserved
each-preserved c =
    let part = c.args.part.now in
    let w = (sofar (goal.at.each-preserved c).At-each).writing in
    let o = c.each.invariant.2 c.if-run.false in
    let f = c.block-run.ensures ∙ ap (λ (block : List ℕ). block_taken block w)
    (piece_is part c.each.from c.block_end-end.result c.block_end-end.ensures.after) in (
      c.block_end-end.ensures.inside,
      ap₂ (λ (used : ℕ) (v : Writing). going_on part (c.args.count - (c.each.counter + 1))
          (record { used = used; asks = 0; writing = v })) c.block_end-end.ensures.after f ∙ goes_more part (c.args.count - c.each.counter) (c.args.count - (c.each.counter + 1)) (sofar
          (goal.at.each-preserved c).At-each)
          (omega (arith, c.each-test.true)) c.if-run.false (roomy _ _ (not-true _ (sym c.has_room.ensures ∙ c.if-not-has_room.false)))
          ∙ c.each.invariant.1,
      λ _. subst (λ (v : Writing). GoesOn v × (v.run.place.configured ≡ true)) (sym f)
          (block_goes_on (block_at part c.each.from) (piece_bytes 512 c.each.from part
          (λ i. (c.shared_slice_known-1.given i).fits)) w o.1 o.0),
      (search rules),
    )

pub returns : goal.returns
returns c =
    sym (goes_none c.args.part.now (c.args.count - c.each.counter) (sofar (goal.at.returns c).At-each) (omega arith))
    ∙ c.each.invariant.1

pub slice_bounds-block-count : goal.slice_bounds-block-count
slice_bounds-block-count c =
    omega (arith, c.block_end-end.ensures.after)

pub slice_bounds-block-start : goal.slice_bounds-block-start
slice_bounds-block-start c =
    search rules

pub slice_bounds-block-end : goal.slice_bounds-block-end
slice_bounds-block-end c =
    search rules
