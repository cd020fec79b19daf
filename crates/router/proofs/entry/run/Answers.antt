-- `router::entry::run` meets its contract: tested once, then block after block.
-- Assumes nothing.
use mathlib.Core.Path.{◌≡◌, sym, ap, ap₂, subst, ◌∙◌}
use mathlib.Core.Bool.{true, false, true≢false}
use mathlib.Core.List.{List}
use Prim.Native.Nat.{ℕ, ◌-◌, ◌≤◌, ◌<◌}
use native.Mathlib.Nat.{le_refl}
use native.Mathlib.Omega.{arith}
use lib.ListN.{length}
use borrow.Author.Rules.{rules}
use borrow.Author.Tests.{not-true, not-false}
use Rattle.listing.specs.Writing.{lacks_room}
use Rattle.runs.specs.Run.{run_sound}
use Rattle.router.specs.declared.entry.Ran.{Ran}
use Rattle.router.specs.Running.{Writing, lacks_block_room, block_at, block_taken, begins, going_on, CallOutcome, answered}
use Rattle.router.specs.Inside.{Within, Ongoing}
use Rattle.router.proofs.Onward.{goes_more, piece_is, block_on}
use Rattle.router.proofs.Rooms.{full, roomy}
use Rattle.router.proofs.RunLaws.{run_unsound, run_full, run_goes, run_asks, room_within}
use Rattle.router.proofs.RunLaws.{configured_ongoing, unconfigured_none, begun_ongoing}
use Rattle.router.proofs.entry.run.Goals as goal
use Rattle.router.proofs.entry.run.Goals.{Else-not-has_room, Else-not-has_room-2, Else-not-is_sound, Else-place, Start}

-- the buffer beside what a call that moves nothing answers
abbrev beside : Start → Ran → CallOutcome
beside c r = record { ran = r; buffer = c.args.buf.now }

pub returns-then-not-is_sound : goal.returns-then-not-is_sound
returns-then-not-is_sound c =
    ap (beside (goal.at.returns-then-not-is_sound c).Start) c.unmoved.ensures
    ∙ run_unsound c.args.run c.args.part.now c.args.buf.now c.args.at
    (sym c.is_sound.ensures ∙ c.if-not-is_sound.true)

-- what passed the tests
passed : (c : Else-not-is_sound) → run_sound c.args.run ≡ true
passed c =
    sym c.is_sound.ensures ∙ c.if-not-is_sound.false

sound : (c : Else-not-has_room) → run_sound c.args.run ≡ true
sound c = passed (goal.at.Else-not-has_room c).Else-not-is_sound

room : (c : Else-not-has_room) → lacks_room c.args.buf.now c.args.at ≡ false
unfolding lacks_room
room c = not-true _ (sym c.has_room.ensures ∙ c.if-not-has_room.false)

short : (c : Else-not-has_room) → length c.args.buf.now < 18446744073709551616
short c = search rules

inside : (c : Else-not-has_room) → Within c.args.at c.args.buf.now
inside c =
    room_within c.args.run c.args.part.now c.args.buf.now c.args.at (room c) (short c)

pub returns-then-not-has_room : goal.returns-then-not-has_room
unfolding lacks_room
returns-then-not-has_room c =
    ap (beside (goal.at.returns-then-not-has_room c).Start) c.unmoved-then-not-has_room.ensures
    ∙ run_full c.args.run c.args.part.now c.args.buf.now c.args.at (passed (goal.at.returns-then-not-has_room c).Else-not-is_sound)
    (not-false _ (sym c.has_room.ensures ∙ c.if-not-has_room.true))

pub go-requires : goal.go-requires
go-requires c = (λ e. absurd (true≢false (sym c.if-run.true ∙ e)), omega arith, le_refl _)

pub returns-then-run : goal.returns-then-run
returns-then-run c =
    c.go.ensures ∙ run_goes c.args.run c.args.part.now c.args.buf.now c.args.at
    (sound (goal.at.returns-then-run c).Else-not-has_room) (room (goal.at.returns-then-run c).Else-not-has_room) _ c.blocks_in-count.ensures

pub go-requires-then-place : goal.go-requires-then-place
go-requires-then-place c = (
  configured_ongoing c.args.run c.args.part.now c.args.buf.now c.args.at (sound (goal.at.go-requires-then-place c).Else-not-has_room)
      c.if-place.true (inside (goal.at.go-requires-then-place c).Else-not-has_room),
  omega arith,
  le_refl _,
)

pub returns-then-place : goal.returns-then-place
returns-then-place c =
    c.go-then-place.ensures ∙ run_goes c.args.run c.args.part.now c.args.buf.now c.args.at
    (sound (goal.at.returns-then-place c).Else-not-has_room) (room
    (goal.at.returns-then-place c).Else-not-has_room) _ c.blocks_in-count.ensures

-- the run as it is handed in, and that it is before the configuration block
abbrev handed : Start → Writing
handed c = record { run = c.args.run; at = c.args.at; buffer = c.args.buf.now }

none_yet : (c : Else-place) → (c.args.run.router.cycle ≡ 0)
    × (c.args.run.flits ≡ 0)
none_yet c =
    unconfigured_none c.args.run c.args.part.now c.args.buf.now c.args.at (sound (goal.at.Else-place c).Else-not-has_room)
    c.if-place.false c.if-run.false

pub returns-then-not-has_room-2 : goal.returns-then-not-has_room-2
returns-then-not-has_room-2 c =
    ap (beside (goal.at.returns-then-not-has_room-2 c).Start) c.unmoved-then-not-has_room-2.ensures
    ∙ run_asks c.args.run c.args.part.now c.args.buf.now c.args.at (sound (goal.at.returns-then-not-has_room-2 c).Else-not-has_room) (room
    (goal.at.returns-then-not-has_room-2 c).Else-not-has_room)
    c.if-run.false (full _ _
    (not-false _ (sym c.has_room-2.ensures ∙ c.if-not-has_room-2.true)))

block_room : (c : Else-not-has_room-2) → lacks_block_room c.args.buf.now
    c.args.at ≡ false
block_room c = roomy _ _ (not-true _ (sym c.has_room-2.ensures ∙ c.if-not-has_room-2.false))

pub begin-begun-requires : goal.begin-begun-requires
begin-begun-requires c = (
  c.if-place.false,
  c.if-run.false,
  (none_yet (goal.at.begin-begun-requires c).Else-place).0,
  inside
      (goal.at.begin-begun-requires c).Else-not-has_room,
)

pub overflow_sub-count : goal.overflow_sub-count
overflow_sub-count c =
    omega (arith, c.blocks_in-count.ensures)

pub go-requires-2 : goal.go-requires-2
go-requires-2 c =
    let part = c.args.part.now in
    let f = c.begin-begun.ensures ∙ ap (λ (block : List ℕ). block_taken block (handed (goal.at.go-requires-2 c).Start))
    (piece_is part 0 c.block_end-end.result c.block_end-end.ensures.after) in (
      subst Ongoing (sym f) (begun_ongoing (block_at part 0) (handed (goal.at.go-requires-2 c).Start) c.if-place.false (none_yet
          (goal.at.go-requires-2 c).Else-place).1
          (inside (goal.at.go-requires-2 c).Else-not-has_room)),
      c.block_end-end.ensures.inside,
      subst (λ (w : Writing). c.args.at ≤ w.at) (sym f)
          (block_on (block_at part 0) (handed (goal.at.go-requires-2 c).Start)),
    )

pub returns : goal.returns
returns c =
    let part = c.args.part.now in
    let f = c.begin-begun.ensures ∙ ap (λ (block : List ℕ). block_taken block (handed (goal.at.returns c).Start))
    (piece_is part 0 c.block_end-end.result c.block_end-end.ensures.after) in
    c.go-2.ensures ∙ ap₂ (λ (used : ℕ) (w : Writing). answered c.args.at
    (going_on part (c.blocks_in-count.result - 1) (record { used = used; asks = 0; writing = w }))) c.block_end-end.ensures.after f
    ∙ ap (answered c.args.at) (goes_more part c.blocks_in-count.result (c.blocks_in-count.result - 1) (begins (handed (goal.at.returns c).Start)) (omega
    (arith, c.blocks_in-count.ensures))
    c.if-run.false (block_room (goal.at.returns c).Else-not-has_room-2)) ∙ run_goes c.args.run part c.args.buf.now c.args.at
    (sound (goal.at.returns c).Else-not-has_room) (room (goal.at.returns c).Else-not-has_room) c.blocks_in-count.result
    c.blocks_in-count.ensures

pub slice_bounds-begin-count : goal.slice_bounds-begin-count
slice_bounds-begin-count c =
    omega (arith, c.block_end-end.ensures.after)

pub slice_bounds-begin-start : goal.slice_bounds-begin-start
slice_bounds-begin-start c =
    search rules

pub slice_bounds-begin-end : goal.slice_bounds-begin-end
slice_bounds-begin-end c =
    search rules
