-- `state::is_sound` meets its contract: a clause that fails refuses, and the last decides.
-- Assumes nothing.
use Rattle.std.proofs.Common.{◌≡◌, sym, ap, ◌∙◌, rules}
use Rattle.std.specs.Prelude.{◌&&◌, None, is_err}
use Rattle.base.specs.Sizes.{illegal_field, Bounds}
use Rattle.base.proofs.Configurations.{judged_legal, judged_illegal}
use Rattle.state.specs.Sound.{wire_legal, home_legal, line_unused, arbiters_sound, arbiters_unused, channels_unused, slots_empty}
use Rattle.state.proofs.Exact.{refused, legal_bounded, illegal_refused, late_refused, sound_wire, sound_home, all_sound, exact}
use Rattle.state.proofs.Exact.{shape_is, length_any}
use Rattle.state.proofs.soundness.is_sound.Goals as goal
use Rattle.state.proofs.soundness.is_sound.Goals.{Else-is_err}

-- the configuration that was judged has no field out of its range
legal : (c : Else-is_err) → illegal_field c.args.router.config ≡ None
legal c = judged_legal _ (c.if-is_err.ensures.value ∙ ap is_err c.judged.ensures)

bounded : (c : Else-is_err) → Bounds 0 c.args.router.config
bounded c = legal_bounded c.args.router.config (legal c)

pub returns-then-is_err : goal.returns-then-is_err
returns-then-is_err c =
    illegal_refused c.args.router _ (judged_illegal _ (c.if-is_err.ensures.value ∙ ap is_err c.judged.ensures)).1

pub returns-then-router-gt-CYCLE_LIMIT : goal.returns-then-router-gt-CYCLE_LIMIT
returns-then-router-gt-CYCLE_LIMIT c = late_refused c.args.router c.if-router-gt-CYCLE_LIMIT.true

pub is_wire_sound-requires : goal.is_wire_sound-requires
is_wire_sound-requires c = let b = bounded (goal.at.is_wire_sound-requires c).Else-is_err in (b.ports.1, b.forward.1)

pub returns-then-not-is_wire_sound : goal.returns-then-not-is_wire_sound
returns-then-not-is_wire_sound c =
    let s = c.args.router in
    refused s (wire_legal s.config s.wire && line_unused s.config.forward s.config.ports s.wire) (sound_wire s)
    (sym c.if-not-is_wire_sound.ensures)

pub is_home_sound-requires : goal.is_home_sound-requires
is_home_sound-requires c = let b = bounded (goal.at.is_home_sound-requires c).Else-is_err in (b.ports.1, b.back.1)

pub returns-then-not-is_home_sound : goal.returns-then-not-is_home_sound
returns-then-not-is_home_sound c =
    let s = c.args.router in
    refused s (home_legal s.config s.home && line_unused s.config.back s.config.ports s.home) (sound_home s)
    (sym c.if-not-is_home_sound.ensures)

pub are_sound-requires : goal.are_sound-requires
are_sound-requires c = bounded (goal.at.are_sound-requires c).Else-is_err

pub returns-then-not-are_sound : goal.returns-then-not-are_sound
returns-then-not-are_sound c =
    let s = c.args.router in refused s (arbiters_sound s.config s.arbiters) (λ x. x.arbitration.arbiters) (sym c.if-not-are_sound.ensures)

pub are_unused-requires : goal.are_unused-requires
are_unused-requires c = bounded (goal.at.are_unused-requires c).Else-is_err

pub returns-then-not-are_unused : goal.returns-then-not-are_unused
returns-then-not-are_unused c =
    let s = c.args.router in refused s (arbiters_unused s.config s.arbiters) (λ x. x.arbitration.others) (sym c.if-not-are_unused.ensures)

pub are_unused-requires-2 : goal.are_unused-requires-2
are_unused-requires-2 c = bounded (goal.at.are_unused-requires-2 c).Else-is_err

pub returns-then-not-are_unused-2 : goal.returns-then-not-are_unused-2
returns-then-not-are_unused-2 c =
    let s = c.args.router in
    refused s (channels_unused s.config s.inputs s.outputs) (λ x. x.flow.channels) (sym c.if-not-are_unused-2.ensures)

pub returns-then-not-are_slots_empty : goal.returns-then-not-are_slots_empty
returns-then-not-are_slots_empty c =
    let s = c.args.router in refused s (slots_empty s.inputs s.store) (λ x. x.flow.slots) (sym c.if-not-are_slots_empty.ensures)

pub are_sound-requires-2 : goal.are_sound-requires-2
are_sound-requires-2 c = bounded (goal.at.are_sound-requires-2 c).Else-is_err

-- the arrays of a struct that is handed in are as long as they are declared
pub returns : goal.returns
returns c =
    let s = c.args.router in
    exact s c.are_sound-2.result c.are_sound-2.ensures (all_sound s
    (legal (goal.at.returns c).Else-is_err) c.if-router-gt-CYCLE_LIMIT.false (sym c.if-not-is_wire_sound.ensures)
    (sym c.if-not-is_home_sound.ensures) (sym c.if-not-are_sound.ensures) (sym c.if-not-are_unused.ensures)
    (sym c.if-not-are_unused-2.ensures) (sym c.if-not-are_slots_empty.ensures)
    (shape_is s (search (rules, length_any)) (search (rules, length_any)) (search rules) (search rules) (search rules)))
