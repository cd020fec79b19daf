-- `state::blankness::is_blank` meets its contract: a clause that fails refuses, and the last decides.
-- Assumes nothing.
use mathlib.Core.Path.{◌≡◌, sym, ◌∙◌, subst, ap}
use mathlib.Core.Bool.{◌&&◌}
use borrow.Author.Rules.{rules}
use borrow.Author.Tests.{eq-eqb, ne_eqb}
use lib.Dec.{eqb}
use lib.ListN.{length}
use Rattle.base.specs.Sizes.{no_config, Bounds}
use Rattle.base.specs.declared.config.Config.{Config}
use Rattle.state.specs.Blank.{no_sizes}
use Rattle.state.specs.Sound.{wire_legal, home_legal, line_unused, arbiters_unused, channels_unused}
use Rattle.state.proofs.Blank.{bounded_none, no_sizes_exactly, some_size, not_blank, wire_blank, home_blank, last_blank, rooms_are}
use Rattle.state.proofs.Exact.{shape_is, length_any}
use Rattle.state.proofs.blankness.is_blank.Goals as goal
use Rattle.state.proofs.blankness.is_blank.Goals.{After-are_unused, After-are_unused-2, After-is_home_sound, After-is_wire_sound}
use Rattle.state.proofs.blankness.is_blank.Goals.{After-none-none, Start}

-- the arrays of a struct that is handed in are as long as they are declared
inputs_long : (c : Start) → length c.args.router.inputs ≡ 32
inputs_long c = search (rules, length_any)

outputs-long : (c : Start) → length c.args.router.outputs ≡ 32
outputs-long c = search (rules, length_any)

store_long : (c : Start) → length c.args.router.store ≡ 512
store_long c = search rules

wire-long : (c : Start) → length c.args.router.wire ≡ 64
wire-long c = search rules

home-long : (c : Start) → length c.args.router.home ≡ 64
home-long c = search rules

vcs-long : (c : Start) → length c.args.router.arbiters.vcs ≡ 8
vcs-long c = search (rules, length_any)

ins-long : (c : Start) → length c.args.router.arbiters.inputs ≡ 8
ins-long c = search (rules, length_any)

outs-long : (c : Start) → length c.args.router.arbiters.outputs ≡ 8
outs-long c = search (rules, length_any)

-- no configuration is within bounds
bounded : (c : After-none-none) → Bounds 0 c.none-none.result
bounded c = subst (Bounds 0) (sym c.none-none.ensures) bounded_none

-- the configuration that the tests of lines, arbiters and channels are handed is none
wire-said : (c : After-is_wire_sound) → let w = c.args.router.wire in
    c.is_wire_sound.result ≡ (wire_legal no_config w && line_unused 0 0 w)
wire-said c =
    let w = c.args.router.wire in
    c.is_wire_sound.ensures
    ∙ ap (λ (n : Config). wire_legal n w && line_unused n.forward n.ports w) c.none-none.ensures

home-said : (c : After-is_home_sound) → let h = c.args.router.home in
    c.is_home_sound.result ≡ (home_legal no_config h && line_unused 0 0 h)
home-said c =
    let h = c.args.router.home in
    c.is_home_sound.ensures
    ∙ ap (λ (n : Config). home_legal n h && line_unused n.back n.ports h) c.none-none.ensures

arbiters-said : (c : After-are_unused) → c.are_unused.result ≡ arbiters_unused no_config c.args.router.arbiters
arbiters-said c =
    c.are_unused.ensures
    ∙ ap (λ (n : Config). arbiters_unused n c.args.router.arbiters) c.none-none.ensures

channels-said : (c : After-are_unused-2) → let s = c.args.router in
    c.are_unused-2.result ≡ channels_unused no_config s.inputs s.outputs
channels-said c =
    let s = c.args.router in
    c.are_unused-2.ensures ∙ ap (λ (n : Config). channels_unused n s.inputs s.outputs) c.none-none.ensures

pub returns-then-router-ne0 : goal.returns-then-router-ne0
returns-then-router-ne0 c =
    let s = c.args.router in
    not_blank s (eqb s.cycle 0) (λ b. b.cycle) (ne_eqb s.cycle 0 c.if-router-ne0.true)

pub returns-then-not-is_wire_sound : goal.returns-then-not-is_wire_sound
returns-then-not-is_wire_sound c =
    let s = c.args.router in
    not_blank s (wire_legal no_config s.wire && line_unused 0 0 s.wire) (wire_blank s)
    (sym (wire-said (goal.at.returns-then-not-is_wire_sound c).After-is_wire_sound) ∙ c.if-not-is_wire_sound.true)

pub returns-then-not-is_home_sound : goal.returns-then-not-is_home_sound
returns-then-not-is_home_sound c =
    let s = c.args.router in
    not_blank s (home_legal no_config s.home && line_unused 0 0 s.home) (home_blank s)
    (sym (home-said (goal.at.returns-then-not-is_home_sound c).After-is_home_sound) ∙ c.if-not-is_home_sound.true)

pub returns-then-not-are_unused : goal.returns-then-not-are_unused
returns-then-not-are_unused c =
    let s = c.args.router in
    not_blank s (arbiters_unused no_config s.arbiters) (λ b. b.arbiters)
    (sym (arbiters-said (goal.at.returns-then-not-are_unused c).After-are_unused) ∙ c.if-not-are_unused.true)

pub returns-then-not-are_unused-2 : goal.returns-then-not-are_unused-2
returns-then-not-are_unused-2 c =
    let s = c.args.router in
    not_blank s (channels_unused no_config s.inputs s.outputs) (λ b. b.channels)
    (sym (channels-said (goal.at.returns-then-not-are_unused-2 c).After-are_unused-2) ∙ c.if-not-are_unused-2.true)

pub returns : goal.returns
returns c =
    let s = c.args.router in
    let h = c.if-ne.ensures in
    let same : s.config ≡ c.none-none.result = search rules in
    last_blank s c.are_slots_empty.result c.are_slots_empty.ensures ((no_sizes_exactly s.config).1 (same ∙ c.none-none.ensures))
    (eq-eqb s.cycle 0 c.if-router-ne0.false) (sym (wire-said (goal.at.returns c).After-is_wire_sound)
    ∙ c.if-not-is_wire_sound.false)
    (sym (home-said (goal.at.returns c).After-is_home_sound) ∙ c.if-not-is_home_sound.false)
    (sym (arbiters-said (goal.at.returns c).After-are_unused) ∙ c.if-not-are_unused.false)
    (sym (channels-said (goal.at.returns c).After-are_unused-2) ∙ c.if-not-are_unused-2.false)
    (shape_is s (inputs_long (goal.at.returns c).Start) (outputs-long (goal.at.returns c).Start) (store_long (goal.at.returns c).Start)
    (wire-long (goal.at.returns c).Start) (home-long (goal.at.returns c).Start))
    (rooms_are s.arbiters (vcs-long (goal.at.returns c).Start) (ins-long (goal.at.returns c).Start) (outs-long (goal.at.returns c).Start))

pub is_wire_sound-requires : goal.is_wire_sound-requires
is_wire_sound-requires c =
    let b = bounded (goal.at.is_wire_sound-requires c).After-none-none in (b.ports.1, b.forward.1)

pub is_home_sound-requires : goal.is_home_sound-requires
is_home_sound-requires c =
    let b = bounded (goal.at.is_home_sound-requires c).After-none-none in (b.ports.1, b.back.1)

pub are_unused-requires : goal.are_unused-requires
are_unused-requires c =
    bounded (goal.at.are_unused-requires c).After-none-none

pub are_unused-requires-2 : goal.are_unused-requires-2
are_unused-requires-2 c =
    bounded (goal.at.are_unused-requires-2 c).After-none-none

pub returns-then-ne : goal.returns-then-ne
returns-then-ne c =
    let s = c.args.router in
    let h = c.if-ne.ensures in
    let d : s.config ≡ c.none-none.result → ⊥ = search rules in
    not_blank s (no_sizes s.config) (λ b. b.config) (sym (some_size s.config (λ e. d (e ∙ sym c.none-none.ensures))))
