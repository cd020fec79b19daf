-- A call of the run entry: refused with 2, with 11, or block after block; and what the test of a run gives.
-- Assumes nothing.
use mathlib.Core.Path.{◌≡◌, refl, sym, ap, ◌∙◌}
use mathlib.Core.Bool.{Bool, true, false, cond, ◌&&◌, true≢false}
use mathlib.Core.List.{List}
use Prim.Native.Nat.{ℕ, ◌-◌, ◌*◌, ◌≤◌, ◌<◌}
use native.Mathlib.Nat.{mul-le-mul_right}
use native.Mathlib.Omega.{arith}
use lib.Dec.{eqb, leb, ltb}
use lib.ListN.{length}
use borrow.Author.Tests.{ltb-false, leb-true, eqb-true}
use Rattle.base.specs.Numbers.{done, not_sound, no_room}
use Rattle.base.proofs.Configurations.{legal_exact}
use Rattle.base.proofs.Search.{both, neither}
use Rattle.state.specs.Blank.{blank}
use Rattle.state.specs.Sound.{sound}
use Rattle.state.proofs.Exact.{passed_sound}
use Rattle.state.proofs.FreshIsSound.{fresh_is_sound}
use Rattle.trace.specs.declared.place.Place.{Place}
use Rattle.trace.specs.Blocks.{config_of}
use Rattle.trace.specs.Place.{good_place}
use Rattle.trace.specs.declared.judging.Answer.{Answer}
use Rattle.trace.specs.Judged.{judged}
use Rattle.trace.proofs.Findings.{FoundAs, refuses, configures, holds, ends, is_over, found_as}
use Rattle.trace.proofs.Places.{Good, nothing, after, good_is}
use Rattle.listing.specs.Writing.{lacks_room}
use Rattle.rules.proofs.Facts.{sound_legal}
use Rattle.runs.specs.declared.Run.{Run}
use Rattle.runs.specs.Run.{place_right, run_sound}
use Rattle.runs.proofs.Places.{going_good}
use Rattle.router.specs.Running.{Writing, wrote, ended_by, by_found, block_taken, room_of_block, lacks_block_room, blocks_in, begins}
use Rattle.router.specs.Running.{going_on, CallOutcome, refused_with, answered, ran_of}
use Rattle.router.proofs.Onward.{goes_full}
use Rattle.router.specs.Inside.{Within, Ongoing}

module _ (n : Run) (part buffer : List ℕ) (at : ℕ) where
  abbrev handed : Writing
  handed = record { run = n; at = at; buffer = buffer }

  pub run_unsound : run_sound n ≡ false → refused_with not_sound n buffer ≡ ran_of n part buffer at
  unfolding ran_of
  run_unsound e = rw e

  pub run_full : run_sound n ≡ true → lacks_room buffer at ≡ true → refused_with no_room n buffer ≡ ran_of n part buffer at
  unfolding ran_of
  run_full e f = rw (e, f)

  pub run_goes : run_sound n ≡ true → lacks_room buffer at ≡ false → (count : ℕ) → count ≡ blocks_in part
      → answered at (going_on part count (begins handed)) ≡ ran_of n part buffer at
  unfolding ran_of
  run_goes e f count g = rw (e, f, g)

  -- room for a line, but not for a block's: nothing is used, nothing written, and the room is asked for
  pub run_asks : run_sound n ≡ true → lacks_room buffer at ≡ false → n.over ≡ false → lacks_block_room buffer at ≡ true
      → ◌≡◌ {A = CallOutcome} (record
      { ran = record { number = done; run = n; used = 0; written = 0; asks = room_of_block }; buffer = buffer }) (ran_of n part buffer at)
  run_asks e f o g =
      let none : at - at ≡ 0 = omega arith in
      ap (λ (m : ℕ). record { ran = record { number = done; run = n; used = 0; written = m; asks = room_of_block }; buffer = buffer })
      (sym none)
      ∙ ap (answered at) (sym (goes_full part (blocks_in part) (begins handed) (omega arith) o g)) ∙ run_goes e f (blocks_in part) refl

  pub room_within : lacks_room buffer at ≡ false → length buffer < 18446744073709551616 → Within at buffer
  unfolding lacks_room
  room_within e s = record { inside = ltb-false (length buffer) at (neither (ltb (length buffer) at) _ e).0; short = s }

  -- after the configuration block
  pub configured_ongoing : run_sound n ≡ true → n.place.configured ≡ true → Within at buffer → Ongoing handed
  unfolding run_sound
  configured_ongoing e f w =
      let r = (both (place_right n.place n.router.cycle n.over)
      (cond n.place.configured (sound n.router && leb n.flits (n.router.config.ports * n.router.cycle))
      (blank n.router && eqb n.flits 0)) e).1 in
      let b = both (sound n.router) (leb n.flits (n.router.config.ports * n.router.cycle))
      (ap (λ (x : Bool). cond x (sound n.router && leb n.flits (n.router.config.ports * n.router.cycle))
      (blank n.router && eqb n.flits 0)) (sym f) ∙ r) in
      let s = passed_sound n.router b.0 in
      λ o. (
        record {
          sound = s;
          few = few (leb-true n.flits (n.router.config.ports * n.router.cycle) b.1)
              (mul-le-mul_right n.router.cycle (sound_legal n.router s).ports.1);
          room = w;
        },
        f,
      )
    where
      few : n.flits ≤ n.router.config.ports * n.router.cycle → n.router.config.ports * n.router.cycle ≤ 8 * n.router.cycle
          → n.flits ≤ 8 * n.router.cycle
      few l m = omega (arith, l, m)

  -- before it nothing was accepted and nothing left
  abbrev p : Place
  p = n.place

  first_cycle : good_place p n.router.cycle ≡ true → p.configured ≡ false → n.router.cycle ≡ 0
  first_cycle e f = go (good_is p n.router.cycle e)
    where
      go : Good p n.router.cycle → n.router.cycle ≡ 0
      go (nothing a b d z) = z
      go (after m a d l h) = absurd (true≢false (sym a ∙ f))

  no_flits : run_sound n ≡ true → p.configured ≡ false → n.flits ≡ 0
  unfolding run_sound
  no_flits e f =
      eqb-true n.flits 0
      (both (blank n.router) (eqb n.flits 0)
      (ap (λ (x : Bool). cond x (sound n.router && leb n.flits (n.router.config.ports * n.router.cycle))
      (blank n.router && eqb n.flits 0)) (sym f)
      ∙ (both (place_right p n.router.cycle n.over) _ e).1)).1

  pub unconfigured_none : run_sound n ≡ true → p.configured ≡ false → n.over ≡ false → (n.router.cycle ≡ 0) × (n.flits ≡ 0)
  unconfigured_none e f o = (first_cycle (going_good n e o) f, no_flits e f)

-- the first block leaves a run that can go on, or one that is over
pub begun_ongoing : (block : List ℕ) (w : Writing) → w.run.place.configured ≡ false → w.run.flits ≡ 0
    → Within w.at w.buffer → Ongoing (block_taken block w)
unfolding block_taken ended_by wrote
begun_ongoing block w f z i = go (judged w.run.place w.run.router.cycle block)
    (found_as w.run.place w.run.router.cycle block)
  where
    go : (o : Answer) → FoundAs w.run.place w.run.router.cycle block o → Ongoing (by_found o.found o.place block w)
    go _ (refuses n k) = λ e. absurd (true≢false e)
    go _ (configures a b _) = λ e. (
      record {
        sound = fresh_is_sound (config_of block) ((legal_exact (config_of block)).0 b);
        few = let g = z in omega (arith, g);
        room = i;
      },
      refl,
    )
    go _ (holds a l h _) = absurd (true≢false (sym a ∙ f))
    go _ (ends a _) = absurd (true≢false (sym a ∙ f))
    go _ (is_over a) = absurd (true≢false (sym a ∙ f))
