-- An accepted cycle: the router was sound before it, the run was not full, and phases 5 to 7 start from a sound router too.
-- Assumes nothing.
use Rattle.std.specs.Prelude.{Ok}
use mathlib.Core.Path.{◌≡◌, sym, ap, ◌∙◌}
use mathlib.Core.List.{List}
use Prim.Native.Nat.{ℕ, ◌-◌, ◌<◌}
use native.Mathlib.Omega.{arith}
use borrow.Author.Tests.{leb-false, not-false}
use Rattle.base.specs.Sizes.{cycle_limit}
use Rattle.state.specs.declared.Router.{Router}
use Rattle.state.specs.Sound.{Sound}
use Rattle.state.specs.Sound as soundness
use Rattle.state.specs.Views.{home_place}
use Rattle.state.proofs.Exact.{passed_sound}
use Rattle.trace.specs.Bytes.{AreBytes}
use Rattle.base.specs.Refusal.{Verdict}
use Rattle.rules.specs.Allocation.{allocated}
use Rattle.rules.specs.Intake.{credits_reached, credits_returned, landed, offers_taken}
use Rattle.rules.specs.Numbers.{rules_of, run_full}
use Rattle.rules.specs.Step.{taken_in, step_by, step_of}
use Rattle.rules.proofs.Advance.{advanced_newest}
use Rattle.rules.proofs.AllocatedSound.{allocated_sound}
use Rattle.rules.proofs.Exactness.{verdict_judged, accepted_exactly}
use Rattle.rules.proofs.Facts.{sound_legal, sound_lengths}
use Rattle.rules.proofs.FirstRule.{NoneHolds, also}
use Rattle.rules.proofs.IntakeSound.{taken_in_sound}

-- where no rule refuses, the router is sound and the run is not full
none_sound : (s : Router) (part : List ℕ) → NoneHolds (rules_of s part) → Sound s
none_sound s part (also two rest) = passed_sound s (not-false (soundness.sound s) (two 0 (omega arith)))

pub none_early : (s : Router) (part : List ℕ) → NoneHolds (rules_of s part) → s.cycle < cycle_limit
unfolding run_full
none_early s part (also two (also ten rest)) = leb-false cycle_limit s.cycle (ten 0 (omega arith))

-- phases 5 to 7 start from here
abbrev pub readied : List ℕ → Router → Router
readied part s = allocated (taken_in part s)

module _ (s : Router) (part : List ℕ) (bytes : AreBytes part) (accepted : (step_of s part).verdict ≡ Ok tt) where
  pub accepted_none : NoneHolds (rules_of s part)
  accepted_none = (accepted_exactly s part).0 accepted

  pub accepted_before : Sound s
  accepted_before = none_sound s part accepted_none

  -- an accepted cycle is the seven phases
  pub accepted_steps : step_of s part ≡ step_by (Ok tt) part s
  unfolding step_of
  accepted_steps = ap (λ (v : Verdict). step_by v part s) (sym (verdict_judged s part) ∙ accepted)

  pub taken_sound : Sound (taken_in part s)
  taken_sound = taken_in_sound s part accepted_before accepted_none bytes

  pub readied_sound : Sound (readied part s)
  readied_sound = allocated_sound (taken_in part s) taken_sound

  -- phase 1 has left the newest places of the home line empty
  pub readied_newest : (i : ℕ) → i < s.config.ports → home_place (readied part s).home (s.config.back - 1) i ≡ 0
  unfolding allocated taken_in offers_taken landed credits_returned credits_reached
  readied_newest i h =
      let few = (sound_legal s accepted_before).ports.1 in
      let some = (sound_legal s accepted_before).back.0 in
      advanced_newest s.config.back s.config.ports s.home accepted_before.sizes.home_rest
      (sound_lengths s accepted_before).home
      (s.config.back - 1) i (omega arith) (omega arith)
