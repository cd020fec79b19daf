-- "each accepted cycle leaves a sound state" (01, Sizes): an accepted cycle steps from a sound router to a sound router.
-- Assumes nothing.
use Rattle.std.specs.Prelude.{Ok, Err}
use mathlib.Core.Path.{◌≡◌, refl, sym, subst}
use mathlib.Core.List.{List}
use Prim.Native.Nat.{ℕ}
use Rattle.state.specs.declared.Router.{Router}
use Rattle.state.specs.Sound.{Sound}
use Rattle.trace.specs.Bytes.{AreBytes}
use Rattle.base.specs.Refusal.{Verdict}
use Rattle.rules.specs.declared.Stepped.{Stepped}
use Rattle.rules.specs.Allocation.{allocated}
use Rattle.rules.specs.Intake.{credits_reached, credits_returned, landed, offers_taken}
use Rattle.rules.specs.Step.{taken_in, router_after, step_of}
use Rattle.rules.proofs.Exactness.{refused_leaves}
use Rattle.rules.proofs.Accepted.{none_early, readied, accepted_none, accepted_steps, readied_sound, readied_newest}
use Rattle.rules.proofs.SentSound.{sent_out_sound}

module _ (s : Router) (part : List ℕ) (bytes : AreBytes part) (accepted : (step_of s part).verdict ≡ Ok tt) where
  after_sound : Sound (router_after part s)
  unfolding router_after allocated taken_in offers_taken landed credits_returned credits_reached
  after_sound = sent_out_sound (readied part s) (readied_sound s part bytes accepted)
      (none_early s part (accepted_none s part bytes accepted))
      (readied_newest s part bytes accepted)

  pub accepted_after : Sound (step_of s part).router
  accepted_after = subst (λ (x : Stepped). Sound x.router) (sym (accepted_steps s part bytes accepted)) after_sound

-- a cycle, accepted or refused, leaves a sound router sound
pub step_sound : (s : Router) (part : List ℕ) → AreBytes part → Sound s → Sound (step_of s part).router
step_sound s part bytes sound = go (step_of s part).verdict refl
  where
    go : (v : Verdict) → (step_of s part).verdict ≡ v → Sound (step_of s part).router
    go (Ok _) e = accepted_after s part bytes e
    go (Err r) e = subst Sound (sym (refused_leaves s part r e).0) sound
