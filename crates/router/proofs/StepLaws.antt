-- `step_of` by what is tested first: the state, then the cycle's rules.
-- Assumes nothing.
use Rattle.std.proofs.Common.{◌≡◌, ◌∙◌, refl, ap, List, true, false, ℕ, ◌<◌, length, arith}
use Rattle.std.specs.Prelude.{Ok, Err}
use Rattle.std.specs.Result.{is_err}
use borrow.Author.Tests.{leb-false, eqb-true, not-false}
use Rattle.base.specs.declared.reply.Reply.{Reply}
use Rattle.base.specs.Search.{first_from}
use Rattle.base.specs.Sizes.{cycle_limit}
use Rattle.base.specs.Reply.{empty_reply}
use Rattle.base.specs.Refusal.{Verdict, refusing}
use Rattle.state.specs.declared.InputVc.{InputVc}
use Rattle.state.specs.declared.Router.{Router}
use Rattle.state.specs.Sound.{sound}
use Rattle.rules.specs.declared.Stepped.{Stepped}
use Rattle.rules.specs.Intake.{senders_paid, credits_reached, reported}
use Rattle.rules.specs.Allocation.{allocated}
use Rattle.rules.specs.Numbers.{Rule, first_of, rules_for, judged, run_full, part_wrong}
use Rattle.rules.specs.Departures.{leaving_of}
use Rattle.rules.specs.Step.{taken_in, sent_out, router_after, reply_of, step_by, step_of}
use Rattle.rules.proofs.FirstRule.{Why, refuses, accepts, NoneHolds, also, why}
use Rattle.router.specs.Whole.{bound_of}

-- where the first rule is none, none holds
none_holds : (rules : List Rule) (v : Verdict) → v ≡ first_of rules → is_err v ≡ false → NoneHolds rules
none_holds rules v e h = go (first_of rules) (why rules) (rw e at h)
  where
    go : (w : Verdict) → Why rules w → is_err w ≡ false → NoneHolds rules
    go _ (refuses n p f) k = cc
    go _ (accepts n) k = n

module _ (s : Router) (part : List ℕ) where
  -- 2: "state not sound"
  pub unsound_steps : sound s ≡ false
      → ◌≡◌ {A = Stepped} (record { verdict = refusing 2 0; router = s; reply = empty_reply }) (step_of s part)
  unfolding step_of judged first_of first_from
  unsound_steps e = rw e

  refused_by : (v : Verdict) → is_err v ≡ true → ◌≡◌ {A = Stepped} (record { verdict = v; router = s; reply = empty_reply }) (step_by v part s)
  refused_by (Ok x) h = cc
  refused_by (Err r) h = refl

  accepted_by : (v : Verdict) → is_err v ≡ false
      → ◌≡◌ {A = Stepped} (record { verdict = v; router = router_after part s; reply = reply_of part s }) (step_by v part s)
  accepted_by (Ok x) h = refl
  accepted_by (Err r) h = cc

  -- the verdict of a sound router, by its input VCs after phase 1
  module _ (paid : List InputVc) (v : Verdict) (passes : sound s ≡ true) (e : paid ≡ senders_paid s.config s.home s.inputs)
      (f : v ≡ first_of (rules_for s.config s.cycle s.inputs paid s.outputs part)) where
    judged_is : v ≡ judged s part
    unfolding judged first_of first_from
    judged_is = rw passes (rw e at f)

    -- "a refused cycle gives the state as before and an empty reply"
    pub refused_steps : is_err v ≡ true → (reply : Reply) → reply ≡ empty_reply
        → ◌≡◌ {A = Stepped} (record { verdict = v; router = s; reply = reply }) (step_of s part)
    unfolding step_of
    refused_steps h reply g = rw g (refused_by v h ∙ ap (λ (w : Verdict). step_by w part s) judged_is)

    -- the router after phase 5, of the parts after phase 1
    abbrev pub bound : Router
    bound =
        bound_of s.config s.cycle
        (record { inputs = paid; outputs = s.outputs; vcs = s.arbiters.vcs; ins = s.arbiters.inputs; outs = s.arbiters.outputs })
        s.store s.wire s.home part

    bound_is : bound ≡ allocated (taken_in part s)
    unfolding taken_in credits_reached
    bound_is = rw e

    module _ (h : is_err v ≡ false) where
      pub accepted_steps : (t : Router) (reply : Reply) → t ≡ sent_out bound
          → reply ≡ record { senders = reported s.config s.home; outputs = (leaving_of bound).left }
          → ◌≡◌ {A = Stepped} (record { verdict = v; router = t; reply = reply }) (step_of s part)
      unfolding step_of router_after reply_of
      accepted_steps t reply g k = rw (g, k, bound_is) (accepted_by v h ∙ ap (λ (w : Verdict). step_by w part s) judged_is)

      -- an accepted cycle is below the limit, and its part has 64 bytes
      pub accepted_early : s.cycle < cycle_limit
      unfolding run_full
      accepted_early = go (none_holds _ v f h)
        where
          go : NoneHolds (rules_for s.config s.cycle s.inputs paid s.outputs part) → s.cycle < cycle_limit
          go (also ten _) = leb-false cycle_limit s.cycle (ten 0 (omega arith))

      pub accepted_long : length part ≡ 64
      unfolding part_wrong
      accepted_long = go (none_holds _ v f h)
        where
          go : NoneHolds (rules_for s.config s.cycle s.inputs paid s.outputs part) → length part ≡ 64
          go (also ten (also long _)) = eqb-true (length part) 64 (not-false _ (long 0 (omega arith)))
