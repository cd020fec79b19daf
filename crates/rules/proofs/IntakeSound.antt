-- Phases 1 to 4 keep a router sound in a cycle that no rule refuses, and what each channel is after them.
-- Assumes nothing.
use mathlib.Core.Path.{◌≡◌, refl, sym, ap, subst, ◌∙◌}
use mathlib.Core.Bool.{Bool, true, xor}
use mathlib.Core.List.{List}
use Prim.Native.Nat.{ℕ, suc, ◌≤◌, ◌<◌}
use native.Mathlib.Omega.{arith}
use Rattle.base.specs.Flit.{starts_kind}
use Rattle.state.specs.declared.InputVc.{InputVc}
use Rattle.state.specs.declared.Router.{Router}
use Rattle.state.specs.Sound.{Sound}
use Rattle.state.specs.Views.{channel_number, wire_place}
use Rattle.trace.specs.Bytes.{AreBytes}
use Rattle.rules.specs.Rows.{brings, kind_at, vc_at}
use Rattle.rules.specs.Intake.{credits_reached, credits_returned, landed, offers_taken}
use Rattle.rules.specs.Numbers.{rules_of}
use Rattle.rules.specs.Step.{taken_in}
use Rattle.rules.proofs.FirstRule.{NoneHolds}
use Rattle.rules.proofs.Advance.{advanced_newest}
use Rattle.rules.proofs.Facts.{sound_legal, sound_lengths}
use Rattle.rules.proofs.Kept.{inside_of}
use Rattle.rules.proofs.Permitted.{Permitted, InTurn, PaidFor, none_permits}
use Rattle.rules.proofs.CreditsReached.{paid_keeps, credits_reached_sound}
use Rattle.rules.proofs.CreditsReturned.{credits_returned_sound}
use Rattle.rules.proofs.Landed.{landed_keeps}
use Rattle.rules.proofs.LandedSound.{landed_sound}
use Rattle.rules.proofs.OffersTaken.{Ready, offers_taken_sound}

-- after phase 2
abbrev pub paid_up : List ℕ → Router → Router
paid_up part s = credits_returned part (credits_reached s)

-- configuration, cycle count and arbiters stay
pub taken_in_keeps : (part : List ℕ) (s : Router)
    → ((taken_in part s).config ≡ s.config) × ((taken_in part s).cycle ≡ s.cycle) × ((taken_in part s).arbiters ≡ s.arbiters)
unfolding taken_in offers_taken landed credits_returned credits_reached
taken_in_keeps part s = (refl, refl, refl)

module _ (s : Router) (part : List ℕ) (sound : Sound s) (none : NoneHolds (rules_of s part)) where
  pub permitted : Permitted s part
  permitted = none_permits s part (sound_legal s sound) none

  pub paid_up_sound : Sound (paid_up part s)
  unfolding credits_reached
  paid_up_sound = credits_returned_sound (credits_reached s) part (credits_reached_sound s sound) (λ o h. permitted.credits o h)

  -- after phase 3: the rows are still in turn and paid for, and the newest places are empty
  in_turn : (i : ℕ) → i < s.config.ports → brings part i ≡ true → InTurn s.config (landed (paid_up part s)).inputs part i
  unfolding credits_reached credits_returned
  in_turn i h b =
      ap (λ (t : Bool). xor t (starts_kind (kind_at part i)))
      (landed_keeps (paid_up part s) paid_up_sound inside_of (λ x. refl) (channel_number s.config i (vc_at part i))
      ∙ paid_keeps s.config s.home s.inputs inside_of (λ x. refl) (channel_number s.config i (vc_at part i)))
      ∙ permitted.turns i h b

  paid_for : (i : ℕ) → i < s.config.ports → brings part i ≡ true → PaidFor s.config (landed (paid_up part s)).inputs part i
  unfolding credits_reached credits_returned
  paid_for i h b =
      let same = landed_keeps (paid_up part s) paid_up_sound (λ (x : InputVc). x.credit) (λ x. refl)
      (channel_number s.config i (vc_at part i)) in
      subst (λ (n : ℕ). 1 ≤ n) (sym same) (permitted.paid i h b)

  newest_empty : (k i : ℕ) → i < s.config.ports → suc k ≡ s.config.forward → wire_place (landed (paid_up part s)).wire k i ≡ 0
  unfolding credits_reached credits_returned landed
  newest_empty k i h e =
      let few = (sound_legal s sound).ports.1 in
      advanced_newest s.config.forward s.config.ports s.wire sound.sizes.wire_rest (sound_lengths s sound).wire k i
      (omega arith) e

  module _ (bytes : AreBytes part) where
    pub ready : Ready (landed (paid_up part s)) part
    unfolding credits_reached credits_returned landed
    ready =
        record {
          sound = landed_sound (paid_up part s) paid_up_sound;
          bytes = bytes;
          legal = permitted.offers;
          turn = in_turn;
          paid = paid_for;
          empty = newest_empty;
        }

    -- a sound router is sound after what comes in
    pub taken_in_sound : Sound (taken_in part s)
    unfolding taken_in
    taken_in_sound = offers_taken_sound (landed (paid_up part s)) part ready
