-- What each channel is after phases 1 to 4 of a cycle that no rule refuses, by its views.
-- Assumes nothing.
use mathlib.Core.Path.{◌≡◌, refl, ap, subst, ◌∙◌}
use mathlib.Core.Bool.{Bool, true, false, cond, not}
use mathlib.Core.List.{List, [], ◌∷◌, ◌++◌}
use Prim.Native.Nat.{ℕ, ◌+◌, ◌≤◌, ◌<◌}
use native.Mathlib.Omega.{arith}
use lib.ListN.{length, get_or, drop}
use Rattle.base.specs.declared.config.Config.{Config}
use Rattle.base.specs.declared.flit.Flit.{Flit}
use Rattle.base.specs.Flit.{ends_kind}
use Rattle.state.specs.declared.InputVc.{InputVc}
use Rattle.state.specs.declared.Router.{Router}
use Rattle.state.specs.Fresh.{fresh_input, fresh_output}
use Rattle.state.specs.Sound.{Sound}
use Rattle.state.specs.Views.{channel_number, input_at, output_at, queue_of, wire_place, wire_of, home_place, home_of, to_vc, on_vc}
use Rattle.trace.specs.Bytes.{AreBytes}
use Rattle.rules.specs.Rows.{kind_at, credit_at, flit_at}
use Rattle.rules.specs.Intake.{offer_taken, credits_reached, credits_returned, landed, offers_taken}
use Rattle.rules.specs.Numbers.{rules_of}
use Rattle.rules.specs.Step.{taken_in}
use Rattle.rules.proofs.FirstRule.{NoneHolds}
use Rattle.rules.proofs.Lines.{places_advance}
use Rattle.rules.proofs.Advance.{advanced_place, home_advanced}
use Rattle.rules.proofs.Facts.{sound_legal, sound_lengths, inputs_room, outputs_room, home_at}
use Rattle.rules.proofs.Kept.{binding_of, inside_of, queued_of, holder_of}
use Rattle.rules.proofs.CreditsReached.{paid_keeps, credit_reaches}
use Rattle.rules.proofs.CreditsReturned.{credit_returns, returned_keeps}
use Rattle.rules.proofs.Landed.{lands, landed_keeps, queue_lands, queued_lands}
use Rattle.rules.proofs.Offers.{brings_on, offered, offers_keep}
use Rattle.rules.proofs.OffersTaken.{newest_holds, older_stays, input_after, on_vc-law}
use Rattle.rules.proofs.IntakeSound.{permitted, paid_up, paid_up_sound, ready}

module _ (s : Router) (part : List ℕ) (sound : Sound s) (none : NoneHolds (rules_of s part)) (bytes : AreBytes part) where
  abbrev c : Config
  c = s.config

  -- after phase 3
  abbrev mid : Router
  mid = landed (paid_up part s)

  -- the credits on their way home have come one cycle nearer
  pub home_after : (i v : ℕ) → i < c.ports → home_of c (taken_in part s).home i v ≡ drop 1 (home_of c s.home i v) ++ (0 ∷ [])
  unfolding taken_in offers_taken landed credits_returned credits_reached
  home_after i v h =
      let l = sound_legal s sound in
      let few = l.ports.1 in
      home_advanced c i v (omega arith) s.home l.back.0 sound.sizes.home_rest (sound_lengths s sound).home

  -- so have the flits on the wire, and what is brought enters it
  pub wire_after : (i v : ℕ) → i < c.ports → wire_of c (taken_in part s).wire i v
      ≡ drop 1 (wire_of c s.wire i v) ++ (offered part i v ∷ [])
  unfolding taken_in offers_taken landed credits_returned credits_reached wire_of
  wire_after i v h =
      places_advance c.forward (λ (k : ℕ). on_vc v (wire_place s.wire k i)) (λ (k : ℕ). on_vc v (wire_place (taken_in part s).wire k i))
      (offered part i v) (sound_legal s sound).forward.0
      (λ k l. older_stays mid part (ready s part sound none bytes) k i v h l ∙ ap (on_vc v) (advanced_place s.wire k i))
      (λ k e. newest_holds mid part (ready s part sound none bytes) k i v h e)

  -- a taken flit changes neither what is bound nor what is queued
  mid_keeps : {B : Type 0} (see : InputVc → B) → ((kind : ℕ) (x : InputVc) → see (offer_taken kind x) ≡ see x) → (x : ℕ)
      → see (get_or (taken_in part s).inputs x (fresh_input 0)) ≡ see (get_or mid.inputs x (fresh_input 0))
  unfolding taken_in offers_taken landed credits_returned credits_reached
  mid_keeps see same x = offers_keep c part (record { inputs = mid.inputs; wire = mid.wire }) see same x

  pub binding_after : (x : ℕ) → binding_of (get_or (taken_in part s).inputs x (fresh_input 0)) ≡ binding_of (get_or s.inputs x (fresh_input 0))
  unfolding credits_returned credits_reached
  binding_after x =
      mid_keeps binding_of (λ k x. refl) x ∙ landed_keeps (paid_up part s) (paid_up_sound s part sound none) binding_of (λ x. refl) x
      ∙ paid_keeps c s.home s.inputs binding_of (λ x. refl) x

  -- what landed is queued
  pub queued_after : (i v : ℕ) → i < c.ports → v < c.vcs
      → (input_at c (taken_in part s).inputs i v).queued ≡ (input_at c s.inputs i v).queued + length (lands s.wire i v)
  unfolding credits_returned credits_reached
  queued_after i v h g =
      mid_keeps queued_of (λ k x. refl) (channel_number c i v)
      ∙ queued_lands (paid_up part s) (paid_up_sound s part sound none) i v h g
      ∙ ap (λ (n : ℕ). n + length (lands s.wire i v)) (paid_keeps c s.home s.inputs queued_of (λ x. refl) (channel_number c i v))

  pub queue_after : (i v : ℕ) → i < c.ports → v < c.vcs
      → queue_of c (taken_in part s).store i v (input_at c (taken_in part s).inputs i v).queued
      ≡ queue_of c s.store i v (input_at c s.inputs i v).queued ++ lands s.wire i v
  unfolding taken_in offers_taken credits_returned credits_reached
  queue_after i v h g =
      ap (queue_of c mid.store i v) (mid_keeps queued_of (λ k x. refl) (channel_number c i v))
      ∙ queue_lands (paid_up part s) (paid_up_sound s part sound none) i v h g
      ∙ ap (λ (n : ℕ). queue_of c s.store i v n ++ lands s.wire i v)
      (paid_keeps c s.home s.inputs queued_of (λ x. refl) (channel_number c i v))

  -- the VC of port i after phase 3, and the one after phase 4
  abbrev mid_input : ℕ → ℕ → InputVc
  mid_input i v = input_at c mid.inputs i v

  input_is : (i v : ℕ) → i < c.ports → v < c.vcs
      → input_at c (taken_in part s).inputs i v ≡ cond (brings_on part i v) (offer_taken (kind_at part i) (mid_input i v)) (mid_input i v)
  unfolding taken_in offers_taken landed credits_returned credits_reached
  input_is i v h g = input_after mid part (ready s part sound none bytes) i v h g

  -- a credit that came home is added, a taken flit's is spent
  pub credit_after : (i v : ℕ) → i < c.ports → v < c.vcs
      → (input_at c (taken_in part s).inputs i v).credit + length (offered part i v)
      ≡ (input_at c s.inputs i v).credit + to_vc v (home_place s.home 0 i)
  unfolding credits_returned credits_reached landed
  credit_after i v h g =
      ap (λ (x : InputVc). x.credit + length (offered part i v)) (input_is i v h g) ∙ go (brings_on part i v) refl
      ∙ landed_keeps (paid_up part s) (paid_up_sound s part sound none) (λ (x : InputVc). x.credit) (λ x. refl) (channel_number c i v)
      ∙ credit_reaches c s.home s.inputs (λ j l. home_at s sound 0 j (sound_legal s sound).back.0 l) i v h g (inputs_room s sound)
    where
      go : (b : Bool) → brings_on part i v ≡ b
          → (cond b (offer_taken (kind_at part i) (mid_input i v)) (mid_input i v)).credit + length {A = Flit} (cond b (flit_at part i ∷ []) [])
          ≡ (mid_input i v).credit
      go true e =
          let on = on_vc-law mid part (ready s part sound none bytes) i v e in
          let paid = subst (λ (u : ℕ). 1 ≤ (mid_input i u).credit) on.1 ((ready s part sound none bytes).paid i h on.0) in
          omega arith
      go false e = omega arith

  -- after a taken flit a packet is open, unless it ends one
  pub inside_after : (i v : ℕ) → i < c.ports → v < c.vcs
      → (input_at c (taken_in part s).inputs i v).opened
      ≡ cond (brings_on part i v) (not (ends_kind (kind_at part i))) (input_at c s.inputs i v).opened
  unfolding credits_returned credits_reached
  inside_after i v h g = ap (λ (x : InputVc). x.opened) (input_is i v h g) ∙ go (brings_on part i v)
    where
      go : (b : Bool) → (cond b (offer_taken (kind_at part i) (mid_input i v)) (mid_input i v)).opened
          ≡ cond b (not (ends_kind (kind_at part i))) (input_at c s.inputs i v).opened
      go true = refl
      go false =
          landed_keeps (paid_up part s) (paid_up_sound s part sound none) inside_of (λ x. refl) (channel_number c i v)
          ∙ paid_keeps c s.home s.inputs inside_of (λ x. refl) (channel_number c i v)

  -- each credit from downstream is added
  pub output_credit_after : (o w : ℕ) → o < c.ports → w < c.vcs
      → (output_at c (taken_in part s).outputs o w).credit ≡ (output_at c s.outputs o w).credit + to_vc w (credit_at part o)
  unfolding taken_in offers_taken landed credits_returned credits_reached
  output_credit_after o w h g =
      credit_returns c part s.outputs (λ p l. ((permitted s part sound none).credits p l).there) o w h g (outputs_room s sound)

  pub holder_after : (x : ℕ) → holder_of (get_or (taken_in part s).outputs x (fresh_output 0)) ≡ holder_of (get_or s.outputs x (fresh_output 0))
  unfolding taken_in offers_taken landed credits_returned credits_reached
  holder_after x = returned_keeps c part s.outputs x
