-- The counts of a sound router are at most 16, so that one cycle takes none of them past a byte.
-- Assumes nothing.
use mathlib.Core.Path.{◌≡◌, refl, sym, ap, ◌∙◌}
use mathlib.Core.Bool.{Bool, true, false, ◌&&◌, ◌||◌}
use Prim.Native.Nat.{ℕ, ◌*◌, ◌<◌, ◌≤◌}
use native.Mathlib.Omega.{arith}
use lib.Dec.{eqb, leb, ltb}
use lib.ListN.{get_or, get_or-eq_default}
use borrow.Author.Tests.{ltb-true, ltb-false, leb-true, eqb-true, le-ltb}
use Rattle.base.specs.declared.config.Config.{Config}
use Rattle.base.proofs.Search.{both, every_at}
use Rattle.base.proofs.Configurations.{Legal}
use Rattle.state.specs.declared.InputVc.{InputVc}
use Rattle.state.specs.declared.OutputVc.{OutputVc}
use Rattle.state.specs.declared.Router.{Router}
use Rattle.state.specs.Fresh.{fresh_input, fresh_output}
use Rattle.state.specs.Sound.{Sound, input_unused, output_unused, channels_unused, output_credits_fit, is_unbound, is_vc_free}
use Rattle.state.specs.Views.{input_at, output_at}
use Rattle.rules.specs.Intake.{senders_paid}
use Rattle.rules.proofs.Channels.{Split, channel_of, channel_at}
use Rattle.rules.proofs.CreditsReached.{paid_keeps}
use Rattle.rules.proofs.Facts.{credits_sum, sound_legal, sound_lengths}
use Rattle.router.specs.Fitting.{CreditsFit, QueuesFit, OutputCreditsFit}

module _ (s : Router) (sound : Sound s) where
  abbrev c : Config
  c = s.config

  legal : Legal c
  legal = sound_legal s sound

  -- a channel that there is, one that there is not, a place past the arrays
  data Where (x : ℕ) : Type 0 where
    there : Split c x → Where x
    unused : c.ports * c.vcs ≤ x → x < 32 → Where x
    past : 32 ≤ x → Where x

  where_is : (x : ℕ) → Where x
  where_is x = go (ltb x (c.ports * c.vcs)) refl (ltb x 32) refl
    where
      go : (a : Bool) → ltb x (c.ports * c.vcs) ≡ a → (b : Bool) → ltb x 32 ≡ b → Where x
      go true e _ _ = there (channel_of c x legal.vcs.0 (ltb-true x (c.ports * c.vcs) e))
      go false e true f = unused (ltb-false x (c.ports * c.vcs) e) (ltb-true x 32 f)
      go false e false f = past (ltb-false x 32 f)

  unused_at : (x : ℕ) → c.ports * c.vcs ≤ x → x < 32
      → (input_unused (get_or s.inputs x (fresh_input 0)) ≡ true) × (output_unused (get_or s.outputs x (fresh_output 0)) ≡ true)
  unfolding channels_unused
  unused_at x h l =
      let here : Bool = input_unused (get_or s.inputs x (fresh_input 0)) && output_unused (get_or s.outputs x (fresh_output 0)) in
      let e = every_at 32 _ sound.flow.channels x l in
      both (input_unused (get_or s.inputs x (fresh_input 0))) (output_unused (get_or s.outputs x (fresh_output 0)))
      (sym (ap (λ (b : Bool). b || here) (le-ltb x (c.ports * c.vcs) h)) ∙ e)

  unused_input : (x : InputVc) → input_unused x ≡ true → (x.credit ≡ 0) × (x.queued ≡ 0)
  unused_input x e =
      let a = both (is_unbound x.binding && eqb x.credit 0 && _) (eqb x.queued 0) e in
      let b = both (is_unbound x.binding && eqb x.credit 0) _ a.0 in
      let d = both (is_unbound x.binding) (eqb x.credit 0) b.0 in (eqb-true x.credit 0 d.1, eqb-true x.queued 0 a.1)

  counts_fit : (x : ℕ) → ((get_or s.inputs x (fresh_input 0)).credit ≤ 16) × ((get_or s.inputs x (fresh_input 0)).queued ≤ 16)
  counts_fit x = go (where_is x)
    where
      low : (y : InputVc) → get_or s.inputs x (fresh_input 0) ≡ y → (y.credit ≤ 16) × (y.queued ≤ 16)
          → ((get_or s.inputs x (fresh_input 0)).credit ≤ 16) × ((get_or s.inputs x (fresh_input 0)).queued ≤ 16)
      low y e h = rw e h

      go : Where x → ((get_or s.inputs x (fresh_input 0)).credit ≤ 16) × ((get_or s.inputs x (fresh_input 0)).queued ≤ 16)
      go (there p) =
          let sum = credits_sum c s.inputs s.wire s.home sound.flow.credits p.port p.vc p.port_there p.vc_there in
          let d = legal.depth.1 in
          low (input_at c s.inputs p.port p.vc) (ap (λ (y : ℕ). get_or s.inputs y (fresh_input 0)) (sym p.is))
          (omega arith, omega arith)
      go (unused h l) =
          let u = unused_input (get_or s.inputs x (fresh_input 0)) (unused_at x h l).0 in
          let a = u.0 in
          let b = u.1 in (omega arith, omega arith)
      go (past h) =
          let n = (sound_lengths s sound).inputs in
          low (fresh_input 0) (get_or-eq_default s.inputs (fresh_input 0) (omega arith)) (omega arith, omega arith)

  pub credits_fit : CreditsFit 16 s.inputs
  credits_fit x = (counts_fit x).0

  -- a payment leaves the queues
  pub queues_fit : QueuesFit 16 (senders_paid c s.home s.inputs)
  queues_fit x = rw (paid_keeps c s.home s.inputs (λ (y : InputVc). y.queued) (λ y. refl) x) (counts_fit x).1

  pub output_credits_fit-law : OutputCreditsFit 16 s.outputs
  unfolding output_credits_fit
  output_credits_fit-law y = go (where_is y)
    where
      low : (z : OutputVc) → get_or s.outputs y (fresh_output 0) ≡ z → z.credit ≤ 16 → (get_or s.outputs y (fresh_output 0)).credit ≤ 16
      low z e h = rw e h

      go : Where y → (get_or s.outputs y (fresh_output 0)).credit ≤ 16
      go (there p) =
          let d = legal.downstream.1 in
          let k = leb-true (output_at c s.outputs p.port p.vc).credit c.downstream
          (channel_at c (λ o w. leb (output_at c s.outputs o w).credit c.downstream) sound.flow.output_credits p.port p.vc
          p.port_there p.vc_there) in
          low (output_at c s.outputs p.port p.vc) (ap (λ (x : ℕ). get_or s.outputs x (fresh_output 0)) (sym p.is)) (omega arith)
      go (unused h l) =
          let e = both (is_vc_free (get_or s.outputs y (fresh_output 0)).holder) _ (unused_at y h l).1 in
          let a = eqb-true (get_or s.outputs y (fresh_output 0)).credit 0 e.1 in omega arith
      go (past h) =
          let n = (sound_lengths s sound).outputs in
          low (fresh_output 0) (get_or-eq_default s.outputs (fresh_output 0) (omega arith)) (omega arith)
