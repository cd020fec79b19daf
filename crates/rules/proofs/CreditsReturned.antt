-- Phase 2: "Each credit from downstream raises the named output VC's credit by one." (01), channel by channel, and a sound router stays
-- sound where each such credit has room.
-- Assumes nothing.
use mathlib.Core.Path.{◌≡◌, refl, ap, ◌∙◌}
use mathlib.Core.Bool.{Bool, true, false, cond}
use mathlib.Core.List.{List}
use Rattle.std.specs.Prelude.{Option, Some, None}
use Prim.Native.Nat.{ℕ, suc, ◌+◌, ◌*◌, ◌≤◌, ◌<◌}
use native.Mathlib.Omega.{arith}
use lib.Arith.{lt_of_le-ne}
use lib.Dec.{eqb, leb}
use lib.ListN.{length, get_or}
use borrow.Author.Tests.{eqb-true, le-leb, leb-true}
use Rattle.base.specs.declared.config.Config.{Config}
use Rattle.state.specs.declared.OutputVc.{OutputVc}
use Rattle.state.specs.declared.Router.{Router}
use Rattle.state.specs.Fresh.{fresh_output}
use Rattle.state.specs.Sound.{Sound, output_credits_fit}
use Rattle.state.specs.Views.{output_at, to_vc}
use Rattle.state.proofs.Exact.{shape_is}
use Rattle.rules.specs.Ports.{named}
use Rattle.rules.specs.Rows.{credit_at}
use Rattle.rules.specs.Intake.{output_paid, credit_from, outputs_paid, credits_returned}
use Rattle.rules.proofs.Channels.{channel_at, all_channels}
use Rattle.rules.proofs.Folds.{changed, over_same}
use Rattle.rules.proofs.Named.{named_there, named_raises}
use Rattle.rules.proofs.Turns.{on_channel, Made, made_length, made_keeps, made_at, made_past}
use Rattle.rules.proofs.Facts.{sound_lengths, outputs_room}
use Rattle.rules.proofs.Kept.{holder_of, names_kept, unused_kept}
use Rattle.rules.proofs.Permitted.{CreditFits}

module _ (c : Config) (part : List ℕ) (outputs : List OutputVc) where
  -- the VC whose credit comes back at port o
  abbrev returning : ℕ → Option ℕ
  returning o = named (credit_at part o)

  returned : Made c (fresh_output 0) returning (λ (o : ℕ). output_paid) outputs (outputs_paid c part outputs)
  unfolding outputs_paid
  returned = record {
    is = over_same c.ports (λ outputs o. credit_from c o (returning o) outputs) _ outputs (λ t o l. go t o (returning o));
  }
    where
      go : (t : List OutputVc) (o : ℕ) (n : Option ℕ) → credit_from c o n t ≡ changed (fresh_output 0) output_paid (on_channel c o n) t
      go t o None = refl
      go t o (Some w) = refl

  pub returned_length : length (outputs_paid c part outputs) ≡ length outputs
  returned_length = made_length returned

  -- the holder stays
  pub returned_keeps : (x : ℕ) → holder_of (get_or (outputs_paid c part outputs) x (fresh_output 0)) ≡ holder_of (get_or outputs x (fresh_output 0))
  returned_keeps = made_keeps returned holder_of (λ o y. refl)

  module _ (near : (o : ℕ) → o < c.ports → credit_at part o ≤ c.vcs) where
    there : (o w : ℕ) → o < c.ports → returning o ≡ Some w → w < c.vcs
    there o w h e = named_there (credit_at part o) c.vcs w (near o h) e

    -- the row's credit raises the credit of the VC that it names
    pub credit_returns : (o w : ℕ) → o < c.ports → w < c.vcs → c.ports * c.vcs ≤ length outputs
        → (output_at c (outputs_paid c part outputs) o w).credit ≡ (output_at c outputs o w).credit + to_vc w (credit_at part o)
    credit_returns o w h g room =
        ap (λ (y : OutputVc). y.credit) (made_at returned there o w h g room)
        ∙ named_raises (λ (y : OutputVc). y.credit) output_paid (λ y. refl) w (credit_at part o) (output_at c outputs o w)

    -- what is no channel's stays
    pub returned_past : (x : ℕ) → c.ports * c.vcs ≤ x → get_or (outputs_paid c part outputs) x (fresh_output 0)
        ≡ get_or outputs x (fresh_output 0)
    returned_past = made_past returned there

module _ (s : Router) (part : List ℕ) (sound : Sound s)
    (fits : (o : ℕ) → o < s.config.ports → CreditFits s.config s.outputs part o) where
  abbrev c : Config
  c = s.config

  near : (o : ℕ) → o < c.ports → credit_at part o ≤ c.vcs
  near o h = (fits o h).there

  -- "output credits are at most E": there is room for the one that comes
  output_credits-law : output_credits_fit c (outputs_paid c part s.outputs) ≡ true
  unfolding output_credits_fit
  output_credits-law =
      all_channels c (λ o w. leb (output_at c (outputs_paid c part s.outputs) o w).credit c.downstream) (λ o w h g.
      let before = leb-true (output_at c s.outputs o w).credit c.downstream
      (channel_at c (λ o w. leb (output_at c s.outputs o w).credit c.downstream) sound.flow.output_credits o w h g) in
      let raised = credit_returns c part s.outputs near o w h g (outputs_room s sound) in
      le-leb _ c.downstream (go o w h (eqb (credit_at part o) (w + 1)) refl (output_at c s.outputs o w).credit refl before raised))
    where
      go : (o w : ℕ) → o < c.ports → (b : Bool) → eqb (credit_at part o) (w + 1) ≡ b → (n : ℕ) → (output_at c s.outputs o w).credit ≡ n
          → n ≤ c.downstream → (output_at c (outputs_paid c part s.outputs) o w).credit ≡ n + cond b 1 0
          → (output_at c (outputs_paid c part s.outputs) o w).credit ≤ c.downstream
      go o w h true e n q l r =
          let k = eqb-true (credit_at part o) (w + 1) e in
          let m : credit_at part o ≡ suc w = omega arith in
          let less = lt_of_le-ne l (λ z. (fits o h).room w (ap named m) (q ∙ z)) in
          omega arith
      go o w h false e n q l r = omega arith

  pub credits_returned_sound : Sound (credits_returned part s)
  unfolding credits_returned
  credits_returned_sound =
      let paid = outputs_paid c part s.outputs in
      let l = sound_lengths s sound in
      record {
        sizes =
            record {
              configuration = sound.sizes.configuration;
              cycles = sound.sizes.cycles;
              wire = sound.sizes.wire;
              home = sound.sizes.home;
              wire_rest = sound.sizes.wire_rest;
              home_rest = sound.sizes.home_rest;
              shape = shape_is _ l.inputs (returned_length c part s.outputs ∙ l.outputs) l.store l.wire l.home;
            };
        flow =
            record {
              credits = sound.flow.credits;
              queues = sound.flow.queues;
              output_credits = output_credits-law;
              channels =
                  unused_kept c s.inputs s.inputs paid s.outputs (λ x h. refl) (returned_past c part s.outputs near)
                  ∙ sound.flow.channels;
              slots = sound.flow.slots;
            };
        naming =
            record {
              names = names_kept c s.inputs s.inputs paid s.outputs (λ x. refl) (returned_keeps c part s.outputs)
                  ∙ sound.naming.names;
              packets = sound.naming.packets;
            };
        arbitration =
            record {
              arbiters = sound.arbitration.arbiters;
              others = sound.arbitration.others;
            };
      }
