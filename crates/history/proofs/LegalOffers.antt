-- What an accepted cycle's part brings is within the free router's limits: in range (3), in turn (4), paid for (5), and with room (6).
-- Assumes nothing.
use Rattle.std.specs.Prelude.{Ok}
use mathlib.Core.Path.{◌≡◌, refl, sym, ap, subst, ◌∙◌}
use mathlib.Core.Bool.{Bool, true, false, cond, not, xor, ◌&&◌}
use mathlib.Core.List.{List}
use Rattle.std.specs.Prelude.{Some, None}
use Rattle.std.proofs.lemmas.Option.{same_Some, none-some}
use Prim.Native.Nat.{ℕ, ◌+◌, ◌≤◌, ◌<◌}
use native.Mathlib.Omega.{arith}
use lib.Arith.{lt_of_le-ne}
use lib.Dec.{eqb, leb, ltb}
use borrow.Author.Tests.{ltb-true, leb-true}
use Rattle.base.specs.declared.config.Config.{Config}
use Rattle.base.specs.declared.flit.Flit.{Flit}
use Rattle.base.specs.Flit.{kind_of, destination_of, starts_kind}
use Rattle.model.specs.Channel.{taken_now}
use Rattle.model.specs.Cycle.{Brought}
use Rattle.model.specs.Line.{out}
use Rattle.state.specs.declared.Router.{Router}
use Rattle.state.specs.Channels.{ChannelView, out_credit_of}
use Rattle.state.specs.Sound.{Sound, output_credits_fit}
use Rattle.state.specs.Views.{input_at, output_at, home_of}
use Rattle.trace.specs.Bytes.{AreBytes}
use Rattle.rules.specs.Free.{look, channel_of, free_of, event_of}
use Rattle.rules.specs.Intake.{senders_paid}
use Rattle.rules.specs.Ports.{named}
use Rattle.rules.specs.Rows.{credit_at, brings, kind_at, vc_at, destination_at, flit_at}
use Rattle.rules.specs.Step.{step_of}
use Rattle.rules.proofs.Accepted.{accepted_none, accepted_before}
use Rattle.rules.proofs.Channels.{channel_at}
use Rattle.rules.proofs.ChosenViews.{is_there-law, view_there}
use Rattle.rules.proofs.CreditsReached.{credit_reaches}
use Rattle.rules.proofs.Facts.{sound_legal, inputs_room, home_at}
use Rattle.rules.proofs.IntakeChannel.{home_out}
use Rattle.rules.proofs.Named.{named_there}
use Rattle.rules.proofs.OfferedFlits.{offered_kind, offered_destination}
use Rattle.rules.proofs.Permitted.{Permitted, Offered, none_permits}

-- what port i brings, if it is there and its row brings a flit
pub record Brings (c : Config) (part : List ℕ) (i : ℕ) (b : Brought Flit) : Type 0 where
  pub port : i < c.ports
  pub brought : brings part i ≡ true
  pub is : record { vc = vc_at part i; flit = flit_at part i } ≡ b

pub offer_is : (c : Config) (part : List ℕ) (i : ℕ) (b : Brought Flit) → (event_of c part).offer i ≡ Some b → Brings c part i b
unfolding event_of
offer_is c part i b = go (ltb i c.ports) refl (brings part i) refl
  where
    go : (t : Bool) → ltb i c.ports ≡ t → (u : Bool) → brings part i ≡ u
        → cond (t && u) (Some (record { vc = vc_at part i; flit = flit_at part i })) None ≡ Some b → Brings c part i b
    go true e true f q = record { port = ltb-true i c.ports e; brought = f; is = same_Some _ b q }
    go true e false f q = absurd (none-some b q)
    go false e u f q = absurd (none-some b q)

-- the credit that comes back at output o, if it is there and its row names a VC
pub credit_is : (c : Config) (part : List ℕ) (o w : ℕ) → (event_of c part).credit o ≡ Some w → (o < c.ports)
    × (named (credit_at part o) ≡ Some w)
unfolding event_of
credit_is c part o w = go (ltb o c.ports) refl
  where
    go : (t : Bool) → ltb o c.ports ≡ t → cond t (named (credit_at part o)) None ≡ Some w → (o < c.ports)
        × (named (credit_at part o) ≡ Some w)
    go true e q = (ltb-true o c.ports e, q)
    go false e q = absurd (none-some w q)

turned : (inside starts : Bool) → xor inside starts ≡ true → starts ≡ not inside
unfolding xor
turned true true q = sym q
turned true false q = refl
turned false true q = refl
turned false false q = q

module _ (s : Router) (part : List ℕ) (bytes : AreBytes part) (accepted : (step_of s part).verdict ≡ Ok tt) where
  abbrev c : Config
  c = s.config

  sound : Sound s
  sound = accepted_before s part bytes accepted

  permitted : Permitted s part
  permitted = none_permits s part (sound_legal s sound) (accepted_none s part bytes accepted)

  -- a port that brings a flit
  module _ (i : ℕ) (b : Brought Flit) (q : (event_of c part).offer i ≡ Some b) where
    it : Brings c part i b
    it = offer_is c part i b q

    row : Offered c part i
    row = permitted.offers i it.port it.brought

    -- not 3
    pub offer_vc-law : b.vc < c.vcs
    offer_vc-law = subst (λ (x : Brought Flit). x.vc < c.vcs) it.is row.vc

    starts_is : look.starts b.flit ≡ starts_kind (kind_at part i)
    starts_is =
        ap (λ (x : Brought Flit). starts_kind (kind_of x.flit)) (sym it.is)
        ∙ ap starts_kind (offered_kind c (sound_legal s sound) part bytes i row)

    pub offer_destination-law : look.starts b.flit ≡ true → look.port b.flit < c.ports
    offer_destination-law e =
        subst (λ (n : ℕ). n < c.ports)
        (sym (offered_destination c (sound_legal s sound) part bytes i row) ∙ ap (λ (x : Brought Flit). destination_of x.flit) it.is)
        (ltb-true (destination_at part i) c.ports
        (ap (λ (t : Bool). cond t (ltb (destination_at part i) c.ports) (eqb (destination_at part i) 0)) (sym e ∙ starts_is)
        ∙ row.destination))

    -- not 4
    pub offer_kinds : look.starts b.flit ≡ not ((free_of s).opened i b.vc)
    unfolding free_of
    offer_kinds =
        starts_is
        ∙ turned (input_at c s.inputs i (vc_at part i)).opened (starts_kind (kind_at part i)) (permitted.turns i it.port it.brought)
        ∙ ap (λ (x : Brought Flit). not (input_at c s.inputs i x.vc).opened) it.is
        ∙ ap (λ (ch : ChannelView). not ch.opened) (sym (view_there s i b.vc it.port offer_vc-law))

    -- not 5
    pub offer_paid : taken_now ((free_of s).channel i b.vc) < c.depth
    unfolding free_of
    offer_paid =
        subst (λ (ch : ChannelView). taken_now (channel_of ch) < c.depth) (sym (view_there s i b.vc it.port offer_vc-law))
        (let legal = sound_legal s sound in
        let paid : 1 ≤ (input_at c s.inputs i b.vc).credit + out 0 (home_of c s.home i b.vc) =
        subst (λ (n : ℕ). 1 ≤ n)
        (credit_reaches c s.home s.inputs (λ j l. home_at s sound 0 j legal.back.0 l) i b.vc it.port offer_vc-law
        (inputs_room s sound)
        ∙ ap (λ (n : ℕ). (input_at c s.inputs i b.vc).credit + n) (sym (home_out c i b.vc s.home legal.back.0)))
        (subst (λ (x : Brought Flit). 1 ≤ (input_at c (senders_paid c s.home s.inputs) i x.vc).credit) it.is
        (permitted.paid i it.port it.brought)) in
        let Some = legal.depth.0 in
        omega arith)

  -- not 6
  pub credit_room : (o w : ℕ) → (event_of c part).credit o ≡ Some w → (free_of s).out_credit o w < c.downstream
  unfolding free_of out_credit_of output_credits_fit
  credit_room o w q =
      let r = credit_is c part o w q in
      let fits = permitted.credits o r.0 in
      let vc = named_there (credit_at part o) c.vcs w fits.there r.1 in
      let most = leb-true (output_at c s.outputs o w).credit c.downstream
      (channel_at c (λ o w. leb (output_at c s.outputs o w).credit c.downstream) sound.flow.output_credits o w r.0 vc) in
      subst (λ (t : Bool). cond t (output_at c s.outputs o w).credit c.downstream < c.downstream) (sym (is_there-law c o w r.0 vc))
      (lt_of_le-ne most (fits.room w r.1))
