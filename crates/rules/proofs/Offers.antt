-- Phase 4: "A taken flit costs one sender credit and enters the wire." (01), channel by channel.
-- Assumes nothing.
use mathlib.Core.Path.{◌≡◌, refl, ap, ◌∙◌}
use mathlib.Core.Logic.{◌≢◌}
use mathlib.Core.Bool.{Bool, true, false, cond, ◌&&◌}
use mathlib.Core.List.{List, [], ◌∷◌}
use Rattle.std.specs.Prelude.{Option, Some, None}
use Rattle.std.proofs.lemmas.Option.{same_Some, none-some}
use Prim.Native.Nat.{ℕ, suc, ◌+◌, ◌*◌, ◌≤◌, ◌<◌}
use native.Mathlib.Omega.{arith}
use lib.Dec.{eqb}
use lib.ListN.{length, get_or, set}
use borrow.Author.Tests.{eq-eqb}
use Rattle.base.specs.declared.config.Config.{Config}
use Rattle.base.specs.declared.flit.Flit.{Flit}
use Rattle.state.specs.declared.InputVc.{InputVc}
use Rattle.state.specs.Fresh.{fresh_input}
use Rattle.state.specs.Views.{channel_number, input_at, wire_place}
use Rattle.rules.specs.Ports.{over_ports}
use Rattle.rules.specs.Rows.{brings, kind_at, vc_at, flit_at}
use Rattle.rules.specs.Intake.{Senders, offer_taken, newest, on_wire, taken_at, offers}
use Rattle.rules.proofs.Folds.{changed, changed_at, turns, turns_at, turns_elsewhere, turns_length}
use Rattle.rules.proofs.Turns.{on_channel, Made, made_length, made_keeps, made_at, made_past, over_seen}
use Rattle.rules.proofs.Permitted.{Offered}

-- whether port i brings a flit on VC v, and that flit
abbrev pub brings_on : List ℕ → ℕ → ℕ → Bool
brings_on part i v = brings part i && eqb (vc_at part i) v

abbrev pub offered : List ℕ → ℕ → ℕ → List Flit
offered part i v = cond (brings_on part i v) (flit_at part i ∷ []) []

module _ (c : Config) (part : List ℕ) (s : Senders) where
  -- the VC on which port i brings a flit, and the place that it enters
  abbrev offering : ℕ → Option ℕ
  offering i = cond (brings part i) (Some (vc_at part i)) None

  abbrev entering : ℕ → Option ℕ
  entering i = cond (brings part i) (Some (newest c.forward i)) None

  abbrev placed : ℕ → ℕ → ℕ
  placed i place = on_wire (vc_at part i) (flit_at part i)

  taken : Made c (fresh_input 0) offering (λ (i : ℕ). offer_taken (kind_at part i)) s.inputs (offers c part s).inputs
  unfolding offers
  taken = record { is = over_seen (λ (t : Senders). t.inputs) c.ports (taken_at c part) _ s (λ t i l. go t i (brings part i)) }
    where
      go : (t : Senders) (i : ℕ) (b : Bool)
          → (cond b
          (record {
            inputs = set t.inputs (channel_number c i (vc_at part i)) (offer_taken (kind_at part i) (input_at c t.inputs i (vc_at part i)));
            wire = set t.wire (newest c.forward i) (on_wire (vc_at part i) (flit_at part i));
          }) t).inputs
          ≡ changed (fresh_input 0) (offer_taken (kind_at part i)) (on_channel c i (cond b (Some (vc_at part i)) None)) t.inputs
      go t i true = refl
      go t i false = refl

  wire_is : (offers c part s).wire ≡ over_ports c.ports (turns 0 entering placed) s.wire
  unfolding offers
  wire_is = over_seen (λ (t : Senders). t.wire) c.ports (taken_at c part) (turns 0 entering placed) s (λ t i l. go t i (brings part i))
    where
      go : (t : Senders) (i : ℕ) (b : Bool)
          → (cond b
          (record {
            inputs = set t.inputs (channel_number c i (vc_at part i)) (offer_taken (kind_at part i) (input_at c t.inputs i (vc_at part i)));
            wire = set t.wire (newest c.forward i) (on_wire (vc_at part i) (flit_at part i));
          }) t).wire
          ≡ changed 0 (placed i) (cond b (Some (newest c.forward i)) None) t.wire
      go t i true = refl
      go t i false = refl

  pub offers_length : (length (offers c part s).inputs ≡ length s.inputs) × (length (offers c part s).wire ≡ length s.wire)
  offers_length = (made_length taken, ap length wire_is ∙ turns_length 0 entering placed c.ports s.wire)

  -- all but the credit and whether a packet is open stays
  pub offers_keep : {B : Type 0} (see : InputVc → B) → ((kind : ℕ) (x : InputVc) → see (offer_taken kind x) ≡ see x) → (x : ℕ)
      → see (get_or (offers c part s).inputs x (fresh_input 0)) ≡ see (get_or s.inputs x (fresh_input 0))
  offers_keep see same = made_keeps taken see (λ i. same (kind_at part i))

  module _ (near : (i : ℕ) → i < c.ports → brings part i ≡ true → Offered c part i) where
    there : (i v : ℕ) → i < c.ports → offering i ≡ Some v → v < c.vcs
    there i v h e = go (brings part i) refl e
      where
        go : (b : Bool) → brings part i ≡ b → cond b (Some (vc_at part i)) None ≡ Some v → v < c.vcs
        go true p q = let l = (near i h p).vc in let r = same_Some (vc_at part i) v q in omega arith
        go false p q = absurd (none-some v q)

    -- the input VC on which a flit is brought pays for it, and no other
    pub offer_costs : (i v : ℕ) → i < c.ports → v < c.vcs → c.ports * c.vcs ≤ length s.inputs
        → input_at c (offers c part s).inputs i v
        ≡ cond (brings_on part i v) (offer_taken (kind_at part i) (input_at c s.inputs i v)) (input_at c s.inputs i v)
    offer_costs i v h g room = made_at taken there i v h g room ∙ go (brings part i)
      where
        go : (b : Bool) → changed_at v (offer_taken (kind_at part i)) (cond b (Some (vc_at part i)) None) (input_at c s.inputs i v)
            ≡ cond (b && eqb (vc_at part i) v) (offer_taken (kind_at part i) (input_at c s.inputs i v)) (input_at c s.inputs i v)
        go true = refl
        go false = refl

    -- what is no channel's stays
    pub offers_past : (x : ℕ) → c.ports * c.vcs ≤ x → get_or (offers c part s).inputs x (fresh_input 0) ≡ get_or s.inputs x (fresh_input 0)
    offers_past = made_past taken there

  -- the wire's newest place of a port that brings a flit holds it
  enters_at : (j y : ℕ) → newest c.forward j ≢ y → entering j ≢ Some y
  enters_at j y n e = go (brings part j) e
    where
      go : (b : Bool) → cond b (Some (newest c.forward j)) None ≡ Some y → ⊥
      go true q = n (same_Some (newest c.forward j) y q)
      go false q = none-some y q

  pub newest_place : (i k : ℕ) → i < c.ports → suc k ≡ c.forward → 8 * k + i < length s.wire
      → wire_place (offers c part s).wire k i ≡ cond (brings part i) (on_wire (vc_at part i) (flit_at part i)) (wire_place s.wire k i)
  newest_place i k h e room =
      ap (λ (l : List ℕ). wire_place l k i) wire_is
      ∙ turns_at 0 entering placed c.ports s.wire (8 * k + i) i h room (λ j l n. enters_at j (8 * k + i) (λ q. n (omega arith)))
      ∙ go (brings part i)
    where
      go : (b : Bool) → changed_at (8 * k + i) (placed i) (cond b (Some (newest c.forward i)) None) (wire_place s.wire k i)
          ≡ cond b (on_wire (vc_at part i) (flit_at part i)) (wire_place s.wire k i)
      go true =
          ap (λ (b : Bool). cond b (on_wire (vc_at part i) (flit_at part i)) (wire_place s.wire k i))
          (eq-eqb (newest c.forward i) (8 * k + i) (omega arith))
      go false = refl

  -- every other place stays
  pub other_place : (m : ℕ) → ((i : ℕ) → i < c.ports → newest c.forward i ≢ m) → get_or (offers c part s).wire m 0 ≡ get_or s.wire m 0
  other_place m n =
      ap (λ (l : List ℕ). get_or l m 0) wire_is ∙ turns_elsewhere 0 entering placed c.ports s.wire m (λ i h. enters_at i m (n i h))
