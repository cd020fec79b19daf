-- Phase 4 keeps a router sound where each flit is legal, in turn and paid for, and the wire has moved up before it.
-- Assumes nothing.
use mathlib.Core.Path.{◌≡◌, refl, sym, ap, ap₂, subst, ◌∙◌}
use mathlib.Core.Logic.{◌⊎◌, inl, inr}
use mathlib.Core.Bool.{Bool, true, false, cond, not, xor, ◌&&◌}
use mathlib.Core.List.{List, [], ◌∷◌, ◌++◌, append-nil}
use Prim.Native.Nat.{ℕ, suc, ◌+◌, ◌*◌, ◌≤◌, ◌<◌}
use native.Mathlib.Omega.{arith}
use lib.Dec.{eqb}
use lib.ListN.{length, length-append}
use borrow.Author.Tests.{eqb-true, eqb-false}
use Rattle.base.specs.declared.config.Config.{Config}
use Rattle.base.specs.declared.flit.Flit.{Flit}
use Rattle.base.specs.Flit.{starts_kind, ends_kind}
use Rattle.base.proofs.Search.{both, all_every}
use Rattle.state.specs.declared.InputVc.{InputVc}
use Rattle.state.specs.declared.Router.{Router}
use Rattle.state.specs.Sound.{Sound, wire_place_legal, wire_legal, line_unused, credits_add_up, packets_read, reads}
use Rattle.state.specs.Views.{input_at, queue_of, wire_place, wire_of, home_of, on_vc, flat, total}
use Rattle.state.proofs.Exact.{shape_is}
use Rattle.trace.specs.Bytes.{AreBytes}
use Rattle.rules.specs.Rows.{brings, kind_at, vc_at, flit_at}
use Rattle.rules.specs.Intake.{Senders, offer_taken, on_wire, offers, offers_taken}
use Rattle.rules.proofs.Channels.{channel_at, all_channels}
use Rattle.rules.proofs.Lines.{flat_newest}
use Rattle.rules.proofs.Advance.{rest_at, at_rest}
use Rattle.rules.proofs.Facts.{credits_sum, sum_credits, sound_legal, sound_lengths, inputs_room, wire_at}
use Rattle.rules.proofs.Kept.{binding_of, queued_of, queues_kept, slots_kept, names_kept, unused_kept}
use Rattle.rules.proofs.Packets.{reads_on}
use Rattle.rules.proofs.Permitted.{Offered, InTurn, PaidFor}
use Rattle.rules.proofs.OfferedFlits.{offered_kind, offered_place_legal, offered_on}
use Rattle.rules.proofs.Offers.{brings_on, offered, offers_length, offers_keep, offer_costs, offers_past, newest_place, other_place}

-- what phase 4 asks of the router and the rows: each flit is legal, in turn and paid for, and the newest places are empty
pub record Ready (s : Router) (part : List ℕ) : Type 0 where
  pub sound : Sound s
  pub bytes : AreBytes part
  pub legal : (i : ℕ) → i < s.config.ports → brings part i ≡ true → Offered s.config part i
  pub turn : (i : ℕ) → i < s.config.ports → brings part i ≡ true → InTurn s.config s.inputs part i
  pub paid : (i : ℕ) → i < s.config.ports → brings part i ≡ true → PaidFor s.config s.inputs part i
  pub empty : (k i : ℕ) → i < s.config.ports → suc k ≡ s.config.forward → wire_place s.wire k i ≡ 0

module _ (s : Router) (part : List ℕ) (ready : Ready s part) where
  abbrev c : Config
  c = s.config

  abbrev before : Senders
  before = record { inputs = s.inputs; wire = s.wire }

  abbrev after : Senders
  after = offers c part before

  few : c.ports ≤ 8
  few = (sound_legal s ready.sound).ports.1

  -- what the newest place of port i holds
  newest_is : (k i : ℕ) → i < c.ports → suc k ≡ c.forward
      → wire_place after.wire k i ≡ cond (brings part i) (on_wire (vc_at part i) (flit_at part i)) 0
  newest_is k i h e =
      let short = (sound_legal s ready.sound).forward.1 in
      let long = (sound_lengths s ready.sound).wire in
      let p = few in
      newest_place c part before i k h e (omega arith)
      ∙ ap (cond (brings part i) (on_wire (vc_at part i) (flit_at part i))) (ready.empty k i h e)

  -- a place that is not the newest of a port that there is stays
  stays : (k i : ℕ) → i < 8 → ((suc k ≡ c.forward) → (i < c.ports) → ⊥) → wire_place after.wire k i ≡ wire_place s.wire k i
  stays k i l n =
      let p = few in
      let pos = (sound_legal s ready.sound).forward.0 in
      other_place c part before (8 * k + i) (λ j h e. n (omega arith) (omega arith))

  pub newest_holds : (k i v : ℕ) → i < c.ports → suc k ≡ c.forward → on_vc v (wire_place after.wire k i) ≡ offered part i v
  newest_holds k i v h e = ap (on_vc v) (newest_is k i h e) ∙ go (brings part i) refl
    where
      go : (b : Bool) → brings part i ≡ b
          → on_vc v (cond b (on_wire (vc_at part i) (flit_at part i)) 0) ≡ cond (b && eqb (vc_at part i) v) (flit_at part i ∷ []) []
      go true q = offered_on c (sound_legal s ready.sound) part ready.bytes i (ready.legal i h q) v
      go false q = refl

  pub older_stays : (k i v : ℕ) → i < c.ports → suc k < c.forward → on_vc v (wire_place after.wire k i)
      ≡ on_vc v (wire_place s.wire k i)
  older_stays k i v h l = let p = few in ap (on_vc v) (stays k i (omega arith) (λ e g. absurd (omega arith)))

  -- what is brought joins the wire's end
  pub flits_enter : (i v : ℕ) → i < c.ports → flat (wire_of c after.wire i v) ≡ flat (wire_of c s.wire i v) ++ offered part i v
  unfolding wire_of
  flits_enter i v h =
      flat_newest c.forward (λ (k : ℕ). on_vc v (wire_place s.wire k i)) (λ (k : ℕ). on_vc v (wire_place after.wire k i))
      (offered part i v)
      (sound_legal s ready.sound).forward.0
      (λ k l. older_stays k i v h l) (λ k e. ap (on_vc v) (ready.empty k i h e)) (λ k e. newest_holds k i v h e)

  -- what the input VC is after it
  pub input_after : (i v : ℕ) → i < c.ports → v < c.vcs → input_at c after.inputs i v
      ≡ cond (brings_on part i v) (offer_taken (kind_at part i) (input_at c s.inputs i v)) (input_at c s.inputs i v)
  input_after i v h g = offer_costs c part before ready.legal i v h g (inputs_room s ready.sound)

  -- a flit on VC v is brought on that VC
  pub on_vc-law : (i v : ℕ) → brings_on part i v ≡ true → (brings part i ≡ true) × (vc_at part i ≡ v)
  on_vc-law i v e = let p = both (brings part i) (eqb (vc_at part i) v) e in (p.0, eqb-true (vc_at part i) v p.1)

  -- VC v of input i as it was, and the flits on its wire
  abbrev input : ℕ → ℕ → InputVc
  input i v = input_at c s.inputs i v

  abbrev wired : ℕ → ℕ → List Flit
  wired i v = flat (wire_of c s.wire i v)

  -- one credit less, one flit more on the wire
  abbrev sum : ℕ → ℕ → InputVc → List Flit → ℕ
  sum i v x fs = x.credit + length fs + x.queued + total (home_of c s.home i v)

  credits : credits_add_up c after.inputs after.wire s.home ≡ true
  credits =
      sum_credits c after.inputs after.wire s.home (λ i v h g.
      ap₂ (sum i v) (input_after i v h g) (flits_enter i v h)
      ∙ go i v h (credits_sum c s.inputs s.wire s.home ready.sound.flow.credits i v h g) (brings_on part i v) refl)
    where
      go : (i v : ℕ) → i < c.ports → sum i v (input i v) (wired i v) ≡ c.depth → (b : Bool) → brings_on part i v ≡ b
          → sum i v (cond b (offer_taken (kind_at part i) (input i v)) (input i v)) (wired i v ++ cond b (flit_at part i ∷ []) []) ≡ c.depth
      go i v h was true e =
          let on = on_vc-law i v e in
          let paid = subst (λ (u : ℕ). 1 ≤ (input i u).credit) on.1 (ready.paid i h on.0) in
          let more = length-append (wired i v) (flit_at part i ∷ []) in
          omega arith
      go i v h was false e = ap (sum i v (input i v)) (append-nil (wired i v)) ∙ was

  wire : wire_legal c after.wire ≡ true
  unfolding wire_legal
  wire = all_every c.forward _ (λ k h. all_every c.ports _ (λ i g. go k i h g (eqb (suc k) c.forward) refl))
    where
      newer : (k i : ℕ) → k < c.forward → i < c.ports → (b : Bool) → brings part i ≡ b
          → wire_place_legal c (wire_place s.wire k i) ≡ true → wire_place s.wire k i ≡ 0
          → wire_place_legal c (cond b (on_wire (vc_at part i) (flit_at part i)) 0) ≡ true
      newer k i h g true q was z = offered_place_legal c (sound_legal s ready.sound) part ready.bytes i (ready.legal i g q)
      newer k i h g false q was z = ap (wire_place_legal c) (sym z) ∙ was

      go : (k i : ℕ) → k < c.forward → i < c.ports → (b : Bool) → eqb (suc k) c.forward ≡ b
          → wire_place_legal c (wire_place after.wire k i) ≡ true
      go k i h g true q =
          let e = eqb-true (suc k) c.forward q in
          ap (wire_place_legal c) (newest_is k i g e)
          ∙ newer k i h g (brings part i) refl (wire_at s ready.sound k i h g) (ready.empty k i g e)
      go k i h g false q =
          let p = few in
          ap (wire_place_legal c) (stays k i (omega arith) (λ e r. eqb-false (suc k) c.forward q e)) ∙ wire_at s ready.sound k i h g

  wire_rest-law : line_unused c.forward c.ports after.wire ≡ true
  wire_rest-law =
      at_rest c.forward c.ports after.wire (λ k i l h out.
      stays k i h (λ e g. unused k i e g out)
      ∙ rest_at c.forward c.ports s.wire ready.sound.sizes.wire_rest (sound_lengths s ready.sound).wire k i h out)
    where
      unused : (k i : ℕ) → suc k ≡ c.forward → i < c.ports → (c.forward ≤ k) ⊎ (c.ports ≤ i) → ⊥
      unused k i e g (inl p) = omega arith
      unused k i e g (inr p) = omega arith

  -- the flit may come next, so the reading goes on
  abbrev read : ℕ → ℕ → InputVc → List Flit → Bool
  read i v x fs = reads (queue_of c s.store i v x.queued) fs x.binding x.opened

  packets : packets_read c after.inputs s.store after.wire ≡ true
  unfolding packets_read
  packets =
      all_channels c (λ i v. read i v (input_at c after.inputs i v) (flat (wire_of c after.wire i v))) (λ i v h g.
      ap₂ (read i v) (input_after i v h g) (flits_enter i v h)
      ∙ go i v h (channel_at c (λ i v. read i v (input i v) (wired i v)) ready.sound.naming.packets i v h g) (brings_on part i v) refl)
    where
      go : (i v : ℕ) → i < c.ports → read i v (input i v) (wired i v) ≡ true → (b : Bool) → brings_on part i v ≡ b
          → read i v (cond b (offer_taken (kind_at part i) (input i v)) (input i v)) (wired i v ++ cond b (flit_at part i ∷ []) []) ≡ true
      go i v h was true e =
          let on = on_vc-law i v e in
          let queue = queue_of c s.store i v (input i v).queued in
          let kind = offered_kind c (sound_legal s ready.sound) part ready.bytes i (ready.legal i h on.0) in
          let turn = ap₂ (λ (u k : ℕ). xor (input i u).opened (starts_kind k)) (sym on.1) kind ∙ ready.turn i h on.0 in
          ap (λ (k : ℕ). reads queue (wired i v ++ (flit_at part i ∷ [])) (input i v).binding (not (ends_kind k))) (sym kind)
          ∙ reads_on queue (wired i v) (input i v).binding (input i v).opened (flit_at part i) was turn
      go i v h was false e = ap (read i v (input i v)) (append-nil (wired i v)) ∙ was

  pub offers_taken_sound : Sound (offers_taken part s)
  unfolding offers_taken
  offers_taken_sound =
      let sound = ready.sound in
      let l = sound_lengths s sound in
      let m = offers_length c part before in
      let queued = offers_keep c part before queued_of (λ k x. refl) in
      let bound = offers_keep c part before binding_of (λ k x. refl) in
      record {
        sizes =
            record {
              configuration = sound.sizes.configuration;
              cycles = sound.sizes.cycles;
              wire = wire;
              home = sound.sizes.home;
              wire_rest = wire_rest-law;
              home_rest = sound.sizes.home_rest;
              shape = shape_is _ (m.0 ∙ l.inputs) l.outputs l.store (m.1 ∙ l.wire) l.home;
            };
        flow =
            record {
              credits = credits;
              queues = queues_kept c after.inputs s.inputs s.store queued ∙ sound.flow.queues;
              output_credits = sound.flow.output_credits;
              channels =
                  unused_kept c after.inputs s.inputs s.outputs s.outputs (offers_past c part before ready.legal)
                  (λ x h. refl)
                  ∙ sound.flow.channels;
              slots = slots_kept c after.inputs s.inputs s.store queued ∙ sound.flow.slots;
            };
        naming =
            record {
              names = names_kept c after.inputs s.inputs s.outputs s.outputs bound (λ x. refl) ∙ sound.naming.names;
              packets = packets;
            };
        arbitration =
            record {
              arbiters = sound.arbitration.arbiters;
              others = sound.arbitration.others;
            };
      }
