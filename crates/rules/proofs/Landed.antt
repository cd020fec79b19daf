-- Phase 3 on the views alone: queue, wire and what is queued of each channel of a sound router.
-- Assumes nothing.
use mathlib.Core.Path.{◌≡◌, refl, sym, ap, subst, ◌∙◌}
use mathlib.Core.Logic.{◌≢◌}
use mathlib.Core.Bool.{Bool, true, false, cond, not, ◌&&◌, ◌||◌}
use mathlib.Core.List.{List, [], ◌∷◌, ◌++◌, append-nil}
use Rattle.std.specs.Prelude.{Option, Some, None}
use Rattle.std.proofs.lemmas.Option.{same_Some, none-some}
use Prim.Native.Nat.{ℕ, ◌+◌, ◌*◌, ◌≤◌, ◌<◌}
use native.Mathlib.Nat.{add-zero}
use native.Mathlib.Omega.{arith}
use lib.Dec.{eqb, ltb}
use lib.ListN.{length, get_or, drop, length-append}
use borrow.Author.Tests.{eqb-false, ne_eqb, ltb-true, ltb-false}
use Rattle.base.specs.declared.config.Config.{Config}
use Rattle.base.specs.declared.flit.Flit.{Flit}
use Rattle.base.proofs.Search.{both, every_at, all_every}
use Rattle.state.specs.declared.InputVc.{InputVc}
use Rattle.state.specs.declared.Router.{Router}
use Rattle.state.specs.Fresh.{fresh_input}
use Rattle.state.specs.Sound.{Sound, all, legal_flit, wire_place_legal, slots_empty}
use Rattle.state.specs.Views.{channel_number, input_at, queue_of, wire_place, wire_of, wire_vc, wire_flit, on_vc, flat}
use Rattle.state.proofs.EmptySlots.{empty_in, queued_at}
use Rattle.rules.specs.Intake.{Queues, one_more_queued, joined, landed_at, landings, advanced, landed}
use Rattle.rules.proofs.Channels.{channel_of, channel_room}
use Rattle.rules.proofs.Folds.{changed}
use Rattle.rules.proofs.Turns.{on_channel, Made, made_keeps, made_past, over_seen}
use Rattle.rules.proofs.Lines.{flat_end, flat_first}
use Rattle.rules.proofs.Advance.{wire_advanced}
use Rattle.rules.proofs.Facts.{credits_sum, sound_legal, sound_lengths, wire_at}
use Rattle.rules.proofs.Arrivals.{Lane, lane, one_more, Whole, is_on, landings_whole, lane_lands, lane_past}

-- what lands on VC v of input i
abbrev pub lands : List ℕ → ℕ → ℕ → List Flit
lands wire i v = on_vc v (wire_place wire 0 i)

-- the flits on a wire: those of its oldest place, and those that are on it a cycle later
pub wire_flits : (c : Config) (wire : List ℕ) (i v : ℕ) → 1 ≤ c.forward → wire_of c (advanced wire) i v
    ≡ drop 1 (wire_of c wire i v) ++ ([] ∷ [])
    → flat (wire_of c wire i v) ≡ lands wire i v ++ flat (wire_of c (advanced wire) i v)
unfolding wire_of
wire_flits c wire i v pos e =
    flat_first c.forward (λ (k : ℕ). on_vc v (wire_place wire k i)) pos
    ∙ ap (λ (l : List Flit). lands wire i v ++ l)
    (sym (ap flat e ∙ flat_end (drop 1 (wire_of c wire i v)) [] ∙ append-nil (flat (drop 1 (wire_of c wire i v)))))

-- a legal place that is not empty holds a legal flit on a VC that there is
pub place_vc : (c : Config) (place : ℕ) → wire_place_legal c place ≡ true → place ≢ 0 → (legal_flit c (wire_flit place) ≡ true)
    × (wire_vc place < c.vcs)
unfolding wire_place_legal
place_vc c place e n =
    let p = both (legal_flit c (wire_flit place)) (ltb (wire_vc place) c.vcs)
    (sym (ap (λ (b : Bool). b || (legal_flit c (wire_flit place) && ltb (wire_vc place) c.vcs)) (ne_eqb place 0 n)) ∙ e) in
    (p.0, ltb-true (wire_vc place) c.vcs p.1)

pub place_flits : (c : Config) (v place : ℕ) → wire_place_legal c place ≡ true → all (legal_flit c) (on_vc v place) ≡ true
unfolding all
place_flits c v place e = go (eqb place 0) refl (eqb (wire_vc place) v)
  where
    go : (a : Bool) → eqb place 0 ≡ a → (b : Bool) → all (legal_flit c) (cond (not a && b) (wire_flit place ∷ []) []) ≡ true
    go true q b = refl
    go false q false = refl
    go false q true = ap (λ (t : Bool). t && true) (place_vc c place e (eqb-false place 0 q)).0

-- the input VCs: one more is queued where a flit lands, and nothing else changes
module _ (c : Config) (wire : List ℕ) (q : Queues) where
  abbrev landing : ℕ → Option ℕ
  landing i = cond (eqb (wire_place wire 0 i) 0) None (Some (wire_vc (wire_place wire 0 i)))

  counted : Made c (fresh_input 0) landing (λ (i : ℕ). one_more_queued) q.inputs (landings c wire q).inputs
  unfolding landings
  counted =
      record {
        is =
            over_seen (λ (t : Queues). t.inputs) c.ports (λ q i. landed_at c (wire_place wire 0 i) i q) _ q
            (λ t i l. go t i (eqb (wire_place wire 0 i) 0));
      }
    where
      go : (t : Queues) (i : ℕ) (b : Bool) → (cond b t (joined c i (wire_vc (wire_place wire 0 i)) (wire_flit (wire_place wire 0 i)) t)).inputs
          ≡ changed (fresh_input 0) one_more_queued (on_channel c i (cond b None (Some (wire_vc (wire_place wire 0 i))))) t.inputs
      go t i true = refl
      go t i false = refl

  -- all but the number queued stays
  pub landings_keep : {B : Type 0} (see : InputVc → B) → ((x : InputVc) → see (one_more_queued x) ≡ see x) → (x : ℕ)
      → see (get_or (landings c wire q).inputs x (fresh_input 0)) ≡ see (get_or q.inputs x (fresh_input 0))
  landings_keep see same = made_keeps counted see (λ i. same)

  -- what is no channel's stays
  pub landings_past : ((i : ℕ) → i < c.ports → wire_place wire 0 i ≢ 0 → wire_vc (wire_place wire 0 i) < c.vcs) → (x : ℕ)
      → c.ports * c.vcs ≤ x
      → get_or (landings c wire q).inputs x (fresh_input 0) ≡ get_or q.inputs x (fresh_input 0)
  landings_past near = made_past counted (λ i v l. there i v l (eqb (wire_place wire 0 i) 0) refl)
    where
      there : (i v : ℕ) → i < c.ports → (b : Bool) → eqb (wire_place wire 0 i) 0 ≡ b → cond b None (Some (wire_vc (wire_place wire 0 i)))
          ≡ Some v
          → v < c.vcs
      there i v l true p e = absurd (none-some v e)
      there i v l false p e =
          let near = near i l (eqb-false (wire_place wire 0 i) 0 p) in
          let same = same_Some (wire_vc (wire_place wire 0 i)) v e in
          omega arith

module _ (s : Router) (sound : Sound s) where
  abbrev c : Config
  c = s.config

  abbrev before : Queues
  before = record { inputs = s.inputs; store = s.store }

  abbrev after : Queues
  after = landings c s.wire before

  near : (i : ℕ) → i < c.ports → wire_place s.wire 0 i ≢ 0 → wire_vc (wire_place s.wire 0 i) < c.vcs
  near i h n = (place_vc c (wire_place s.wire 0 i) (wire_at s sound 0 i (let f = (sound_legal s sound).forward.0 in omega arith) h) n).1

  whole : Whole before
  whole = let l = sound_lengths s sound in record { inputs = l.inputs; store = l.store }

  -- what lands comes off the wire's front
  pub flits_land : (i v : ℕ) → i < c.ports → flat (wire_of c s.wire i v) ≡ lands s.wire i v ++ flat (wire_of c (landed s).wire i v)
  unfolding landed
  flits_land i v h =
      let l = sound_legal s sound in
      let few = l.ports.1 in
      let pos = l.forward.0 in
      wire_flits c s.wire i v pos (wire_advanced c i v (omega arith) s.wire pos sound.sizes.wire_rest
      (sound_lengths s sound).wire)

  empty : (x : ℕ) → x < 32 → (lane before x).empty ≡ true
  unfolding slots_empty
  empty x h = every_at 32 (λ (x : ℕ). empty_in s.store x (queued_at s.inputs x)) sound.flow.slots x h

  -- "A queue can't overflow"
  room : (i v : ℕ) → i < c.ports → v < c.vcs → queued_at s.inputs (channel_number c i v) + length (lands s.wire i v) ≤ 16
  room i v h g =
      let sum = credits_sum c s.inputs s.wire s.home sound.flow.credits i v h g in
      let deep = (sound_legal s sound).depth.1 in
      let more = ap length (flits_land i v h) ∙ length-append (lands s.wire i v) (flat (wire_of c (landed s).wire i v)) in
      omega arith

  landed_lane : (i v : ℕ) → i < c.ports → v < c.vcs → lane after (channel_number c i v)
      ≡ cond (is_on v (wire_place s.wire 0 i)) (one_more (wire_flit (wire_place s.wire 0 i)) (lane before (channel_number c i v)))
      (lane before (channel_number c i v))
  landed_lane i v h g =
      lane_lands c (sound_legal s sound) s.wire near before whole i v h g (room i v h g)
      (empty (channel_number c i v) (channel_room c (sound_legal s sound) i v h g))

  -- the slots behind a queue, or of no channel, are empty
  pub slots_land : slots_empty (landed s).inputs (landed s).store ≡ true
  unfolding landed slots_empty
  slots_land =
      all_every 32 (λ (x : ℕ). empty_in after.store x (queued_at after.inputs x)) (λ x h. go x h (ltb x (c.ports * c.vcs)) refl)
    where
      here : (i v : ℕ) → i < c.ports → v < c.vcs → (lane after (channel_number c i v)).empty ≡ true
      here i v h g = ap (λ (l : Lane). l.empty) (landed_lane i v h g) ∙ either (is_on v (wire_place s.wire 0 i))
        where
          either : (b : Bool)
              → (cond b (one_more (wire_flit (wire_place s.wire 0 i)) (lane before (channel_number c i v)))
              (lane before (channel_number c i v))).empty
              ≡ true
          either true = refl
          either false = empty (channel_number c i v) (channel_room c (sound_legal s sound) i v h g)

      go : (x : ℕ) → x < 32 → (b : Bool) → ltb x (c.ports * c.vcs) ≡ b → (lane after x).empty ≡ true
      go x h true e =
          let n = channel_of c x (sound_legal s sound).vcs.0 (ltb-true x (c.ports * c.vcs) e) in
          subst (λ (y : ℕ). (lane after y).empty ≡ true) n.is (here n.port n.vc n.port_there n.vc_there)
      go x h false e =
          ap (λ (l : Lane). l.empty) (lane_past c (sound_legal s sound) s.wire near before whole x
          (ltb-false x (c.ports * c.vcs) e) h)
          ∙ empty x h

  -- the queue gets what lands
  pub queue_lands : (i v : ℕ) → i < c.ports → v < c.vcs
      → queue_of c (landed s).store i v (input_at c (landed s).inputs i v).queued
      ≡ queue_of c s.store i v (input_at c s.inputs i v).queued ++ lands s.wire i v
  unfolding landed
  queue_lands i v h g = ap (λ (l : Lane). l.queue) (landed_lane i v h g) ∙ go (is_on v (wire_place s.wire 0 i))
    where
      go : (b : Bool) → (cond b (one_more (wire_flit (wire_place s.wire 0 i)) (lane before (channel_number c i v)))
          (lane before (channel_number c i v))).queue
          ≡ (lane before (channel_number c i v)).queue ++ cond b (wire_flit (wire_place s.wire 0 i) ∷ []) []
      go true = refl
      go false = sym (append-nil (lane before (channel_number c i v)).queue)

  pub queued_lands : (i v : ℕ) → i < c.ports → v < c.vcs
      → (input_at c (landed s).inputs i v).queued ≡ (input_at c s.inputs i v).queued + length (lands s.wire i v)
  unfolding landed
  queued_lands i v h g = ap (λ (l : Lane). l.queued) (landed_lane i v h g) ∙ go (is_on v (wire_place s.wire 0 i))
    where
      go : (b : Bool) → (cond b (one_more (wire_flit (wire_place s.wire 0 i)) (lane before (channel_number c i v)))
          (lane before (channel_number c i v))).queued
          ≡ (lane before (channel_number c i v)).queued + length {A = Flit} (cond b (wire_flit (wire_place s.wire 0 i) ∷ []) [])
      go true = refl
      go false = sym (add-zero (lane before (channel_number c i v)).queued)

  -- the wire gives it up
  pub wire_lands : (i v : ℕ) → i < c.ports → wire_of c (landed s).wire i v ≡ drop 1 (wire_of c s.wire i v) ++ ([] ∷ [])
  unfolding landed
  wire_lands i v h =
      let l = sound_legal s sound in
      let few = l.ports.1 in
      wire_advanced c i v (omega arith) s.wire l.forward.0 sound.sizes.wire_rest (sound_lengths s sound).wire

  -- binding, credit and whether a packet is open stay
  pub landed_keeps : {B : Type 0} (see : InputVc → B) → ((x : InputVc) → see (one_more_queued x) ≡ see x) → (x : ℕ)
      → see (get_or (landed s).inputs x (fresh_input 0)) ≡ see (get_or s.inputs x (fresh_input 0))
  unfolding landed
  landed_keeps see same x = landings_keep c s.wire before see same x

  pub landed_past : (x : ℕ) → c.ports * c.vcs ≤ x → get_or (landed s).inputs x (fresh_input 0) ≡ get_or s.inputs x (fresh_input 0)
  unfolding landed
  landed_past = landings_past c s.wire before near

  pub landed_whole : (length (landed s).inputs ≡ 32) × (length (landed s).store ≡ 512)
  unfolding landed
  landed_whole = let w = landings_whole c (sound_legal s sound) s.wire near before whole in (w.inputs, w.store)
