-- Phase 3: "A flit accepted F cycles ago joins the end of its VC queue." (01), channel by channel: what is queued, the queue, and the empty
-- slots behind it.
-- Assumes nothing.
use mathlib.Core.Path.{◌≡◌, refl, sym, ap, subst, ◌∙◌}
use mathlib.Core.Logic.{◌≢◌}
use mathlib.Core.Bool.{Bool, true, false, cond, not, ◌&&◌}
use mathlib.Core.List.{List, [], ◌∷◌, ◌++◌, map}
use Prim.Native.Nat.{ℕ, ◌+◌, ◌*◌, ◌≤◌, ◌<◌}
use native.Mathlib.Omega.{arith}
use lib.Dec.{eqb, leb, ltb}
use lib.ListN.{length, get_or, set, take, drop, length-set, length-take}
use lib.Seq.{get_or-set_same, get_or-set_other, take_all, take-take}
use borrow.Author.Tests.{eqb-true, eqb-false, ltb-true, ltb-false, leb-true, leb-false}
use Rattle.base.specs.declared.config.Config.{Config}
use Rattle.base.specs.declared.flit.Flit.{Flit}
use Rattle.base.proofs.Configurations.{Legal}
use Rattle.state.specs.declared.InputVc.{InputVc}
use Rattle.state.specs.Fresh.{fresh_input}
use Rattle.store.specs.Store.{first_slot, pushed}
use Rattle.state.specs.Views.{channel_number, queue_at, wire_place, wire_vc, wire_flit, on_vc, slot_flit}
use Rattle.state.proofs.EmptySlots.{empty_in, queued_at, push_keeps_empty, push_keeps_empty_others}
use Rattle.state.proofs.Queues.{queue_in, push_appends, push_keeps_others}
use Rattle.store.proofs.Slots.{push_full, push_length}
use Rattle.rules.specs.Intake.{Queues, one_more_queued, joined, landed_at, landings}
use Rattle.rules.proofs.Channels.{channel_below, channel_apart, channel_room}
use Rattle.rules.proofs.Folds.{over_keeps}
use Rattle.rules.proofs.Turns.{over_once, over_stays}

-- no channel holds more than its slots
queue_capped : (store : List ℕ) (x r : ℕ) → 16 ≤ r → queue_in store x r ≡ queue_in store x 16
unfolding queue_at
queue_capped store x r h =
    let slots = drop (first_slot x) store in
    ap (map slot_flit) (take_all r (take 16 slots) (omega (arith, length-take 16 slots)) ∙ sym (take-take 16 16 slots (omega arith)))

-- a push leaves every other queue, also where its own is full
push_keeps_queue : (store : List ℕ) (x q : ℕ) (f : Flit) (y r : ℕ) → x < 32 → y < 32 → length store ≡ 512 → x ≢ y
    → queue_in (pushed store x q f) y r ≡ queue_in store y r
push_keeps_queue store x q f y r there here whole n = go (ltb q 16) refl (leb r 16) refl
  where
    go : (b : Bool) → ltb q 16 ≡ b → (a : Bool) → leb r 16 ≡ a → queue_in (pushed store x q f) y r ≡ queue_in store y r
    go false e a p = ap (λ (l : List ℕ). queue_in l y r) (sym (push_full store x q f (ltb-false q 16 e)))
    go true e true p = push_keeps_others store x there whole q f y r n (ltb-true q 16 e) here (leb-true r 16 p)
    go true e false p =
        let many = leb-false r 16 p in
        queue_capped (pushed store x q f) y r (omega arith)
        ∙ push_keeps_others store x there whole q f y 16 n (ltb-true q 16 e) here (omega arith)
        ∙ sym (queue_capped store y r (omega arith))

push_keeps_slots_behind : (store : List ℕ) (x q : ℕ) (f : Flit) (y r : ℕ) → x ≢ y → empty_in (pushed store x q f) y r ≡ empty_in store y r
push_keeps_slots_behind store x q f y r n = go (ltb q 16) refl
  where
    go : (b : Bool) → ltb q 16 ≡ b → empty_in (pushed store x q f) y r ≡ empty_in store y r
    go true e = push_keeps_empty_others store x q f y r n (ltb-true q 16 e)
    go false e = ap (λ (l : List ℕ). empty_in l y r) (sym (push_full store x q f (ltb-false q 16 e)))

-- what the store holds of a channel
pub record Lane : Type 0 where
  pub queued : ℕ
  pub queue : List Flit
  pub empty : Bool  -- whether the slots behind the queue are

abbrev pub lane : Queues → ℕ → Lane
lane q x =
    record {
      queued = queued_at q.inputs x;
      queue = queue_in q.store x (queued_at q.inputs x);
      empty = empty_in q.store x (queued_at q.inputs x);
    }

-- a flit joins the queue of channel x
abbrev joins : ℕ → Flit → Queues → Queues
joins x f q =
    record {
      inputs = set q.inputs x (one_more_queued (get_or q.inputs x (fresh_input 0)));
      store = pushed q.store x (queued_at q.inputs x) f;
    }

-- the arrays are whole
pub record Whole (q : Queues) : Type 0 where
  pub inputs : length q.inputs ≡ 32
  pub store : length q.store ≡ 512

joins_whole : (x : ℕ) (f : Flit) (q : Queues) → Whole q → Whole (joins x f q)
joins_whole x f q w =
    record {
      inputs = length-set q.inputs x _ ∙ w.inputs;
      store = push_length q.store x (queued_at q.inputs x) f ∙ w.store;
    }

joins_elsewhere : (x : ℕ) (f : Flit) (q : Queues) (y : ℕ) → Whole q → x < 32 → y < 32 → x ≢ y → lane (joins x f q) y ≡ lane q y
joins_elsewhere x f q y w there here n =
    let more = one_more_queued (get_or q.inputs x (fresh_input 0)) in
    let k = queued_at q.inputs x in
    let r = queued_at q.inputs y in
    let e : queued_at (joins x f q).inputs y ≡ r
    = ap (λ (z : InputVc). z.queued) (get_or-set_other q.inputs x y more (fresh_input 0) (λ p. n (sym p))) in
    let a = ap (queue_in (joins x f q).store y) e ∙ push_keeps_queue q.store x k f y r there here w.store n in
    let b = ap (empty_in (joins x f q).store y) e ∙ push_keeps_slots_behind q.store x k f y r n in
    λ t. record { queued = e t; queue = a t; empty = b t }

-- a channel's lane with one flit more
abbrev pub one_more : Flit → Lane → Lane
one_more f l = record { queued = l.queued + 1; queue = l.queue ++ (f ∷ []); empty = true }

joins_here : (x : ℕ) (f : Flit) (q : Queues) → Whole q → x < 32 → queued_at q.inputs x < 16 → (lane q x).empty ≡ true
    → lane (joins x f q) x ≡ one_more f (lane q x)
joins_here x f q w there room empty =
    let l = w.inputs in
    let more = one_more_queued (get_or q.inputs x (fresh_input 0)) in
    let k = queued_at q.inputs x in
    let e : queued_at (joins x f q).inputs x ≡ k + 1
    = ap (λ (z : InputVc). z.queued) (get_or-set_same q.inputs x more (fresh_input 0) (omega arith)) in
    let a = ap (queue_in (joins x f q).store x) e ∙ push_appends q.store x there w.store k f room in
    let b = ap (empty_in (joins x f q).store x) e ∙ push_keeps_empty q.store x k f empty in
    λ t. record { queued = e t; queue = a t; empty = b t }

-- whether a wire place holds a flit on VC v
abbrev pub is_on : ℕ → ℕ → Bool
is_on v place = not (eqb place 0) && eqb (wire_vc place) v

module _ (c : Config) (legal : Legal c) (wire : List ℕ)
    (near : (i : ℕ) → i < c.ports → wire_place wire 0 i ≢ 0 → wire_vc (wire_place wire 0 i) < c.vcs) where
  abbrev turn : Queues → ℕ → Queues
  turn q i = landed_at c (wire_place wire 0 i) i q

  turn_whole : (q : Queues) (i : ℕ) → i < c.ports → Whole q → Whole (turn q i)
  turn_whole q i h w = go (eqb (wire_place wire 0 i) 0)
    where
      go : (b : Bool) → Whole (cond b q (joined c i (wire_vc (wire_place wire 0 i)) (wire_flit (wire_place wire 0 i)) q))
      go true = w
      go false = joins_whole (channel_number c i (wire_vc (wire_place wire 0 i))) (wire_flit (wire_place wire 0 i)) q w

  pub landings_whole : (q : Queues) → Whole q → Whole (landings c wire q)
  unfolding landings
  landings_whole q w = over_keeps Whole c.ports turn q turn_whole w

  -- a turn leaves all VCs but that of the channel that it names
  turn_elsewhere : (q : Queues) (i y : ℕ) → i < c.ports → y < 32 → Whole q
      → (wire_place wire 0 i ≢ 0 → channel_number c i (wire_vc (wire_place wire 0 i)) ≢ y) → lane (turn q i) y ≡ lane q y
  turn_elsewhere q i y h here w n = go (eqb (wire_place wire 0 i) 0) refl
    where
      go : (b : Bool) → eqb (wire_place wire 0 i) 0 ≡ b
          → lane (cond b q (joined c i (wire_vc (wire_place wire 0 i)) (wire_flit (wire_place wire 0 i)) q)) y ≡ lane q y
      go true e = refl
      go false e =
          let some = eqb-false (wire_place wire 0 i) 0 e in
          joins_elsewhere (channel_number c i (wire_vc (wire_place wire 0 i))) (wire_flit (wire_place wire 0 i)) q y w
          (channel_room c legal i (wire_vc (wire_place wire 0 i)) h (near i h some)) here (n some)

  turn_here : (q : Queues) (i v : ℕ) → i < c.ports → v < c.vcs → Whole q
      → queued_at q.inputs (channel_number c i v) + length (on_vc v (wire_place wire 0 i)) ≤ 16 → (lane q (channel_number c i v)).empty ≡ true
      → lane (turn q i) (channel_number c i v)
      ≡ cond (is_on v (wire_place wire 0 i)) (one_more (wire_flit (wire_place wire 0 i)) (lane q (channel_number c i v)))
      (lane q (channel_number c i v))
  turn_here q i v h g w = go (eqb (wire_place wire 0 i) 0) refl (eqb (wire_vc (wire_place wire 0 i)) v) refl
    where
      go : (a : Bool) → eqb (wire_place wire 0 i) 0 ≡ a → (b : Bool) → eqb (wire_vc (wire_place wire 0 i)) v ≡ b
          → queued_at q.inputs (channel_number c i v) + length {A = Flit} (cond (not a && b) (wire_flit (wire_place wire 0 i) ∷ []) []) ≤ 16
          → (lane q (channel_number c i v)).empty ≡ true
          → lane (cond a q (joined c i (wire_vc (wire_place wire 0 i)) (wire_flit (wire_place wire 0 i)) q)) (channel_number c i v)
          ≡ cond (not a && b) (one_more (wire_flit (wire_place wire 0 i)) (lane q (channel_number c i v))) (lane q (channel_number c i v))
      go true e b p room empty = refl
      go false e true p room empty =
          let same = eqb-true (wire_vc (wire_place wire 0 i)) v p in
          ap (λ (u : ℕ). lane (joins (channel_number c i u) (wire_flit (wire_place wire 0 i)) q) (channel_number c i v)) same
          ∙ joins_here (channel_number c i v) (wire_flit (wire_place wire 0 i)) q w (channel_room c legal i v h g) (omega arith) empty
      go false e false p room empty =
          let some = eqb-false (wire_place wire 0 i) 0 e in
          joins_elsewhere (channel_number c i (wire_vc (wire_place wire 0 i))) (wire_flit (wire_place wire 0 i)) q (channel_number c i v) w
          (channel_room c legal i (wire_vc (wire_place wire 0 i)) h (near i h some)) (channel_room c legal i v h g)
          (λ r. eqb-false (wire_vc (wire_place wire 0 i)) v p (channel_apart c i (wire_vc (wire_place wire 0 i)) i v (near i h some) g r).1)

  -- a channel that there is gets what its wire's oldest place holds
  pub lane_lands : (q : Queues) → Whole q → (i v : ℕ) → i < c.ports → v < c.vcs
      → queued_at q.inputs (channel_number c i v) + length (on_vc v (wire_place wire 0 i)) ≤ 16 → (lane q (channel_number c i v)).empty ≡ true
      → lane (landings c wire q) (channel_number c i v)
      ≡ cond (is_on v (wire_place wire 0 i)) (one_more (wire_flit (wire_place wire 0 i)) (lane q (channel_number c i v)))
      (lane q (channel_number c i v))
  unfolding landings
  lane_lands q w i v h g room empty =
      over_once Whole (λ (t : Queues). lane t (channel_number c i v)) c.ports turn q i _ h turn_whole w
      (λ t j l n k. turn_elsewhere t j (channel_number c i v) l (channel_room c legal i v h g) k
      (λ some r. n (channel_apart c j (wire_vc (wire_place wire 0 j)) i v (near j l some) g r).0))
      (λ t k e.
      turn_here t i v h g k (subst (λ (l : Lane). l.queued + length (on_vc v (wire_place wire 0 i)) ≤ 16) (sym e) room)
      (ap (λ (l : Lane). l.empty) e ∙ empty)
      ∙ ap (λ (l : Lane). cond (is_on v (wire_place wire 0 i)) (one_more (wire_flit (wire_place wire 0 i)) l) l) e)

  -- any other stays as it is
  pub lane_past : (q : Queues) → Whole q → (x : ℕ) → c.ports * c.vcs ≤ x → x < 32 → lane (landings c wire q) x ≡ lane q x
  unfolding landings
  lane_past q w x past here =
      over_stays Whole (λ (t : Queues). lane t x) c.ports turn q turn_whole w
      (λ t j l k. turn_elsewhere t j x l here k
      (λ some r. let b = channel_below c j (wire_vc (wire_place wire 0 j)) l (near j l some) in absurd (omega arith)))
