-- Phase 7 and the packets: behind the flit that leaves the rest of its queue reads on, and what is queued stays legal.
-- Assumes nothing.
use mathlib.Core.Path.{◌≡◌, sym, ap, ap₂, ◌∙◌}
use mathlib.Core.Logic.{◌≢◌, ◌⊎◌, inl, inr}
use mathlib.Core.Bool.{Bool, true, false, cond, not, xor, ◌&&◌, false≢true}
use mathlib.Core.List.{List, [], ◌∷◌, ◌++◌}
use Rattle.std.specs.Prelude.{None}
use Prim.Native.Nat.{ℕ, ◌+◌, ◌-◌, ◌≤◌, ◌<◌}
use native.Mathlib.Omega.{arith}
use lib.Dec.{eqb}
use lib.ListN.{length, drop}
use Rattle.base.specs.declared.config.Config.{Config}
use Rattle.base.specs.declared.flit.Flit.{Flit}
use Rattle.base.specs.Flit.{kind_of, destination_of, starts_kind, ends_kind}
use Rattle.base.proofs.Search.{both, one_less}
use Rattle.state.specs.declared.OutVc.{OutVc}
use Rattle.state.specs.declared.Binding.{Binding}
use Rattle.state.specs.declared.Binding.TheVariants.{Unbound, Bound}
use Rattle.state.specs.declared.InputVc.{InputVc}
use Rattle.state.specs.declared.Router.{Router}
use Rattle.state.specs.Sound.{Sound, all, legal_flit, queues_legal, reading, ends_as, front_is_for, begins_inside, reads, packets_read}
use Rattle.store.specs.Store.{front_of}
use Rattle.state.specs.Views.{channel_number, input_at, queue_of, wire_of, home_of, flat, total}
use Rattle.state.proofs.Queues.{queue_in, front_is_first}
use Rattle.state.proofs.Clauses.{queue_part}
use Rattle.rules.specs.Departures.{leaving_of}
use Rattle.rules.proofs.Acts.{Untouched, touched_or_not}
use Rattle.rules.proofs.Channels.{channel_at, all_channels, channel_apart, channel_room}
use Rattle.rules.proofs.Exits.{exit, exit_is}
use Rattle.rules.proofs.Facts.{credits_sum, sound_legal, sound_lengths}
use Rattle.rules.proofs.Left.{ends, from_place, others_stay}
use Rattle.rules.proofs.LeftNames.{Leaves, left_at}
use Rattle.rules.proofs.LeftQueues.{exit_drops, other_queues_stay}

-- Without its front a queue reads on: between packets and unbound after T or S, else inside one, where no H or S can come.
pub reads_leaves : (f : Flit) (queue wire : List Flit) (to : OutVc) (inside : Bool) → reads (f ∷ queue) wire (Bound to) inside ≡ true
    → reads queue wire (cond (ends_kind (kind_of f)) Unbound (Bound to)) inside ≡ true
unfolding reads reading xor
reads_leaves f queue wire to inside e =
    go (xor (begins_inside (f ∷ queue) (Bound to)) (starts_kind (kind_of f))) e
  where
    inner : (queue : List Flit) → ends_as inside (reading true (queue ++ wire)) ≡ true
        → ends_as inside (reading (not (front_is_for to.output queue)) (queue ++ wire)) ≡ true
    inner [] e = e
    inner (g ∷ queue) e = at (starts_kind (kind_of g)) e
      where
        at : (b : Bool) → ends_as inside (cond (xor true b) (reading (not (ends_kind (kind_of g))) (queue ++ wire)) None) ≡ true
            → ends_as inside (cond (xor (not (b && eqb (destination_of g) to.output)) b)
            (reading (not (ends_kind (kind_of g))) (queue ++ wire)) None) ≡ true
        at true q = absurd (false≢true q)
        at false q = q

    rest : (b : Bool) → ends_as inside (reading (not b) (queue ++ wire)) ≡ true
        → ends_as inside (reading (begins_inside queue (cond b Unbound (Bound to))) (queue ++ wire)) ≡ true
    rest true q = q
    rest false q = inner queue q

    go : (b : Bool) → ends_as inside (cond b (reading (not (ends_kind (kind_of f))) (queue ++ wire)) None) ≡ true
        → ends_as inside (reading (begins_inside queue (cond (ends_kind (kind_of f)) Unbound (Bound to))) (queue ++ wire)) ≡ true
    go true q = rest (ends_kind (kind_of f)) q
    go false q = absurd (false≢true q)

module _ (s : Router) (sound : Sound s) where
  abbrev c : Config
  c = s.config

  -- a queue has at most 16 flits
  pub queued_few : (i v : ℕ) → i < c.ports → v < c.vcs → (input_at c s.inputs i v).queued ≤ 16
  queued_few i v h g =
      let sum = credits_sum c s.inputs s.wire s.home sound.flow.credits i v h g in
      let depth = (sound_legal s sound).depth.1 in
      queue_part (input_at c s.inputs i v).credit (length (flat (wire_of c s.wire i v))) (input_at c s.inputs i v).queued
      (total (home_of c s.home i v)) c.depth sum depth

  -- the queue of a channel before and after phase 7
  abbrev queue : ℕ → ℕ → List Flit
  queue i v = queue_of c s.store i v (input_at c s.inputs i v).queued

  abbrev queue_later : ℕ → ℕ → List Flit
  queue_later i v = queue_of c (leaving_of s).store i v (input_at c (leaving_of s).inputs i v).queued

  abbrev wire : ℕ → ℕ → List Flit
  wire i v = flat (wire_of c s.wire i v)

  -- the flit that leaves was the front of the queue, and the rest is left
  pub exit_front : (i v : ℕ) → i < c.ports → v < c.vcs → (a : Leaves s sound (channel_number c i v)) → queue i v
      ≡ a.deed.flit ∷ queue_later i v
  exit_front i v h g a =
      let x = channel_number c i v in
      let w = exit_is s a.port a.deed a.acts in
      let from = channel_apart c a.deed.input a.deed.vc i v w.wins.vc_below g a.there in
      let some-queued : (input_at c s.inputs i v).queued ≢ 0 =
      λ z. w.wins.queued (ap₂ (λ (i v : ℕ). (input_at c s.inputs i v).queued) from.0 from.1 ∙ z) in
      let few = queued_few i v h g in
      let one = one_less (input_at c s.inputs i v).queued some-queued in
      let long = (sound_lengths s sound).store in
      let room = channel_room c (sound_legal s sound) i v h g in
      let later : (input_at c (leaving_of s).inputs i v).queued ≡ (input_at c s.inputs i v).queued - 1 =
      ap (λ (y : InputVc). y.queued) (left_at s sound x a) in
      let flit : a.deed.flit ≡ front_of s.store x = w.front ∙ ap (front_of s.store) a.there in
      let n = (input_at c s.inputs i v).queued - 1 in
      let dropped : queue_in (leaving_of s).store x n ≡ drop 1 (queue_in s.store x (n + 1)) =
      rest x n a.there (exit_drops s long a.port a.deed a.below a.acts n (omega arith) (rw a.there room)) in
      ap (λ (m : ℕ). queue_in s.store x m) (sym one)
      ∙ front_is_first s.store x room long n (omega arith)
      ∙ ap₂ (λ (f : Flit) (l : List Flit). f ∷ l) (sym flit) (sym dropped ∙ ap (queue_in (leaving_of s).store x) (sym later))
    where
      rest : {y : ℕ} (x n : ℕ) → y ≡ x → queue_in (leaving_of s).store y n ≡ drop 1 (queue_in s.store y (n + 1))
          → queue_in (leaving_of s).store x n ≡ drop 1 (queue_in s.store x (n + 1))
      rest x n same e = rw same at e

  -- a queue that no flit leaves stays
  pub queue_stays : (i v : ℕ) → i < c.ports → v < c.vcs → Untouched (exit s) (from_place s) c.ports (channel_number c i v)
      → queue_later i v
      ≡ queue i v
  queue_stays i v h g off =
      ap (λ (y : InputVc). queue_of c (leaving_of s).store i v y.queued) (others_stay s (channel_number c i v) off)
      ∙ other_queues_stay s (sound_lengths s sound).store (channel_number c i v) off (input_at c s.inputs i v).queued
      (queued_few i v h g)
      (channel_room c (sound_legal s sound) i v h g)

  pub left_legal : queues_legal c (leaving_of s).inputs (leaving_of s).store ≡ true
  unfolding queues_legal all
  left_legal = all_channels c _ (λ i v h g. go i v h g (touched_or_not (exit s) (from_place s) c.ports (channel_number c i v)))
    where
      before : (i v : ℕ) → i < c.ports → v < c.vcs → all (legal_flit c) (queue i v) ≡ true
      before i v h g = channel_at c (λ i v. all (legal_flit c) (queue i v)) sound.flow.queues i v h g

      go : (i v : ℕ) → i < c.ports → v < c.vcs → Leaves s sound (channel_number c i v) ⊎ Untouched (exit s) (from_place s) c.ports
          (channel_number c i v)
          → all (legal_flit c) (queue_later i v) ≡ true
      go i v h g (inl a) =
          (both (legal_flit c a.deed.flit) (all (legal_flit c) (queue_later i v))
          (ap (all (legal_flit c)) (sym (exit_front i v h g a)) ∙ before i v h g)).1
      go i v h g (inr off) = ap (all (legal_flit c)) (queue_stays i v h g off) ∙ before i v h g

  pub left_packets : packets_read c (leaving_of s).inputs (leaving_of s).store s.wire ≡ true
  unfolding packets_read
  left_packets = all_channels c _ (λ i v h g. go i v h g (touched_or_not (exit s) (from_place s) c.ports (channel_number c i v)))
    where
      before : (i v : ℕ) → i < c.ports → v < c.vcs
          → reads (queue i v) (wire i v) (input_at c s.inputs i v).binding (input_at c s.inputs i v).opened ≡ true
      before i v h g =
          channel_at c (λ i v. reads (queue i v) (wire i v) (input_at c s.inputs i v).binding (input_at c s.inputs i v).opened)
          sound.naming.packets i v h g

      go : (i v : ℕ) → i < c.ports → v < c.vcs → Leaves s sound (channel_number c i v) ⊎ Untouched (exit s) (from_place s) c.ports
          (channel_number c i v)
          → reads (queue_later i v) (wire i v) (input_at c (leaving_of s).inputs i v).binding (input_at c (leaving_of s).inputs i v).opened
          ≡ true
      go i v h g (inl a) =
          let w = exit_is s a.port a.deed a.acts in
          let from = channel_apart c a.deed.input a.deed.vc i v w.wins.vc_below g a.there in
          let to : OutVc = record { output = a.port; vc = a.deed.by } in
          let bound : (input_at c s.inputs i v).binding ≡ Bound to =
          ap₂ (λ (i v : ℕ). (input_at c s.inputs i v).binding) (sym from.0) (sym from.1) ∙ w.bound in
          ap (λ (y : InputVc). reads (queue_later i v) (wire i v) y.binding y.opened) (left_at s sound (channel_number c i v) a)
          ∙ ap (λ (b : Binding). reads (queue_later i v) (wire i v) (cond (ends a.deed) Unbound b)
          (input_at c s.inputs i v).opened) bound
          ∙ reads_leaves a.deed.flit (queue_later i v) (wire i v) to
          (input_at c s.inputs i v).opened
          (ap₂ (λ (q : List Flit) (b : Binding). reads q (wire i v) b (input_at c s.inputs i v).opened) (sym (exit_front i v h g a))
          (sym bound)
          ∙ before i v h g)
      go i v h g (inr off) =
          ap₂ (λ (q : List Flit) (y : InputVc). reads q (wire i v) y.binding y.opened) (queue_stays i v h g off)
          (others_stay s (channel_number c i v) off)
          ∙ before i v h g
