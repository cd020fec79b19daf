-- Phase 7 and the queues: a flit that leaves is its queue's front and the rest stays in order; all other queues stay.
-- Assumes nothing.
use mathlib.Core.Path.{◌≡◌, refl, sym, ap, ◌∙◌}
use mathlib.Core.Logic.{◌≢◌}
use mathlib.Core.Bool.{Bool, true, false}
use mathlib.Core.List.{List}
use Rattle.std.specs.Prelude.{Option, Some, None}
use Prim.Native.Nat.{ℕ, ◌+◌, ◌≤◌, ◌<◌}
use native.Mathlib.Omega.{arith}
use lib.Dec.{ltb}
use lib.ListN.{length, get_or, drop}
use borrow.Author.Tests.{ltb-true, ltb-false}
use Rattle.state.specs.declared.Router.{Router}
use Rattle.store.specs.Store.{slot, popped}
use Rattle.state.specs.Views.{channel_number}
use Rattle.state.proofs.Queues.{queue_in, slots_apart, pop_drops, pop_keeps_others}
use Rattle.store.proofs.Slots.{pop_length, pop_slot, pop_last_slot, pop_other_slot, pop_beyond}
use Rattle.rules.specs.Ports.{over_ports}
use Rattle.rules.specs.Departures.{Leaving, leaving_of}
use Rattle.rules.proofs.Folds.{over_keeps}
use Rattle.rules.proofs.Turns.{over_seen, over_stays}
use Rattle.rules.proofs.Along.{over_becomes}
use Rattle.rules.proofs.Acts.{Untouched}
use Rattle.rules.proofs.Exits.{Exit, exit, exits_apart, exits, at_first, leaving_exits}
use Rattle.rules.proofs.Left.{from_place}

-- a pop leaves the queues and the slots of all other channels
pop_keeps : (store : List ℕ) (y x n : ℕ) → length store ≡ 512 → y ≢ x → x < 32 → n ≤ 16 → queue_in (popped store y) x n ≡ queue_in store x n
pop_keeps store y x n w d g h = go (ltb y 32) refl
  where
    go : (b : Bool) → ltb y 32 ≡ b → queue_in (popped store y) x n ≡ queue_in store x n
    go true e = pop_keeps_others store y (ltb-true y 32 e) w x n d g h
    go false e = ap (λ (l : List ℕ). queue_in l x n) (sym (pop_beyond store y (ltb-false y 32 e)))

slot_keeps : (store : List ℕ) (y x k : ℕ) → y ≢ x → k < 16 → get_or (popped store y) (slot x k) 0 ≡ get_or store (slot x k) 0
slot_keeps store y x k d h = pop_other_slot store y (slot x k) (λ j g e. slots_apart y x j k d g h (sym e))

module _ (s : Router) (whole : length s.store ≡ 512) where
  abbrev pop_for : Option Exit → List ℕ → List ℕ
  pop_for None store = store
  pop_for (Some e) store = popped store (channel_number s.config e.input e.vc)

  abbrev pops : List ℕ → ℕ → List ℕ
  pops store o = pop_for (exit s o) store

  store_fold : (leaving_of s).store ≡ over_ports s.config.ports pops s.store
  store_fold =
      ap (λ (l : Leaving). l.store) (leaving_exits s)
      ∙ over_seen (λ (l : Leaving). l.store) s.config.ports (λ l o. exits s o (exit s o) l) pops (at_first s)
      (λ l o h. same l o (exit s o))
    where
      same : (l : Leaving) (o : ℕ) (m : Option Exit) → (exits s o m l).store ≡ pop_for m l.store
      same l o None = refl
      same l o (Some e) = refl

  -- the store keeps its length
  abbrev Whole : List ℕ → Type 0
  Whole store = length store ≡ 512

  keeps_whole : (store : List ℕ) (o : ℕ) → o < s.config.ports → Whole store → Whole (pops store o)
  keeps_whole store o h w = go (exit s o)
    where
      go : (m : Option Exit) → Whole (pop_for m store)
      go None = w
      go (Some e) = pop_length store (channel_number s.config e.input e.vc) ∙ w

  pub left_store_length : length (leaving_of s).store ≡ 512
  left_store_length = ap length store_fold ∙ over_keeps Whole s.config.ports pops s.store keeps_whole whole

  -- what pops of other channels leave alone
  module _ {B : Type 0} (look : List ℕ → B) (x : ℕ)
      (alone : (store : List ℕ) (y : ℕ) → Whole store → y ≢ x → look (popped store y) ≡ look store) where
    pop_elsewhere : (store : List ℕ) (m : Option Exit) → Whole store
        → ((e : Exit) → m ≡ Some e → channel_number s.config e.input e.vc ≢ x)
        → look (pop_for m store) ≡ look store
    pop_elsewhere store None w off = refl
    pop_elsewhere store (Some e) w off = alone store (channel_number s.config e.input e.vc) w (off e refl)

    unpopped_stays : Untouched (exit s) (from_place s) s.config.ports x → look (leaving_of s).store ≡ look s.store
    unpopped_stays off =
        ap look store_fold
        ∙ over_stays Whole look s.config.ports pops s.store keeps_whole whole
        (λ store o h w. pop_elsewhere store (exit s o) w (λ e q. off o e h q))

  -- what the one pop of channel x changes
  popped_becomes : {B C : Type 0} (before : List ℕ → B) (after : List ℕ → C) (change : B → C) (o : ℕ) (e : Exit) → o < s.config.ports
      → exit s o ≡ Some e
      → ((store : List ℕ) (y : ℕ) → Whole store → y ≢ from_place s o e → before (popped store y) ≡ before store)
      → ((store : List ℕ) (y : ℕ) → Whole store → y ≢ from_place s o e → after (popped store y) ≡ after store)
      → ((store : List ℕ) → Whole store → after (popped store (from_place s o e)) ≡ change (before store))
      → after (leaving_of s).store ≡ change (before s.store)
  popped_becomes before after change o e l q b a own =
      ap after store_fold
      ∙ over_becomes Whole pops before after change s.config.ports s.store o l keeps_whole
      (λ store p h d w. pop_elsewhere before (from_place s o e) b store (exit s p) w (λ f r same. d (exits_apart s p o f e r q same)))
      (λ store w. ap (λ (m : Option Exit). after (pop_for m store)) q ∙ own store w)
      (λ store p h d w. pop_elsewhere after (from_place s o e) a store (exit s p) w (λ f r same. d (exits_apart s p o f e r q same)))
      whole

  -- the queue that a flit leaves loses its front
  pub exit_drops : (o : ℕ) (e : Exit) → o < s.config.ports → exit s o ≡ Some e → (n : ℕ) → n < 16 → from_place s o e < 32
      → queue_in (leaving_of s).store (from_place s o e) n ≡ drop 1 (queue_in s.store (from_place s o e) (n + 1))
  exit_drops o e l q n h g =
      let x = from_place s o e in
      popped_becomes (λ (store : List ℕ). queue_in store x (n + 1)) (λ (store : List ℕ). queue_in store x n) (drop 1) o e l q
      (λ store y w d. pop_keeps store y x (n + 1) w d g (omega arith)) (λ store y w d. pop_keeps store y x n w d g (omega arith))
      (λ store w. pop_drops store x g w n h)

  -- all other queues stay
  pub other_queues_stay : (x : ℕ) → Untouched (exit s) (from_place s) s.config.ports x → (n : ℕ) → n ≤ 16 → x < 32
      → queue_in (leaving_of s).store x n ≡ queue_in s.store x n
  other_queues_stay x off n h g = unpopped_stays (λ (store : List ℕ). queue_in store x n) x
      (λ store y w d. pop_keeps store y x n w d g h) off

  -- the slots of a channel that a flit leaves move up, the last is empty, and all other slots stay
  pub exit_slots : (o : ℕ) (e : Exit) → o < s.config.ports → exit s o ≡ Some e → (k : ℕ) → k < 15 → from_place s o e < 32
      → get_or (leaving_of s).store (slot (from_place s o e) k) 0 ≡ get_or s.store (slot (from_place s o e) (k + 1)) 0
  exit_slots o e l q k h g =
      let x = from_place s o e in
      popped_becomes (λ (store : List ℕ). get_or store (slot x (k + 1)) 0) (λ (store : List ℕ). get_or store (slot x k) 0)
      (λ (n : ℕ). n) o e l q
      (λ store y w d. slot_keeps store y x (k + 1) d (omega arith)) (λ store y w d. slot_keeps store y x k d (omega arith))
      (λ store w. pop_slot store x g w k h)

  pub exit_last_slot : (o : ℕ) (e : Exit) → o < s.config.ports → exit s o ≡ Some e → from_place s o e < 32
      → get_or (leaving_of s).store (slot (from_place s o e) 15) 0 ≡ 0
  exit_last_slot o e l q g =
      let x = from_place s o e in
      popped_becomes (λ (store : List ℕ). 0) (λ (store : List ℕ). get_or store (slot x 15) 0) (λ (n : ℕ). 0) o e l q
      (λ store y w d. refl) (λ store y w d. slot_keeps store y x 15 d (omega arith))
      (λ store w. pop_last_slot store x g w)

  pub other_slots_stay : (x : ℕ) → Untouched (exit s) (from_place s) s.config.ports x → (k : ℕ) → k < 16
      → get_or (leaving_of s).store (slot x k) 0 ≡ get_or s.store (slot x k) 0
  other_slots_stay x off k h =
      unpopped_stays (λ (store : List ℕ). get_or store (slot x k) 0) x (λ store y w d. slot_keeps store y x k d h) off
