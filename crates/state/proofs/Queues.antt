-- The queues that the store holds: push, pop and front on the views alone.
-- Assumes nothing.
use mathlib.Core.Path.{◌≡◌, refl, sym, ap, ap₂, ◌∙◌}
use mathlib.Core.Logic.{◌≢◌}
use mathlib.Core.List.{List, [], ◌∷◌, ◌++◌, map, map-append}
use Prim.Native.Nat.{ℕ, suc, ◌+◌, ◌≤◌, ◌<◌}
use native.Mathlib.Numerals.{add-one}
use native.Mathlib.Omega.{arith}
use lib.ListN.{length, get_or, take, drop, length-drop}
use lib.Seq.{length-take-le, take-take, drop-cons, get_or-take, get_or-drop, ext_get_or, drop-set-add, take-suc-set}
use Rattle.base.specs.declared.flit.Flit.{Flit}
use Rattle.store.specs.Store.{first_slot, slot, front_of, pushed, popped}
use Rattle.state.specs.Views.{slot_flit, queue_at}
use Rattle.store.proofs.Slots.{front_there, push_there, push_length, push_other_slot, pop_length, pop_other_slot, pop_slot}

-- the queue of channel x, where q are queued
abbrev pub queue_in : List ℕ → ℕ → ℕ → List Flit
queue_in store x q = queue_at store (first_slot x) q

-- slots of two channels are two slots
pub slots_apart : (x y k j : ℕ) → x ≢ y → k < 16 → j < 16 → slot x k ≢ slot y j
slots_apart x y k j n h g e = n (omega arith)

-- a queue is a part of the store
queue_part : (store : List ℕ) (x q : ℕ) → q ≤ 16 → queue_in store x q ≡ map slot_flit (take q (drop (first_slot x) store))
unfolding queue_at
queue_part store x q h = ap (map slot_flit) (take-take q 16 (drop (first_slot x) store) h)

-- where none is queued the queue is empty
pub none_queued : (store : List ℕ) (x : ℕ) → queue_in store x 0 ≡ []
unfolding queue_at
none_queued store x = refl

-- two parts with the same slots are the same
part_same : (s t : List ℕ) (a b n : ℕ) → a + n ≤ length s → b + n ≤ length t → ((k : ℕ) → k < n → get_or s (a + k) 0 ≡ get_or t (b + k) 0)
    → take n (drop a s) ≡ take n (drop b t)
part_same s t a b n h g same =
    let l = length-take-le n (drop a s) (omega (arith, length-drop a s)) in
    let m = length-take-le n (drop b t) (omega (arith, length-drop b t)) in
    ext_get_or 0 (take n (drop a s)) (take n (drop b t)) (l ∙ sym m) (λ k e.
    let f : k < n = omega arith in
    get_or-take n (drop a s) k 0 f ∙ get_or-drop a s k 0 ∙ same k f ∙ sym (get_or-drop b t k 0) ∙ sym (get_or-take n (drop b t) k 0 f))

module _ (store : List ℕ) (x : ℕ) (there : x < 32) (whole : length store ≡ 512) where
  -- a queue is its front, and the rest from the second slot on
  front_and_rest : (q : ℕ) → q < 16 → queue_in store x (q + 1) ≡ front_of store x ∷ map slot_flit (take q (drop (first_slot x + 1) store))
  front_and_rest q h =
      queue_part store x (q + 1) (omega arith)
      ∙ ap₂ (λ n l. map slot_flit (take n l)) (add-one q) (drop-cons store (first_slot x) 0 (omega arith))
      ∙ ap₂ (λ f n. f ∷ map slot_flit (take q (drop n store))) (front_there store x there) (sym (add-one (first_slot x)))

  -- the front flit is the queue's first
  pub front_is_first : (q : ℕ) → q < 16 → queue_in store x (q + 1) ≡ front_of store x ∷ drop 1 (queue_in store x (q + 1))
  front_is_first q h = front_and_rest q h ∙ ap (λ l. front_of store x ∷ drop 1 l) (sym (front_and_rest q h))

  -- a pushed flit joins the end of its queue
  pub push_appends : (q : ℕ) (f : Flit) → q < 16 → queue_in (pushed store x q f) x (q + 1) ≡ queue_in store x q ++ (f ∷ [])
  push_appends q f h =
      queue_part (pushed store x q f) x (q + 1) (omega arith)
      ∙ ap₂ (λ n l. map slot_flit (take n (drop (first_slot x) l))) (add-one q) (sym (push_there store x q f there h))
      ∙ ap (λ l. map slot_flit (take (suc q) l)) (drop-set-add (first_slot x) store q f.word)
      ∙ ap (map slot_flit) (take-suc-set (drop (first_slot x) store) q f.word (omega (arith, length-drop (first_slot x) store)))
      ∙ map-append slot_flit (take q (drop (first_slot x) store)) (f.word ∷ [])
      ∙ ap (λ l. l ++ (f ∷ [])) (sym (queue_part store x q (omega arith)))

  -- a pop takes the front away
  pub pop_drops : (q : ℕ) → q < 16 → queue_in (popped store x) x q ≡ drop 1 (queue_in store x (q + 1))
  pop_drops q h =
      queue_part (popped store x) x q (omega arith)
      ∙ ap (map slot_flit) (part_same (popped store x) store (first_slot x) (first_slot x + 1) q (omega (arith, pop_length store x))
      (omega arith)
      (λ k g. pop_slot store x there whole k (omega arith) ∙ ap (λ m. get_or store m 0) (omega arith)))
      ∙ ap (drop 1) (sym (front_and_rest q h))

  -- the queues of all other channels stay as they are
  pub push_keeps_others : (q : ℕ) (f : Flit) (y r : ℕ) → x ≢ y → q < 16 → y < 32 → r ≤ 16 → queue_in (pushed store x q f) y r
      ≡ queue_in store y r
  push_keeps_others q f y r n h g l =
      queue_part (pushed store x q f) y r l
      ∙ ap (map slot_flit) (part_same (pushed store x q f) store (first_slot y) (first_slot y) r (omega (arith, push_length store x q f))
      (omega arith)
      (λ k e. push_other_slot store x q f (slot y k) (λ p. slots_apart x y q k n h (omega arith) (sym p))))
      ∙ sym (queue_part store y r l)

  pub pop_keeps_others : (y r : ℕ) → x ≢ y → y < 32 → r ≤ 16 → queue_in (popped store x) y r ≡ queue_in store y r
  pop_keeps_others y r n g l =
      queue_part (popped store x) y r l
      ∙ ap (map slot_flit) (part_same (popped store x) store (first_slot y) (first_slot y) r (omega (arith, pop_length store x)) (omega arith)
      (λ k e. pop_other_slot store x (slot y k) (λ j f p. slots_apart x y j k n f (omega arith) (sym p))))
      ∙ sym (queue_part store y r l)
