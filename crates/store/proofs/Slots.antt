-- The store, slot by slot: what push and pop do to each, and that they keep its length.
-- Assumes nothing.
use mathlib.Core.Path.{◌≡◌, refl, sym, ap, ap₂, ◌∙◌}
use mathlib.Core.Logic.{◌≢◌}
use mathlib.Core.Bool.{Bool, true, false, cond, ◌&&◌, and-false}
use mathlib.Core.List.{List}
use Prim.Native.Nat.{ℕ, zero, suc, ◌+◌, ◌-◌, ◌≤◌, ◌<◌}
use native.Mathlib.Nat.{le_refl}
use native.Mathlib.Omega.{arith}
use lib.Arith.{lt_of_le-ne}
use lib.Dec.{eqb, ltb}
use lib.ListN.{length, get_or, set, drop, length-set, length-drop}
use lib.Seq.{get_or-set_same, get_or-set_other, paste, paste-suc}
use Rattle.std.specs.List.{copy_within}
use Rattle.std.proofs.Common.{get_or-drop}
use Rattle.std.proofs.lemmas.List.Edits.{paste_none}
use borrow.Author.Tests.{lt-ltb, le-ltb, eqb-true, eqb-false}
use Rattle.base.specs.declared.flit.Flit.{Flit}
use Rattle.store.specs.Store.{first_slot, slot, front_of, pushed, moved_up, popped}

module _ (store : List ℕ) (x : ℕ) where
  -- the front, of a channel that there is and of one that there is not
  pub front_there : x < 32 → ◌≡◌ {A = Flit} (record { word = get_or store (first_slot x) 0 }) (front_of store x)
  unfolding front_of
  front_there h = sym (ap (λ b. record { word = cond b (get_or store (first_slot x) 0) 0 }) (lt-ltb x 32 h))

  pub front_beyond : 32 ≤ x → ◌≡◌ {A = Flit} (record { word = 0 }) (front_of store x)
  unfolding front_of
  front_beyond h = sym (ap (λ b. record { word = cond b (get_or store (first_slot x) 0) 0 }) (le-ltb x 32 h))

  -- a push where there is room, where the queue is full, and where there is no such channel
  pub push_there : (q : ℕ) (f : Flit) → x < 32 → q < 16 → set store (slot x q) f.word ≡ pushed store x q f
  unfolding pushed
  push_there q f h g = sym (ap₂ (λ a b. cond (a && b) (set store (slot x q) f.word) store) (lt-ltb x 32 h) (lt-ltb q 16 g))

  pub push_full : (q : ℕ) (f : Flit) → 16 ≤ q → store ≡ pushed store x q f
  unfolding pushed
  push_full q f g =
      sym (ap (λ b. cond (ltb x 32 && b) (set store (slot x q) f.word) store) (le-ltb q 16 g)
      ∙ ap (λ b. cond b (set store (slot x q) f.word) store) (and-false (ltb x 32)))

  pub push_beyond : (q : ℕ) (f : Flit) → 32 ≤ x → store ≡ pushed store x q f
  unfolding pushed
  push_beyond q f h = sym (ap (λ b. cond (b && ltb q 16) (set store (slot x q) f.word) store) (le-ltb x 32 h))

  -- a pop: one slot more is moved, the last is emptied, and where there is no such channel
  moved_behind : (n k : ℕ) → n ≤ k → get_or (moved_up n store x) (slot x k) 0 ≡ get_or store (slot x k) 0
  unfolding moved_up
  moved_behind zero k h = refl
  moved_behind (suc n) k h =
      get_or-set_other (moved_up n store x) (slot x n) (slot x k) (get_or store (slot x (n + 1)) 0) 0 (λ e. omega arith)
      ∙ moved_behind n k (omega arith)

  pub pop_there : (n : ℕ) (now : List ℕ) → x < 32 → n ≡ 15 → now ≡ moved_up n store x → set now (slot x 15) 0 ≡ popped store x
  unfolding popped
  pop_there n now h e p =
      ap (λ l. set l (slot x 15) 0) (p ∙ ap (λ m. moved_up m store x) e)
      ∙ sym (ap (λ b. cond b (set (moved_up 15 store x) (slot x 15) 0) store) (lt-ltb x 32 h))

  -- moved up all at once: the slots behind the first, copied over it and those after it
  moved_copied : (n : ℕ) → first_slot x + n < length store
      → paste store (first_slot x) (drop (first_slot x + 1) store) n ≡ moved_up n store x
  unfolding moved_up
  moved_copied zero h = sym (paste_none store (first_slot x) (drop (first_slot x + 1) store))
  moved_copied (suc n) h =
      let behind = drop (first_slot x + 1) store in
      let held : get_or behind n 0 ≡ get_or store (slot x (n + 1)) 0 =
      get_or-drop (first_slot x + 1) store n 0 ∙ ap (λ k. get_or store k 0) (omega arith) in
      sym (paste-suc store (first_slot x) behind n 0 (omega arith) (omega (arith, length-drop (first_slot x + 1) store)))
      ∙ ap₂ (λ l v. set l (slot x n) v) (moved_copied n (omega arith)) held

  pub pop_copied : x < 32 → length store ≡ 512
      → set (copy_within store (first_slot x + 1) (first_slot x + 16) (first_slot x)) (first_slot x + 15) 0 ≡ popped store x
  pop_copied h whole =
      let count : first_slot x + 16 - (first_slot x + 1) ≡ 15 = omega arith in
      ap (λ n. set (paste store (first_slot x) (drop (first_slot x + 1) store) n) (slot x 15) 0) count
      ∙ pop_there 15 _ h refl (moved_copied 15 (omega arith))

  pub pop_beyond : 32 ≤ x → store ≡ popped store x
  unfolding popped
  pop_beyond h = sym (ap (λ b. cond b (set (moved_up 15 store x) (slot x 15) 0) store) (le-ltb x 32 h))

  -- the store keeps its length
  pub push_length : (q : ℕ) (f : Flit) → length (pushed store x q f) ≡ length store
  unfolding pushed
  push_length q f = go (ltb x 32 && ltb q 16)
    where
      go : (b : Bool) → length (cond b (set store (slot x q) f.word) store) ≡ length store
      go true = length-set store (slot x q) f.word
      go false = refl

  moved_length : (n : ℕ) → length (moved_up n store x) ≡ length store
  unfolding moved_up
  moved_length zero = refl
  moved_length (suc n) = length-set (moved_up n store x) (slot x n) (get_or store (slot x (n + 1)) 0) ∙ moved_length n

  pub pop_length : length (popped store x) ≡ length store
  unfolding popped
  pop_length = go (ltb x 32)
    where
      go : (b : Bool) → length (cond b (set (moved_up 15 store x) (slot x 15) 0) store) ≡ length store
      go true = length-set (moved_up 15 store x) (slot x 15) 0 ∙ moved_length 15
      go false = refl

  -- a push changes one slot
  pub push_other_slot : (q : ℕ) (f : Flit) (m : ℕ) → m ≢ slot x q → get_or (pushed store x q f) m 0 ≡ get_or store m 0
  unfolding pushed
  push_other_slot q f m n = go (ltb x 32 && ltb q 16)
    where
      go : (b : Bool) → get_or (cond b (set store (slot x q) f.word) store) m 0 ≡ get_or store m 0
      go true = get_or-set_other store (slot x q) m f.word 0 n
      go false = refl

  -- a pop changes the channel's slots alone
  moved_other : (n m : ℕ) → ((k : ℕ) → k < n → m ≢ slot x k) → get_or (moved_up n store x) m 0 ≡ get_or store m 0
  unfolding moved_up
  moved_other zero m off = refl
  moved_other (suc n) m off =
      get_or-set_other (moved_up n store x) (slot x n) m (get_or store (slot x (n + 1)) 0) 0 (off n (le_refl (suc n)))
      ∙ moved_other n m (λ k h. off k (omega arith))

  pub pop_other_slot : (m : ℕ) → ((k : ℕ) → k < 16 → m ≢ slot x k) → get_or (popped store x) m 0 ≡ get_or store m 0
  unfolding popped
  pop_other_slot m off = go (ltb x 32)
    where
      go : (b : Bool) → get_or (cond b (set (moved_up 15 store x) (slot x 15) 0) store) m 0 ≡ get_or store m 0
      go true =
          get_or-set_other (moved_up 15 store x) (slot x 15) m 0 0 (off 15 (omega arith)) ∙ moved_other 15 m (λ k h. off k (omega arith))
      go false = refl

  -- of a channel that there is, each slot gets what the slot behind it held, and the last is empty
  module _ (there : x < 32) (whole : length store ≡ 512) where
    moved_slot : (n k : ℕ) → n ≤ 16 → k < n → get_or (moved_up n store x) (slot x k) 0 ≡ get_or store (slot x (k + 1)) 0
    unfolding moved_up
    moved_slot zero k h g = absurd (omega arith)
    moved_slot (suc n) k h g = go (eqb k n) refl (moved_slot n k (omega arith))
      where
        go : (b : Bool) → eqb k n ≡ b → (k < n → get_or (moved_up n store x) (slot x k) 0 ≡ get_or store (slot x (k + 1)) 0)
            → get_or (set (moved_up n store x) (slot x n) (get_or store (slot x (n + 1)) 0)) (slot x k) 0 ≡ get_or store (slot x (k + 1)) 0
        go true e below =
            let s : k ≡ n = eqb-true k n e in
            ap (λ j. get_or (set (moved_up n store x) (slot x n) (get_or store (slot x (n + 1)) 0)) (slot x j) 0) s
            ∙ get_or-set_same (moved_up n store x) (slot x n) (get_or store (slot x (n + 1)) 0) 0 (omega (arith, moved_length n))
            ∙ ap (λ j. get_or store (slot x (j + 1)) 0) (sym s)
        go false e below =
            let d = eqb-false k n e in
            let l : k < n = lt_of_le-ne (omega arith) d in
            get_or-set_other (moved_up n store x) (slot x n) (slot x k) (get_or store (slot x (n + 1)) 0) 0 (λ q. d (omega arith)) ∙ below l

    pub pop_slot : (k : ℕ) → k < 15 → get_or (popped store x) (slot x k) 0 ≡ get_or store (slot x (k + 1)) 0
    pop_slot k h =
        ap (λ l. get_or l (slot x k) 0) (sym (pop_there 15 (moved_up 15 store x) there refl refl))
        ∙ get_or-set_other (moved_up 15 store x) (slot x 15) (slot x k) 0 0 (λ e. omega arith)
        ∙ moved_slot 15 k (omega arith) h

    pub pop_last_slot : get_or (popped store x) (slot x 15) 0 ≡ 0
    pop_last_slot =
        ap (λ l. get_or l (slot x 15) 0) (sym (pop_there 15 (moved_up 15 store x) there refl refl))
        ∙ get_or-set_same (moved_up 15 store x) (slot x 15) 0 0 (omega (arith, moved_length 15))
