-- "an empty slot is zero" (01, Sound states): push and pop keep it, of one channel and of all.
-- Assumes nothing.
use mathlib.Core.Path.{◌≡◌, refl, sym, ap, ◌∙◌}
use mathlib.Core.Logic.{◌≢◌}
use mathlib.Core.Bool.{Bool, true, false, ◌||◌}
use mathlib.Core.List.{List}
use Prim.Native.Nat.{ℕ, ◌+◌, ◌≤◌, ◌<◌}
use native.Mathlib.Omega.{arith}
use lib.Dec.{eqb, ltb}
use lib.ListN.{length, get_or}
use borrow.Author.Tests.{le-ltb, ltb-true, ltb-false, eqb-true, eqb-false}
use Rattle.base.specs.declared.flit.Flit.{Flit}
use Rattle.base.specs.Search.{every}
use Rattle.base.proofs.Search.{every_at, all_every, every_ext}
use Rattle.state.specs.declared.InputVc.{InputVc}
use Rattle.state.specs.Fresh.{fresh_input}
use Rattle.store.specs.Store.{first_slot, slot, pushed, popped}
use Rattle.state.specs.Sound.{slots_empty}
use Rattle.state.proofs.Clauses.{empty_behind, behind_zero}
use Rattle.state.proofs.Queues.{slots_apart}
use Rattle.store.proofs.Slots.{push_other_slot, pop_other_slot, pop_slot, pop_last_slot}

-- the slots of channel x behind its queue of q are zero
abbrev pub empty_in : List ℕ → ℕ → ℕ → Bool
empty_in store x q = every 16 (empty_behind (first_slot x) q store)

-- the same, slot by slot
pub empty_at : (store : List ℕ) (x q : ℕ) → empty_in store x q ≡ true → (k : ℕ) → k < 16 → q ≤ k → get_or store (slot x k) 0 ≡ 0
empty_at store x q e k h g =
    eqb-true (get_or store (slot x k) 0) 0
    (sym (ap (λ b. b || eqb (get_or store (slot x k) 0) 0) (le-ltb k q g)) ∙ every_at 16 (empty_behind (first_slot x) q store) e k h)

pub at_empty : (store : List ℕ) (x q : ℕ) → ((k : ℕ) → k < 16 → q ≤ k → get_or store (slot x k) 0 ≡ 0) → empty_in store x q ≡ true
at_empty store x q f = all_every 16 (empty_behind (first_slot x) q store) (λ k h. go k h (ltb k q) refl)
  where
    go : (k : ℕ) → k < 16 → (b : Bool) → ltb k q ≡ b → empty_behind (first_slot x) q store k ≡ true
    go k h true e = ap (λ b. b || eqb (get_or store (slot x k) 0) 0) e
    go k h false e = behind_zero (first_slot x) q store k (f k h (ltb-false k q e))

module _ (store : List ℕ) (x : ℕ) where
  -- behind a longer queue, less has to be empty
  pub push_keeps_empty : (q : ℕ) (f : Flit) → empty_in store x q ≡ true → empty_in (pushed store x q f) x (q + 1) ≡ true
  push_keeps_empty q f e =
      at_empty (pushed store x q f) x (q + 1) (λ k h g.
      push_other_slot store x q f (slot x k) (λ p. omega arith) ∙ empty_at store x q e k h (omega arith))

  -- all empty slots move up, and one more comes behind them
  pub pop_keeps_empty : (q : ℕ) → x < 32 → length store ≡ 512 → empty_in store x (q + 1) ≡ true → empty_in (popped store x) x q ≡ true
  pop_keeps_empty q there whole e = at_empty (popped store x) x q (λ k h g. go k h g (ltb k 15) refl)
    where
      go : (k : ℕ) → k < 16 → q ≤ k → (b : Bool) → ltb k 15 ≡ b → get_or (popped store x) (slot x k) 0 ≡ 0
      go k h g true p =
          let l = ltb-true k 15 p in
          pop_slot store x there whole k l ∙ empty_at store x (q + 1) e (k + 1) (omega arith) (omega arith)
      go k h g false p =
          let l = ltb-false k 15 p in
          let last : k ≡ 15 = omega arith in
          ap (λ j. get_or (popped store x) (slot x j) 0) last ∙ pop_last_slot store x there whole

  -- the slots of all other channels stay as they are
  pub push_keeps_empty_others : (q : ℕ) (f : Flit) (y r : ℕ) → x ≢ y → q < 16 → empty_in (pushed store x q f) y r ≡ empty_in store y r
  push_keeps_empty_others q f y r n h =
      every_ext 16 (empty_behind (first_slot y) r (pushed store x q f)) (empty_behind (first_slot y) r store) (λ k g.
      ap (λ w. ltb k r || eqb w 0) (push_other_slot store x q f (slot y k) (λ p. slots_apart x y q k n h g (sym p))))

  pub pop_keeps_empty_others : (y r : ℕ) → x ≢ y → empty_in (popped store x) y r ≡ empty_in store y r
  pop_keeps_empty_others y r n =
      every_ext 16 (empty_behind (first_slot y) r (popped store x)) (empty_behind (first_slot y) r store) (λ k g.
      ap (λ w. ltb k r || eqb w 0) (pop_other_slot store x (slot y k) (λ j h p. slots_apart x y j k n h g (sym p))))

-- how many are queued on channel x
abbrev pub queued_at : List InputVc → ℕ → ℕ
queued_at inputs x = (get_or inputs x (fresh_input 0)).queued

-- the whole clause: of inputs that queue one more, or one less, on channel x, and on all others as many as before
module _ (store : List ℕ) (x : ℕ) (inputs later : List InputVc) (others : (y : ℕ) → x ≢ y → queued_at later y ≡ queued_at inputs y)
    (empty : slots_empty inputs store ≡ true) where
  before : (y : ℕ) → y < 32 → empty_in store y (queued_at inputs y) ≡ true
  unfolding slots_empty
  before y h = every_at 32 (λ (y : ℕ). empty_in store y (queued_at inputs y)) empty y h

  after : (now : List ℕ) → empty_in now x (queued_at later x) ≡ true
      → ((y : ℕ) → x ≢ y → empty_in now y (queued_at inputs y) ≡ empty_in store y (queued_at inputs y)) → slots_empty later now ≡ true
  unfolding slots_empty
  after now own rest = all_every 32 (λ (y : ℕ). empty_in now y (queued_at later y)) (λ y h. go y h (eqb x y) refl)
    where
      go : (y : ℕ) → y < 32 → (b : Bool) → eqb x y ≡ b → empty_in now y (queued_at later y) ≡ true
      go y h true e = ap (λ z. empty_in now z (queued_at later z)) (sym (eqb-true x y e)) ∙ own
      go y h false e = let n = eqb-false x y e in ap (empty_in now y) (others y n) ∙ rest y n ∙ before y h

  pub push_keeps_slots : (f : Flit) → x < 32 → queued_at inputs x < 16 → queued_at later x ≡ queued_at inputs x + 1
      → slots_empty later (pushed store x (queued_at inputs x) f) ≡ true
  push_keeps_slots f there room more =
      after (pushed store x (queued_at inputs x) f)
      (ap (empty_in (pushed store x (queued_at inputs x) f) x) more ∙ push_keeps_empty store x (queued_at inputs x) f (before x there))
      (λ y n. push_keeps_empty_others store x (queued_at inputs x) f y (queued_at inputs y) n room)

  pub pop_keeps_slots : x < 32 → length store ≡ 512 → queued_at later x + 1 ≡ queued_at inputs x → slots_empty later (popped store x) ≡ true
  pop_keeps_slots there whole less =
      after (popped store x)
      (pop_keeps_empty store x (queued_at later x) there whole (ap (empty_in store x) less ∙ before x there))
      (λ y n. pop_keeps_empty_others store x y (queued_at inputs y) n)
