-- Either kind, case by case: what the definitions say once the tests on what is given have been made.
-- Assumes nothing.
use mathlib.Core.Path.{◌≡◌, refl, sym, ap, ap₂, ◌∙◌}
use mathlib.Core.Logic.{◌⊎◌, inl, inr}
use mathlib.Core.Bool.{Bool, true, false, cond, not, ◌&&◌, ◌||◌, and-true, and-false, or-true}
use mathlib.Core.List.{List}
use Rattle.std.specs.Prelude.{None}
use Prim.Native.Nat.{ℕ, ◌-◌, ◌%◌, ◌^◌, ◌≤◌, ◌<◌}
use native.Mathlib.Nat.{mod-lt}
use native.Mathlib.Omega.{arith}
use lib.Dec.{eqb, leb, ltb}
use lib.ListN.{length, replicate}
use lib.Pow.{pow_pos}
use borrow.Author.Tests.{eqb-true, eq-eqb, ne_eqb, leb-true, le-leb, ltb-true, lt-ltb, le-ltb}
use Rattle.base.specs.Bits.{bit}
use Rattle.base.specs.Search.{or_else}
use Rattle.base.proofs.Bits.{bit_mod}
use Rattle.base.proofs.Search.{both, every_ext, first_ext}
use Rattle.arbiter.specs.RoundRobin.{next_in_turn, pointer_after}
use Rattle.arbiter.specs.Matrix.{beats, beats_every_other, champion, defeated, fresh_rows, total_order, within, blank_from}
use Rattle.arbiter.specs.declared.Arbiter.{Arbiter}
use Rattle.arbiter.specs.Arbiter.{known, usable, choice, moved, fresh, sound, arbiter_of}

-- ---- what is given

pub record Known (places code n : ℕ) : Type 0 where
  pub some : 1 ≤ n
  pub room : n ≤ places
  pub kind : (code ≡ 1) ⊎ (code ≡ 2)

pub known_is : (places code n : ℕ) → known places code n ≡ true → Known places code n
unfolding known
known_is places code n e =
    let p = both (eqb code 1 || eqb code 2) (leb 1 n && leb n places) e in
    let q = both (leb 1 n) (leb n places) p.1 in
    record {
      some = leb-true 1 n q.0;
      room = leb-true n places q.1;
      kind = go (eqb code 1) refl p.0;
    }
  where
    go : (b : Bool) → eqb code 1 ≡ b → (b || eqb code 2) ≡ true → (code ≡ 1) ⊎ (code ≡ 2)
    go true f r = inl (eqb-true code 1 f)
    go false f r = inr (eqb-true code 2 r)

pub known_holds : (places code n : ℕ) → Known places code n → known places code n ≡ true
unfolding known
known_holds places code n k =
    ap₂ ◌&&◌ (go k.kind) (ap₂ ◌&&◌ (le-leb 1 n k.some) (le-leb n places k.room))
  where
    go : (code ≡ 1) ⊎ (code ≡ 2) → (eqb code 1 || eqb code 2) ≡ true
    go (inl e) = rw (eq-eqb code 1 e)
    go (inr e) = rw (eq-eqb code 2 e, or-true (eqb code 1))

-- a known code that is not 1 is 2
pub known_matrix : (places code n : ℕ) → known places code n ≡ true → (code ≡ 1 → ⊥) → code ≡ 2
known_matrix places code n e d = go (known_is places code n e).kind
  where
    go : (code ≡ 1) ⊎ (code ≡ 2) → code ≡ 2
    go (inl q) = absurd (d q)
    go (inr q) = q

pub usable_is : (places code n pointer : ℕ) → usable places code n pointer ≡ true
    → (known places code n ≡ true) × (code ≡ 1 → pointer < n)
unfolding usable
usable_is places code n pointer e =
    let p = both (known places code n) (not (eqb code 1) || ltb pointer n) e in
    (p.0, λ one. ltb-true pointer n (ap (λ (b : Bool). not b || ltb pointer n) (sym (eq-eqb code 1 one)) ∙ p.1))

-- so the width is some, and fits the room
pub usable_fits : (places code n pointer : ℕ) → usable places code n pointer ≡ true → (1 ≤ n) × (n ≤ places)
usable_fits places code n pointer e = let k = known_is places code n (usable_is places code n pointer e).0 in (k.some, k.room)

pub usable_holds : (places code n pointer : ℕ) → Known places code n → (code ≡ 1 → pointer < n) → usable places code n pointer ≡ true
unfolding usable
usable_holds places code n pointer k h = ap₂ ◌&&◌ (known_holds places code n k) (go (eqb code 1) refl)
  where
    go : (b : Bool) → eqb code 1 ≡ b → (not b || ltb pointer n) ≡ true
    go true e = lt-ltb pointer n (h (eqb-true code 1 e))
    go false e = refl

-- ---- only those below n count

turn_ext : (n : ℕ) (f g : ℕ → Bool) (p : ℕ) → p ≤ n → ((i : ℕ) → i < n → f i ≡ g i) → next_in_turn n f p ≡ next_in_turn n g p
unfolding next_in_turn
turn_ext n f g p h same =
    ap₂ or_else (first_ext f g (n - p) p (λ j l k. same j (omega arith))) (first_ext f g p 0 (λ j l k. same j (omega arith)))

champion_ext : (n : ℕ) (f g : ℕ → Bool) (rows : List ℕ) → ((i : ℕ) → i < n → f i ≡ g i) → champion n f rows ≡ champion n g rows
unfolding champion beats_every_other
champion_ext n f g rows same =
    first_ext (λ (i : ℕ). f i && beats_every_other n f rows i) (λ (i : ℕ). g i && beats_every_other n g rows i) n 0
    (λ i l k.
    ap₂ ◌&&◌ (same i (omega arith))
    (every_ext n (λ (j : ℕ). not (f j) || eqb j i || beats rows i j) (λ (j : ℕ). not (g j) || eqb j i || beats rows i j)
    (λ j m. ap (λ (b : Bool). not b || eqb j i || beats rows i j) (same j m))))

pub masked_lt : (n word : ℕ) → word % 2 ^ n < 2 ^ n
masked_lt n word = mod-lt word (pow_pos n)

-- ---- the choice

-- requests that agree below the width give the same choice
pub choice_same : (places code n : ℕ) (f g : ℕ → Bool) (a : Arbiter places) → ((i : ℕ) → i < n → f i ≡ g i)
    → choice places code n f a ≡ choice places code n g a
unfolding choice
choice_same places code n f g a same = go (usable places code n a.pointer) refl
  where
    go : (b : Bool) → usable places code n a.pointer ≡ b
        → cond b (cond (eqb code 1) (next_in_turn n f a.pointer) (champion n f a.rows)) None
        ≡ cond b (cond (eqb code 1) (next_in_turn n g a.pointer) (champion n g a.rows)) None
    go true e = kind (eqb code 1) refl
      where
        kind : (d : Bool) → eqb code 1 ≡ d
            → cond d (next_in_turn n f a.pointer) (champion n f a.rows) ≡ cond d (next_in_turn n g a.pointer) (champion n g a.rows)
        kind true q =
            let l = (usable_is places code n a.pointer e).1 (eqb-true code 1 q) in
            turn_ext n f g a.pointer (omega arith) same
        kind false q = champion_ext n f g a.rows same
    go false e = refl

module _ (places code n word : ℕ) (a : Arbiter places) where
  pub choice_unusable : usable places code n a.pointer ≡ false → None ≡ choice places code n (bit word) a
  unfolding choice
  choice_unusable e = rw e

  pub choice_turn : usable places code n a.pointer ≡ true → code ≡ 1
      → next_in_turn n (bit (word % 2 ^ n)) a.pointer ≡ choice places code n (bit word) a
  unfolding choice
  choice_turn e k =
      let p = usable_is places code n a.pointer e in
      rw (e, eq-eqb code 1 k)
      (turn_ext n (bit (word % 2 ^ n)) (bit word) a.pointer (omega (arith, p.1 k)) (λ i h. bit_mod word n i h))

  pub choice_champion : usable places code n a.pointer ≡ true → (code ≡ 1 → ⊥)
      → champion n (bit (word % 2 ^ n)) a.rows ≡ choice places code n (bit word) a
  unfolding choice
  choice_champion e k = rw (e, ne_eqb code 1 k) (champion_ext n (bit (word % 2 ^ n)) (bit word) a.rows (λ i h. bit_mod word n i h))

-- ---- the move

module _ (places code n w : ℕ) (a : Arbiter places) where
  pub moved_unusable : usable places code n a.pointer ≡ false → a ≡ moved places code n w a
  unfolding moved
  moved_unusable e = rw e

  pub moved_nobody : n ≤ w → a ≡ moved places code n w a
  unfolding moved
  moved_nobody h = rw (le-ltb w n h, and-false (usable places code n a.pointer))

  pub moved_turn : usable places code n a.pointer ≡ true → w < n → code ≡ 1
      → ◌≡◌ {A = Arbiter places} (arbiter_of (pointer_after n w) a.rows) (moved places code n w a)
  unfolding moved
  moved_turn e h k = rw (e, lt-ltb w n h, eq-eqb code 1 k)

  pub moved_defeat : usable places code n a.pointer ≡ true → w < n → (code ≡ 1 → ⊥)
      → ◌≡◌ {A = Arbiter places} (arbiter_of a.pointer (defeated n w a.rows)) (moved places code n w a)
  unfolding moved
  moved_defeat e h k = rw (e, lt-ltb w n h, ne_eqb code 1 k)

-- ---- fresh

module _ (places code n : ℕ) where
  pub fresh_unknown : known places code n ≡ false → replicate places 0 ≡ (fresh places code n).rows
  unfolding fresh
  fresh_unknown e = rw e

  pub fresh_turn : code ≡ 1 → replicate places 0 ≡ (fresh places code n).rows
  unfolding fresh
  fresh_turn k = rw (k, and-false (known places 1 n))

  pub fresh_order : known places code n ≡ true → (code ≡ 1 → ⊥) → fresh_rows places n ≡ (fresh places code n).rows
  unfolding fresh
  fresh_order e k = rw (e, eq-eqb code 2 (known_matrix places code n e k))

  -- the rows are all that is to be made
  pub fresh_is : (rows : List ℕ) → rows ≡ (fresh places code n).rows
      → ◌≡◌ {A = Arbiter places} (arbiter_of 0 rows) (fresh places code n)
  unfolding fresh
  fresh_is rows e = ap (λ (l : List ℕ). arbiter_of 0 l) e

-- ---- sound

module _ (places code n : ℕ) (a : Arbiter places) where
  pub sound_unknown : known places code n ≡ false → false ≡ sound places code n a
  unfolding sound
  sound_unknown e = rw e

  module _ (e : known places code n ≡ true) (long : length a.rows ≡ places) where
    -- round robin
    pub sound_past : code ≡ 1 → n ≤ a.pointer → false ≡ sound places code n a
    unfolding sound
    sound_past k h = rw (e, eq-eqb (length a.rows) places long, eq-eqb code 1 k, le-ltb a.pointer n h)

    pub sound_turn : code ≡ 1 → a.pointer < n → blank_from 0 places a.rows ≡ sound places code n a
    unfolding sound
    sound_turn k h = rw (e, eq-eqb (length a.rows) places long, eq-eqb code 1 k, lt-ltb a.pointer n h)

    -- matrix
    pub sound_pointer : (code ≡ 1 → ⊥) → (a.pointer ≡ 0 → ⊥) → false ≡ sound places code n a
    unfolding sound
    sound_pointer k d = rw (e, eq-eqb (length a.rows) places long, ne_eqb code 1 k, ne_eqb a.pointer 0 d)

    pub sound_beyond : (code ≡ 1 → ⊥) → blank_from n places a.rows ≡ false → false ≡ sound places code n a
    unfolding sound
    sound_beyond k b =
        rw (
          e,
          eq-eqb (length a.rows) places long,
          ne_eqb code 1 k,
          b,
          and-false (total_order n a.rows && within n a.rows),
          and-false (eqb a.pointer 0),
        )

    pub sound_order : (code ≡ 1 → ⊥) → a.pointer ≡ 0 → blank_from n places a.rows ≡ true
        → (total_order n a.rows && within n a.rows) ≡ sound places code n a
    unfolding sound
    sound_order k z b =
        rw (
          e,
          eq-eqb (length a.rows) places long,
          ne_eqb code 1 k,
          eq-eqb a.pointer 0 z,
          b,
          and-true (total_order n a.rows && within n a.rows),
        )
