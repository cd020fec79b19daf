-- Sound arbiters: what the definition says as facts, that fresh is sound, and that a move keeps soundness.
-- Assumes nothing.
use mathlib.Core.Path.{◌≡◌, refl, sym, ap, ap₂, subst, ◌∙◌}
use mathlib.Core.Logic.{◌⊎◌, inl, inr, ◌↔◌}
use mathlib.Core.Bool.{Bool, true, false, cond, not, ◌&&◌, ◌||◌, true≢false, or-true, or-false}
use mathlib.Core.List.{List}
use Rattle.std.specs.Prelude.{Option, Some, None}
use Prim.Native.Nat.{ℕ, ◌^◌, ◌≤◌, ◌<◌}
use native.Mathlib.Nat.{le_refl}
use native.Mathlib.Omega.{arith}
use lib.Arith.{lt_of_le-ne}
use lib.Dec.{eqb, ltb}
use lib.ListN.{length, get_or, replicate, length-replicate, get_or-replicate}
use borrow.Author.Tests.{eqb-true, eqb-false, eq-eqb, ne_eqb, ltb-true, ltb-false, lt-ltb, le-ltb}
use Rattle.base.proofs.Search.{both}
use Rattle.base.proofs.Zeros.{blank_at, all_blank}
use Rattle.arbiter.specs.Matrix.{beats, defeated, fresh_rows, total_order, within, blank_from}
use Rattle.arbiter.specs.declared.Arbiter.{Arbiter}
use Rattle.arbiter.specs.Arbiter.{known, usable, moved, after, fresh, sound}
use Rattle.arbiter.proofs.ByKind.{Known, known_is, known_holds, usable_holds, fresh_turn, fresh_order, sound_turn, sound_order}
use Rattle.arbiter.proofs.ByKind.{moved_nobody, moved_turn, moved_defeat}
use Rattle.arbiter.proofs.OrderTest.{within_at, all_within}
use Rattle.arbiter.proofs.RoundRobin.{pointer_after-law}
use Rattle.arbiter.proofs.Rows.{none_above, fresh_row-law, fresh_beats, fresh_lt, length_fresh, defeated_beats, defeated_beyond}
use Rattle.arbiter.proofs.Rows.{defeated_within, length_defeated}
use Rattle.arbiter.proofs.TotalOrder.{Order, order_of, order_holds}

-- a sound arbiter, clause by clause
pub record Sound (places code n : ℕ) (a : Arbiter places) : Type 0 where
  pub given : Known places code n
  pub long : length a.rows ≡ places
  pub pointer_below : code ≡ 1 → a.pointer < n
  pub no_rows : code ≡ 1 → (i : ℕ) → i < places → get_or a.rows i 0 ≡ 0
  pub no_pointer : code ≡ 2 → a.pointer ≡ 0
  pub order : code ≡ 2 → Order n a.rows
  pub within_width : code ≡ 2 → (i : ℕ) → i < n → get_or a.rows i 0 < 2 ^ n
  pub beyond_width : code ≡ 2 → (i : ℕ) → n ≤ i → i < places → get_or a.rows i 0 ≡ 0

one_not_two : (code : ℕ) → code ≡ 1 → code ≡ 2 → ⊥
one_not_two code p q = omega arith

pub sound_is : (places code n : ℕ) (a : Arbiter places) → sound places code n a ≡ true → Sound places code n a
unfolding sound blank_from
sound_is places code n a e = go (known_is places code n q.0).kind
  where
    rest : Bool
    rest =
        cond (eqb code 1) (ltb a.pointer n && blank_from 0 places a.rows)
        (eqb a.pointer 0 && (total_order n a.rows && within n a.rows && blank_from n places a.rows))

    p : (known places code n && eqb (length a.rows) places ≡ true) × (rest ≡ true)
    p = both (known places code n && eqb (length a.rows) places) rest e

    q : (known places code n ≡ true) × (eqb (length a.rows) places ≡ true)
    q = both (known places code n) (eqb (length a.rows) places) p.0

    given : Known places code n
    given = known_is places code n q.0

    long : length a.rows ≡ places
    long = eqb-true (length a.rows) places q.1

    go : (code ≡ 1) ⊎ (code ≡ 2) → Sound places code n a
    go (inl k) =
        let t = both (ltb a.pointer n) (blank_from 0 places a.rows) (rw (eq-eqb code 1 k) at p.1) in
        record {
          given = given;
          long = long;
          pointer_below = λ _. ltb-true a.pointer n t.0;
          no_rows = λ _ i h. blank_at 0 places a.rows t.1 i (omega arith) h;
          no_pointer = λ two. absurd (one_not_two code k two);
          order = λ two. absurd (one_not_two code k two);
          within_width = λ two. absurd (one_not_two code k two);
          beyond_width = λ two. absurd (one_not_two code k two);
        }
    go (inr k) =
        let t =
        both (eqb a.pointer 0) (total_order n a.rows && within n a.rows && blank_from n places a.rows)
        (rw (ne_eqb code 1 (λ one. one_not_two code one k)) at p.1) in
        let u = both (total_order n a.rows && within n a.rows) (blank_from n places a.rows) t.1 in
        let v = both (total_order n a.rows) (within n a.rows) u.0 in
        record {
          given = given;
          long = long;
          pointer_below = λ one. absurd (one_not_two code one k);
          no_rows = λ one. absurd (one_not_two code one k);
          no_pointer = λ _. eqb-true a.pointer 0 t.0;
          order = λ _. order_of n a.rows v.0;
          within_width = λ _. within_at n a.rows v.1;
          beyond_width = λ _ i h g. blank_at n places a.rows u.1 i h g;
        }

pub sound_holds : (places code n : ℕ) (a : Arbiter places) → Sound places code n a → sound places code n a ≡ true
unfolding blank_from
sound_holds places code n a s = go s.given.kind
  where
    is_known : known places code n ≡ true
    is_known = known_holds places code n s.given

    go : (code ≡ 1) ⊎ (code ≡ 2) → sound places code n a ≡ true
    go (inl k) =
        sym (sound_turn places code n a is_known s.long k (s.pointer_below k))
        ∙ all_blank 0 places a.rows (λ i h g. s.no_rows k i g)
    go (inr k) =
        sym (sound_order places code n a is_known s.long (λ one. one_not_two code one k) (s.no_pointer k)
        (all_blank n places a.rows (s.beyond_width k)))
        ∙ ap₂ ◌&&◌ (order_holds n a.rows (s.order k)) (all_within n a.rows (s.within_width k))

-- the definition's test passes exactly on sound arbiters
pub sound_exact : (places code n : ℕ) (a : Arbiter places) → sound places code n a ≡ true ↔ Sound places code n a
sound_exact places code n a = (sound_is places code n a, sound_holds places code n a)

-- "fresh, a lower number beats a higher" is a total order
fresh_order_holds : (places n : ℕ) → n ≤ places → Order n (fresh_rows places n)
fresh_order_holds places n w =
    record {
      irreflexive = λ i h. lower i i h h ∙ le-ltb i i (le_refl i);
      total = λ i j h g d. either i j h g d (ltb i j) refl;
      asymmetric = λ i j h g p. let l = ltb-true i j (sym (lower i j h g) ∙ p) in lower j i g h ∙ le-ltb j i (omega arith);
      transitive = λ i j k h g m p q.
          let a = ltb-true i j (sym (lower i j h g) ∙ p) in
          let b = ltb-true j k (sym (lower j k g m) ∙ q) in
          lower i k h m ∙ lt-ltb i k (omega arith);
    }
  where
    lower : (i j : ℕ) → i < n → j < n → beats (fresh_rows places n) i j ≡ ltb i j
    lower i j h g = fresh_beats places n i j (omega arith) g

    either : (i j : ℕ) → i < n → j < n → (i ≡ j → ⊥) → (b : Bool) → ltb i j ≡ b
        → (beats (fresh_rows places n) i j ≡ true) ⊎ (beats (fresh_rows places n) j i ≡ true)
    either i j h g d true e = inl (lower i j h g ∙ e)
    either i j h g d false e =
        inr (lower j i g h ∙ lt-ltb j i (lt_of_le-ne (ltb-false i j e) (λ same. d (sym same))))

-- "A fresh router is sound", for its arbiters
pub fresh_sound : (places code n : ℕ) → Known places code n → Sound places code n (fresh places code n)
unfolding fresh
fresh_sound places code n k = go k.kind
  where
    go : (code ≡ 1) ⊎ (code ≡ 2) → Sound places code n (fresh places code n)
    go (inl one) =
        let zeros : replicate places 0 ≡ (fresh places code n).rows = fresh_turn places code n one in
        record {
          given = k;
          long = ap length (sym zeros) ∙ length-replicate places 0;
          pointer_below = λ _. k.some;
          no_rows = λ _ i h. ap (λ (l : List ℕ). get_or l i 0) (sym zeros) ∙ get_or-replicate places i 0 0 h;
          no_pointer = λ _. refl;
          order = λ two. absurd (one_not_two code one two);
          within_width = λ two. absurd (one_not_two code one two);
          beyond_width = λ two. absurd (one_not_two code one two);
        }
    go (inr two) =
        let rows : fresh_rows places n ≡ (fresh places code n).rows =
        fresh_order places code n (known_holds places code n k) (λ one. one_not_two code one two) in
        let room = k.room in
        record {
          given = k;
          long = ap length (sym rows) ∙ length_fresh places n;
          pointer_below = λ one. absurd (one_not_two code one two);
          no_rows = λ one. absurd (one_not_two code one two);
          no_pointer = λ _. refl;
          order = λ _. subst (Order n) rows (fresh_order_holds places n k.room);
          within_width = λ _ i h.
              subst (λ (l : List ℕ). get_or l i 0 < 2 ^ n) rows
              (subst (λ (x : ℕ). x < 2 ^ n) (sym (fresh_row-law places n i (omega arith))) (fresh_lt n i));
          beyond_width = λ _ i h g. ap (λ (l : List ℕ). get_or l i 0) (sym rows) ∙ fresh_row-law places n i g ∙ sym (none_above i n h);
        }

-- ---- a defeat: the winner loses to all others, and between others nothing changes
module _ (n w : ℕ) (rows : List ℕ) (long : n ≤ length rows) (low : w < n) where
  pub winner_beats_nobody : (j : ℕ) → beats (defeated n w rows) w j ≡ false
  winner_beats_nobody j =
      defeated_beats n w rows long low w j low ∙ ap (λ (b : Bool). not b && (beats rows w j || eqb j w)) (eq-eqb w w refl)

  pub others_beat_winner : (i : ℕ) → i < n → (i ≡ w → ⊥) → beats (defeated n w rows) i w ≡ true
  others_beat_winner i h d =
      defeated_beats n w rows long low i w h
      ∙ ap₂ (λ (b e : Bool). not b && (beats rows i w || e)) (ne_eqb i w d) (eq-eqb w w refl) ∙ or-true (beats rows i w)

  pub others_keep : (i j : ℕ) → i < n → (i ≡ w → ⊥) → (j ≡ w → ⊥) → beats (defeated n w rows) i j ≡ beats rows i j
  others_keep i j h d f =
      defeated_beats n w rows long low i j h
      ∙ ap₂ (λ (b e : Bool). not b && (beats rows i j || e)) (ne_eqb i w d) (ne_eqb j w f) ∙ or-false (beats rows i j)

  -- who beats somebody afterwards is not w
  not_winner : (i j : ℕ) → beats (defeated n w rows) i j ≡ true → i ≡ w → ⊥
  not_winner i j p e = true≢false (sym p ∙ ap (λ (m : ℕ). beats (defeated n w rows) m j) e ∙ winner_beats_nobody j)

  pub defeated_order : Order n rows → Order n (defeated n w rows)
  defeated_order o = record { irreflexive = irreflexive; total = total; asymmetric = asymmetric; transitive = transitive }
    where
      after : ℕ → ℕ → Bool
      after i j = beats (defeated n w rows) i j

      same : (x : ℕ) → (x ≡ w) ⊎ (x ≡ w → ⊥)
      same x = go (eqb x w) refl
        where
          go : (b : Bool) → eqb x w ≡ b → (x ≡ w) ⊎ (x ≡ w → ⊥)
          go true e = inl (eqb-true x w e)
          go false e = inr (eqb-false x w e)

      irreflexive : (i : ℕ) → i < n → after i i ≡ false
      irreflexive i h = go (same i)
        where
          go : (i ≡ w) ⊎ (i ≡ w → ⊥) → after i i ≡ false
          go (inl e) = ap (λ (m : ℕ). after m i) e ∙ winner_beats_nobody i
          go (inr d) = others_keep i i h d d ∙ o.irreflexive i h

      total : (i j : ℕ) → i < n → j < n → (i ≡ j → ⊥) → (after i j ≡ true) ⊎ (after j i ≡ true)
      total i j h g d = go (same i) (same j)
        where
          kept : (i ≡ w → ⊥) → (j ≡ w → ⊥) → (beats rows i j ≡ true) ⊎ (beats rows j i ≡ true) → (after i j ≡ true) ⊎ (after j i ≡ true)
          kept e f (inl p) = inl (others_keep i j h e f ∙ p)
          kept e f (inr p) = inr (others_keep j i g f e ∙ p)

          go : (i ≡ w) ⊎ (i ≡ w → ⊥) → (j ≡ w) ⊎ (j ≡ w → ⊥) → (after i j ≡ true) ⊎ (after j i ≡ true)
          go (inl e) q = inr (ap (after j) e ∙ others_beat_winner j g (λ f. d (e ∙ sym f)))
          go (inr e) (inl f) = inl (ap (after i) f ∙ others_beat_winner i h e)
          go (inr e) (inr f) = kept e f (o.total i j h g d)

      asymmetric : (i j : ℕ) → i < n → j < n → after i j ≡ true → after j i ≡ false
      asymmetric i j h g p = go (same j)
        where
          go : (j ≡ w) ⊎ (j ≡ w → ⊥) → after j i ≡ false
          go (inl e) = ap (λ (m : ℕ). after m i) e ∙ winner_beats_nobody i
          go (inr d) =
              let e = not_winner i j p in
              others_keep j i g d e ∙ o.asymmetric i j h g (sym (others_keep i j h e d) ∙ p)

      transitive : (i j k : ℕ) → i < n → j < n → k < n → after i j ≡ true → after j k ≡ true → after i k ≡ true
      transitive i j k h g l p q = go (same k)
        where
          d : i ≡ w → ⊥
          d = not_winner i j p

          e : j ≡ w → ⊥
          e = not_winner j k q

          go : (k ≡ w) ⊎ (k ≡ w → ⊥) → after i k ≡ true
          go (inl f) = ap (after i) f ∙ others_beat_winner i h d
          go (inr f) =
              others_keep i k h d f
              ∙ o.transitive i j k h g l (sym (others_keep i j h d e) ∙ p) (sym (others_keep j k g e f) ∙ q)

-- "each accepted cycle leaves a sound state", for one move of an arbiter
pub moved_sound : (places code n w : ℕ) (a : Arbiter places) → Sound places code n a → Sound places code n (moved places code n w a)
moved_sound places code n w a s = go (ltb w n) refl s.given.kind
  where
    room : n ≤ length a.rows
    room = let k = s.given.room in let l = s.long in omega arith

    is_usable : usable places code n a.pointer ≡ true
    is_usable = usable_holds places code n a.pointer s.given s.pointer_below

    go : (b : Bool) → ltb w n ≡ b → (code ≡ 1) ⊎ (code ≡ 2) → Sound places code n (moved places code n w a)
    go false e q = subst (Sound places code n) (moved_nobody places code n w a (ltb-false w n e)) s
    go true e (inl one) =
        subst (Sound places code n) (moved_turn places code n w a is_usable (ltb-true w n e) one)
        (record {
          given = s.given;
          long = s.long;
          pointer_below = λ _. pointer_after-law n w s.given.some;
          no_rows = s.no_rows;
          no_pointer = λ two. absurd (one_not_two code one two);
          order = s.order;
          within_width = s.within_width;
          beyond_width = s.beyond_width;
        })
    go true e (inr two) =
        let low : w < n = ltb-true w n e in
        let at_zero = s.no_pointer two in
        let some = s.given.some in
        subst (Sound places code n) (moved_defeat places code n w a is_usable low (λ one. one_not_two code one two))
        (record {
          given = s.given;
          long = length_defeated n w a.rows ∙ s.long;
          pointer_below = λ one. absurd (one_not_two code one two);
          no_rows = λ one. absurd (one_not_two code one two);
          no_pointer = s.no_pointer;
          order = λ _. defeated_order n w a.rows room low (s.order two);
          within_width = λ _. defeated_within n w a.rows room low (s.within_width two);
          beyond_width = λ _ i h g. defeated_beyond n w a.rows low i h ∙ s.beyond_width two i h g;
        })

-- and so does a call whose pick is kept, or that has none
pub after_sound : (places code n : ℕ) (o : Option ℕ) (a : Arbiter places) → Sound places code n a → Sound places code n (after places code n o a)
unfolding after
after_sound places code n None a s = s
after_sound places code n (Some w) a s = moved_sound places code n w a s
