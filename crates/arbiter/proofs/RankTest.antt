-- The test by ranks decides a total order: each rank's requester must beat exactly those of the ranks before.
-- Assumes nothing.
use mathlib.Core.Path.{◌≡◌, refl, sym, ap, ap₂, subst, subst₂, ◌∙◌}
use mathlib.Core.Logic.{◌⊎◌, inl, inr}
use mathlib.Core.Bool.{Bool, true, false, not, ◌||◌, true≢false, false≢true, or-false, or-true}
use mathlib.Core.List.{List}
use Prim.Native.Nat.{ℕ, zero, suc, ◌^◌, ◌≤◌, ◌<◌}
use native.Mathlib.Nat.{le_refl}
use native.Mathlib.Omega.{arith}
use lib.Arith.{lt_of_le-ne}
use lib.Count.{ones}
use lib.Dec.{eqb, ltb}
use lib.ListN.{get_or}
use lib.Pow.{pow_pos}
use borrow.Author.Tests.{eqb-true, eqb-false, eq-eqb, ltb-true, ltb-false, lt-ltb, le-ltb, not-true, not-false}
use Rattle.base.specs.Bits.{bit, with_bit}
use Rattle.base.proofs.Bits.{bit_ext, bit_zero, bit_with, with_lt}
use Rattle.base.proofs.Count.{count, count_ext, count_lt, count_more, count_all, ones_count}
use Rattle.base.proofs.Search.{neither}
use Rattle.arbiter.specs.Matrix.{beats}
use Rattle.arbiter.proofs.Ranks.{rank_of}
use Rattle.arbiter.proofs.Top.{Top, NoneOf, top}
use Rattle.arbiter.proofs.TotalOrder.{Order}

-- the word of the requesters of the first r ranks
unfoldable pub ranks_below : (ℕ → ℕ) → ℕ → ℕ
ranks_below at zero = 0
ranks_below at (suc r) = with_bit (at r) (ranks_below at r)

pub ranks_lt : (n : ℕ) (at : ℕ → ℕ) → ((k : ℕ) → at k < n) → (r : ℕ) → ranks_below at r < 2 ^ n
unfolding ranks_below
ranks_lt n at inside zero = pow_pos n
ranks_lt n at inside (suc r) = with_lt n (at r) (ranks_below at r) (ranks_lt n at inside r) (inside r)

ranks_more : (at : ℕ → ℕ) (r j : ℕ) → bit (ranks_below at (suc r)) j ≡ (bit (ranks_below at r) j || eqb j (at r))
unfolding ranks_below
ranks_more at r j = bit_with (at r) (ranks_below at r) j

ranks_has : (at : ℕ → ℕ) (r k : ℕ) → k < r → bit (ranks_below at r) (at k) ≡ true
ranks_has at zero k h = absurd (omega arith)
ranks_has at (suc r) k h = ranks_more at r (at k) ∙ go (eqb k r) refl (ranks_has at r k)
  where
    go : (b : Bool) → eqb k r ≡ b → (k < r → bit (ranks_below at r) (at k) ≡ true)
        → (bit (ranks_below at r) (at k) || eqb (at k) (at r)) ≡ true
    go true e rest =
        ap (λ (b : Bool). bit (ranks_below at r) (at k) || b) (eq-eqb (at k) (at r) (ap at (eqb-true k r e)))
        ∙ or-true (bit (ranks_below at r) (at k))
    go false e rest = ap (λ (b : Bool). b || eqb (at k) (at r)) (rest (lt_of_le-ne (omega arith) (eqb-false k r e)))

ranks_found : (at : ℕ → ℕ) (r j : ℕ) → bit (ranks_below at r) j ≡ true → (k : ℕ) × (k < r) × (at k ≡ j)
unfolding ranks_below
ranks_found at zero j p = absurd (false≢true (sym (bit_zero j) ∙ p))
ranks_found at (suc r) j p = go (eqb j (at r)) refl (bit (ranks_below at r) j) refl (ranks_found at r j)
  where
    go : (b : Bool) → eqb j (at r) ≡ b → (d : Bool) → bit (ranks_below at r) j ≡ d
        → (bit (ranks_below at r) j ≡ true → (k : ℕ) × (k < r) × (at k ≡ j))
        → (k : ℕ) × (k < suc r) × (at k ≡ j)
    go true e d f rest = (r, le_refl (suc r), sym (eqb-true j (at r) e))
    go false e true f rest = let q = rest f in (q.0, omega (arith, q.1), q.2)
    go false e false f rest = absurd (false≢true (sym (ap₂ ◌||◌ f e) ∙ sym (ranks_more at r j) ∙ p))

-- rank k's requester beats exactly those of the ranks before, and is not one of them
pub record Link (rows : List ℕ) (at : ℕ → ℕ) (k : ℕ) : Type 0 where
  pub row : get_or rows (at k) 0 ≡ ranks_below at k
  pub new : bit (ranks_below at k) (at k) ≡ false

-- ---- links at every rank below n, which name all n, make a total order
module _ (n : ℕ) (rows : List ℕ) (at : ℕ → ℕ) (inside : (k : ℕ) → at k < n) (links : (k : ℕ) → k < n → Link rows at k)
    (full : (i : ℕ) → i < n → bit (ranks_below at n) i ≡ true) where
  -- who has a rank beats who has a lower one
  by_rank : (a b : ℕ) → a < n → b < n → beats rows (at a) (at b) ≡ ltb b a
  unfolding beats
  by_rank a b h g = ap (λ (x : ℕ). bit x (at b)) (links a h).row ∙ go (ltb b a) refl (bit (ranks_below at a) (at b)) refl
    where
      go : (t : Bool) → ltb b a ≡ t → (d : Bool) → bit (ranks_below at a) (at b) ≡ d → d ≡ t
      go true e d f = sym f ∙ ranks_has at a b (ltb-true b a e)
      go false e true f =
          let k = ranks_found at a (at b) f in
          let l : k.0 < b = let q = k.1 in let m = ltb-false b a e in omega arith in
          absurd (true≢false (sym (ranks_has at b k.0 l) ∙ ap (bit (ranks_below at b)) k.2 ∙ (links b g).new))
      go false e false f = refl

  rank : (i : ℕ) → i < n → (k : ℕ) × (k < n) × (at k ≡ i)
  rank i h = ranks_found at n i (full i h)

  beats_rank : (i j : ℕ) (h : i < n) (g : j < n) → beats rows i j ≡ ltb (rank j g).0 (rank i h).0
  beats_rank i j h g =
      sym (ap₂ (beats rows) (rank i h).2 (rank j g).2) ∙ by_rank (rank i h).0 (rank j g).0 (rank i h).1 (rank j g).1

  pub links_order : Order n rows
  links_order =
      record {
        irreflexive = λ i h. beats_rank i i h h ∙ le-ltb (rank i h).0 (rank i h).0 (le_refl (rank i h).0);
        total = λ i j h g d. either i j h g d (ltb (rank j g).0 (rank i h).0) refl;
        asymmetric = λ i j h g p.
            let l = ltb-true (rank j g).0 (rank i h).0 (sym (beats_rank i j h g) ∙ p) in
            beats_rank j i g h ∙ le-ltb (rank i h).0 (rank j g).0 (omega arith);
        transitive = λ i j k h g l p q.
            let a = ltb-true (rank j g).0 (rank i h).0 (sym (beats_rank i j h g) ∙ p) in
            let b = ltb-true (rank k l).0 (rank j g).0 (sym (beats_rank j k g l) ∙ q) in
            beats_rank i k h l ∙ lt-ltb (rank k l).0 (rank i h).0 (omega arith);
      }
    where
      either : (i j : ℕ) (h : i < n) (g : j < n) → (i ≡ j → ⊥) → (b : Bool) → ltb (rank j g).0 (rank i h).0 ≡ b
          → (beats rows i j ≡ true) ⊎ (beats rows j i ≡ true)
      either i j h g d true e = inl (beats_rank i j h g ∙ e)
      either i j h g d false e =
          let l : (rank i h).0 < (rank j g).0 =
          lt_of_le-ne (ltb-false (rank j g).0 (rank i h).0 e) (λ q. d (sym (rank i h).2 ∙ ap at q ∙ (rank j g).2)) in
          inr (beats_rank j i g h ∙ lt-ltb (rank i h).0 (rank j g).0 l)

  pub links_within : (i : ℕ) → i < n → get_or rows i 0 < 2 ^ n
  links_within i h =
      subst (λ (x : ℕ). x < 2 ^ n) (sym (ap (λ (m : ℕ). get_or rows m 0) (sym (rank i h).2) ∙ (links (rank i h).0 (rank i h).1).row))
      (ranks_lt n at inside (rank i h).0)

-- ---- a total order, with a table that names for each rank in use one of that rank, has a link at every rank and names all n
module _ (n : ℕ) (rows : List ℕ) (at : ℕ → ℕ) (o : Order n rows) (narrow : (i : ℕ) → i < n → get_or rows i 0 < 2 ^ n)
    (inside : (k : ℕ) → at k < n) (ranked : (i : ℕ) → i < n → rank_of rows (at (rank_of rows i)) ≡ rank_of rows i) where
  count_rank : (i : ℕ) → i < n → rank_of rows i ≡ count (beats rows i) n
  unfolding beats
  count_rank i h = ones_count n (get_or rows i 0) (narrow i h)

  -- who beats another beats more
  higher : (i j : ℕ) → i < n → j < n → beats rows i j ≡ true → rank_of rows j < rank_of rows i
  higher i j h g b =
      subst₂ ◌<◌ (sym (count_rank j g)) (sym (count_rank i h))
      (count_lt (beats rows j) (beats rows i) n j (λ k l p. o.transitive i j k h g l b p) g (o.irreflexive j g) b)

  rank_injective : (i j : ℕ) → i < n → j < n → rank_of rows i ≡ rank_of rows j → i ≡ j
  rank_injective i j h g e = go (eqb i j) refl
    where
      differ : (beats rows i j ≡ true) ⊎ (beats rows j i ≡ true) → ⊥
      differ (inl b) = let l = higher i j h g b in omega arith
      differ (inr b) = let l = higher j i g h b in omega arith

      go : (b : Bool) → eqb i j ≡ b → i ≡ j
      go true q = eqb-true i j q
      go false q = absurd (differ (o.total i j h g (eqb-false i j q)))

  -- the first r ranks: r requesters, each beaten by all others
  record Lowest (r : ℕ) : Type 0 where
    many : count (bit (ranks_below at r)) n ≡ r
    beaten : (s x : ℕ) → s < n → x < n → bit (ranks_below at r) s ≡ true → bit (ranks_below at r) x ≡ false → beats rows x s ≡ true

  next : (r : ℕ) → r < n → Lowest r → Link rows at r × Lowest (suc r)
  unfolding beats
  next r h low =
      go
      (top n beaten_by (λ i j h g d. swapped (o.total i j h g d)) (λ i j k h g l p q. o.transitive k j i l g h q p)
      (λ (x : ℕ). not (bit (ranks_below at r) x)) n (le_refl n))
    where
      beaten_by : ℕ → ℕ → Bool
      beaten_by i j = beats rows j i

      swapped : {A B : Type 0} → A ⊎ B → B ⊎ A
      swapped (inl p) = inr p
      swapped (inr p) = inl p

      S : ℕ → Bool
      S = bit (ranks_below at r)

      go : NoneOf (λ (x : ℕ). not (S x)) n ⊎ ((m : ℕ) × Top beaten_by (λ (x : ℕ). not (S x)) n m) → Link rows at r × Lowest (suc r)
      go (inl none) = absurd (let e = sym low.many ∙ count_all S n (λ i l. not-false (S i) (none i l)) in omega arith)
      go (inr (m, q)) = (
        record { row = ap (λ (i : ℕ). get_or rows i 0) named ∙ row; new = ap S named ∙ not-true (S m) q.passes },
        record { many = many; beaten = beaten },
      )
        where
          -- m beats those of the lower ranks and nobody else
          exact : (j : ℕ) → j < n → beats rows m j ≡ S j
          exact j g = by_set (S j) refl (eqb j m) refl
            where
              by_set : (b : Bool) → S j ≡ b → (d : Bool) → eqb j m ≡ d → beats rows m j ≡ b
              by_set true e d f = low.beaten j m g q.below e (not-true (S m) q.passes)
              by_set false e true f = ap (beats rows m) (eqb-true j m f) ∙ o.irreflexive m q.below
              by_set false e false f = o.asymmetric j m g q.below (q.others j g (ap not e) (eqb-false j m f))

          row : get_or rows m 0 ≡ ranks_below at r
          row = bit_ext n (get_or rows m 0) (ranks_below at r) (narrow m q.below) (ranks_lt n at inside r) exact

          rank : rank_of rows m ≡ r
          rank = count_rank m q.below ∙ count_ext (beats rows m) S n exact ∙ low.many

          named : at r ≡ m
          named =
              rank_injective (at r) m (inside r) q.below
              (ap (λ (k : ℕ). rank_of rows (at k)) (sym rank) ∙ ranked m q.below)

          grown : (j : ℕ) → bit (ranks_below at (suc r)) j ≡ (S j || eqb j m)
          grown j = ranks_more at r j ∙ ap (λ (k : ℕ). S j || eqb j k) named

          many : count (bit (ranks_below at (suc r))) n ≡ suc r
          many =
              count_ext (bit (ranks_below at (suc r))) (λ (j : ℕ). S j || eqb j m) n (λ j g. grown j)
              ∙ count_more S n m q.below (not-true (S m) q.passes) ∙ ap suc low.many

          beaten : (s x : ℕ) → s < n → x < n → bit (ranks_below at (suc r)) s ≡ true → bit (ranks_below at (suc r)) x ≡ false
              → beats rows x s ≡ true
          beaten s x g l p f = by_new (eqb s m) refl (neither (S x) (eqb x m) (sym (grown x) ∙ f))
            where
              by_new : (b : Bool) → eqb s m ≡ b → (S x ≡ false) × (eqb x m ≡ false) → beats rows x s ≡ true
              by_new true e (off, d) = ap (beats rows x) (eqb-true s m e) ∙ q.others x l (ap not off) (eqb-false x m d)
              by_new false e (off, d) =
                  low.beaten s x g l (sym (or-false (S s)) ∙ ap (λ (b : Bool). S s || b) (sym e) ∙ sym (grown s) ∙ p) off

  lowest : (r : ℕ) → r ≤ n → Lowest r
  unfolding ranks_below ones
  lowest zero h =
      record {
        many = sym (ones_count n 0 (pow_pos n));
        beaten = λ s x g l p f. absurd (false≢true (sym (bit_zero s) ∙ p));
      }
  lowest (suc r) h = (next r h (lowest r (omega arith))).1

  pub order_links : (r : ℕ) → r < n → Link rows at r
  order_links r h = (next r h (lowest r (omega arith))).0

  -- and in the end all n are named
  pub order_full : (i : ℕ) → i < n → bit (ranks_below at n) i ≡ true
  order_full i h = go (bit (ranks_below at n) i) refl
    where
      go : (b : Bool) → bit (ranks_below at n) i ≡ b → b ≡ true
      go true e = refl
      go false e =
          absurd (let l = count_lt (bit (ranks_below at n)) (λ (j : ℕ). true) n i (λ j g p. refl) h e refl in
          let m = (lowest n (le_refl n)).many in let a = count_all (λ (j : ℕ). true) n (λ j g. refl) in omega arith)
