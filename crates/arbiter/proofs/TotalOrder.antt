-- A matrix as a total order: what the test of all triples says as facts, and that the test by ranks decides the same.
-- Assumes nothing.
use mathlib.Core.Path.{◌≡◌, refl, sym, ap, ap₂, subst, ◌∙◌}
use mathlib.Core.Logic.{◌⊎◌, inl, inr}
use mathlib.Core.Bool.{Bool, true, false, not, ◌&&◌, ◌||◌, xor, beq, true≢false, false≢true}
use mathlib.Core.List.{List}
use Prim.Native.Nat.{ℕ, ◌<◌}
use lib.Dec.{eqb}
use borrow.Author.Tests.{eqb-false, ne_eqb, not-true}
use Rattle.base.specs.Search.{every}
use Rattle.base.proofs.Search.{both, every_at, all_every}
use Rattle.arbiter.specs.Matrix.{beats, total_order}

-- the four facts of a total order, as a reader would state them
pub record Order (n : ℕ) (rows : List ℕ) : Type 0 where
  pub irreflexive : (i : ℕ) → i < n → beats rows i i ≡ false
  pub total : (i j : ℕ) → i < n → j < n → (i ≡ j → ⊥) → (beats rows i j ≡ true) ⊎ (beats rows j i ≡ true)
  pub asymmetric : (i j : ℕ) → i < n → j < n → beats rows i j ≡ true → beats rows j i ≡ false
  pub transitive : (i j k : ℕ) → i < n → j < n → k < n → beats rows i j ≡ true → beats rows j k ≡ true → beats rows i k ≡ true

-- the three tests of `total_order`, each a fact
module _ (n : ℕ) (rows : List ℕ) where
  abbrev nobody_itself : ℕ → Bool
  nobody_itself i = not (beats rows i i)

  abbrev exactly_one : ℕ → ℕ → Bool
  exactly_one i j = eqb i j || xor (beats rows i j) (beats rows j i)

  abbrev carries_over : ℕ → ℕ → ℕ → Bool
  carries_over i j k = not (beats rows i j && beats rows j k) || beats rows i k

  pub order_of : total_order n rows ≡ true → Order n rows
  unfolding total_order xor
  order_of e =
      record {
        irreflexive = λ i h. not-true (beats rows i i) (every_at n nobody_itself parts.0 i h);
        total = total;
        asymmetric = asymmetric;
        transitive = transitive;
      }
    where
      parts : (every n nobody_itself ≡ true) × (every n (λ (i : ℕ). every n (exactly_one i)) ≡ true)
          × (every n (λ (i : ℕ). every n (λ (j : ℕ). every n (carries_over i j))) ≡ true)
      parts =
          let p = both (every n nobody_itself && every n (λ (i : ℕ). every n (exactly_one i)))
          (every n (λ (i : ℕ). every n (λ (j : ℕ). every n (carries_over i j)))) e in
          let q = both (every n nobody_itself) (every n (λ (i : ℕ). every n (exactly_one i))) p.0 in
          (q.0, q.1, p.1)

      one_wins : (i j : ℕ) → i < n → j < n → (i ≡ j → ⊥) → xor (beats rows i j) (beats rows j i) ≡ true
      one_wins i j h g d =
          subst (λ (b : Bool). (b || xor (beats rows i j) (beats rows j i)) ≡ true) (ne_eqb i j d)
          (every_at n (exactly_one i) (every_at n (λ (i : ℕ). every n (exactly_one i)) parts.1 i h) j g)

      either : (a b : Bool) → xor a b ≡ true → (a ≡ true) ⊎ (b ≡ true)
      either true b q = inl refl
      either false b q = inr (subst (λ (x : Bool). x ≡ true) (not_beq b) q)
        where
          not_beq : (b : Bool) → not (beq false b) ≡ b
          not_beq true = refl
          not_beq false = refl

      total : (i j : ℕ) → i < n → j < n → (i ≡ j → ⊥) → (beats rows i j ≡ true) ⊎ (beats rows j i ≡ true)
      total i j h g d = either (beats rows i j) (beats rows j i) (one_wins i j h g d)

      not_both : (a b : Bool) → xor a b ≡ true → a ≡ true → b ≡ false
      not_both true true q p = absurd (false≢true q)
      not_both true false q p = refl
      not_both false b q p = absurd (false≢true p)

      asymmetric : (i j : ℕ) → i < n → j < n → beats rows i j ≡ true → beats rows j i ≡ false
      asymmetric i j h g b =
          not_both (beats rows i j) (beats rows j i)
          (one_wins i j h g (λ same. true≢false (sym b ∙ ap (beats rows i) (sym same)
          ∙ not-true (beats rows i i) (every_at n nobody_itself parts.0 i h)))) b

      transitive : (i j k : ℕ) → i < n → j < n → k < n → beats rows i j ≡ true → beats rows j k ≡ true → beats rows i k ≡ true
      transitive i j k h g l p q =
          subst (λ (b : Bool). (not b || beats rows i k) ≡ true) (ap₂ ◌&&◌ p q)
          (every_at n (carries_over i j) (every_at n (λ (j : ℕ). every n (carries_over i j))
          (every_at n (λ (i : ℕ). every n (λ (j : ℕ). every n (carries_over i j))) parts.2 i h) j g) k l)

  pub order_holds : Order n rows → total_order n rows ≡ true
  unfolding total_order xor
  order_holds o =
      ap₂ ◌&&◌
      (ap₂ ◌&&◌ (all_every n nobody_itself (λ i h. ap not (o.irreflexive i h)))
      (all_every n (λ (i : ℕ). every n (exactly_one i)) (λ i h. all_every n (exactly_one i) (λ j g. one i j h g (eqb i j) refl))))
      (all_every n (λ (i : ℕ). every n (λ (j : ℕ). every n (carries_over i j)))
      (λ i h. all_every n (λ (j : ℕ). every n (carries_over i j))
      (λ j g. all_every n (carries_over i j) (λ k l. over (beats rows i j) (beats rows j k) (beats rows i k)
      (o.transitive i j k h g l)))))
    where
      over : (a b c : Bool) → (a ≡ true → b ≡ true → c ≡ true) → (not (a && b) || c) ≡ true
      over true true c t = t refl refl
      over true false c t = refl
      over false b c t = refl

      one : (i j : ℕ) → i < n → j < n → (b : Bool) → eqb i j ≡ b → (b || xor (beats rows i j) (beats rows j i)) ≡ true
      one i j h g true e = refl
      one i j h g false e = go (o.total i j h g (eqb-false i j e))
        where
          go : (beats rows i j ≡ true) ⊎ (beats rows j i ≡ true) → xor (beats rows i j) (beats rows j i) ≡ true
          go (inl p) = ap₂ xor p (o.asymmetric i j h g p)
          go (inr p) = ap₂ xor (o.asymmetric j i g h p) p
