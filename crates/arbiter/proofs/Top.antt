-- Among the numbers that pass a test, the one that comes before all others in a total order.
-- Assumes nothing.
use mathlib.Core.Path.{◌≡◌, refl, sym, ap, ◌∙◌}
use mathlib.Core.Logic.{◌⊎◌, inl, inr}
use mathlib.Core.Bool.{Bool, true, false, true≢false}
use Prim.Native.Nat.{ℕ, zero, suc, ◌≤◌, ◌<◌}
use native.Mathlib.Nat.{le_refl}
use native.Mathlib.Omega.{arith}
use lib.Arith.{lt_of_le-ne}
use lib.Dec.{eqb}
use borrow.Author.Tests.{eqb-true, eqb-false}

-- m passes the test and comes before every other below k that does
pub record Top (before : ℕ → ℕ → Bool) (test : ℕ → Bool) (k m : ℕ) : Type 0 where
  pub below : m < k
  pub passes : test m ≡ true
  pub others : (x : ℕ) → x < k → test x ≡ true → (x ≡ m → ⊥) → before m x ≡ true

abbrev pub NoneOf : (ℕ → Bool) → ℕ → Type 0
NoneOf test k = (x : ℕ) → x < k → test x ≡ false

module _ (n : ℕ) (before : ℕ → ℕ → Bool)
    (total : (i j : ℕ) → i < n → j < n → (i ≡ j → ⊥) → (before i j ≡ true) ⊎ (before j i ≡ true))
    (transitive : (i j k : ℕ) → i < n → j < n → k < n → before i j ≡ true → before j k ≡ true → before i k ≡ true) where
  pub top : (test : ℕ → Bool) (k : ℕ) → k ≤ n → NoneOf test k ⊎ ((m : ℕ) × Top before test k m)
  top test zero h = inl (λ x l. absurd (omega arith))
  top test (suc k) h = go (test k) refl (top test k (omega arith))
    where
      under : (x : ℕ) → x < suc k → (x ≡ k → ⊥) → x < k
      under x l d = lt_of_le-ne (omega arith) d

      go : (b : Bool) → test k ≡ b → NoneOf test k ⊎ ((m : ℕ) × Top before test k m)
          → NoneOf test (suc k) ⊎ ((m : ℕ) × Top before test (suc k) m)
      go false e (inl none) = inl (λ x l. last x l (eqb x k) refl)
        where
          last : (x : ℕ) → x < suc k → (b : Bool) → eqb x k ≡ b → test x ≡ false
          last x l true q = ap test (eqb-true x k q) ∙ e
          last x l false q = none x (under x l (eqb-false x k q))
      go false e (inr (m, q)) =
          inr (
            m,
            record {
              below = let l = q.below in omega arith;
              passes = q.passes;
              others = λ x g t d. q.others x (under x g (λ same. true≢false (sym t ∙ ap test same ∙ e))) t d;
            },
          )
      go true e (inl none) =
          inr (k, record { below = le_refl (suc k); passes = e; others = λ x g t d. absurd (true≢false (sym t ∙ none x (under x g d))) })
      go true e (inr (m, q)) = by_order (total k m h (let l = q.below in omega arith) (λ same. let l = q.below in omega arith))
        where
          by_order : (before k m ≡ true) ⊎ (before m k ≡ true) → NoneOf test (suc k) ⊎ ((m : ℕ) × Top before test (suc k) m)
          by_order (inl b) =
              inr (k, record { below = le_refl (suc k); passes = e; others = λ x g t d. past x (under x g d) t (eqb x m) refl })
            where
              past : (x : ℕ) → x < k → test x ≡ true → (b : Bool) → eqb x m ≡ b → before k x ≡ true
              past x g t true same = ap (before k) (eqb-true x m same) ∙ b
              past x g t false differs =
                  transitive k m x h (let l = q.below in omega arith) (omega arith) b (q.others x g t (eqb-false x m differs))
          by_order (inr b) =
              inr
              (m, record { below = let l = q.below in omega arith; passes = q.passes; others = λ x g t d. keep x g t d (eqb x k) refl })
            where
              keep : (x : ℕ) → x < suc k → test x ≡ true → (x ≡ m → ⊥) → (b : Bool) → eqb x k ≡ b → before m x ≡ true
              keep x g t d true same = ap (before m) (eqb-true x k same) ∙ b
              keep x g t d false differs = q.others x (under x g (eqb-false x k differs)) t d
