-- Laws of `keep`, `each`, `flat` and `total`.
-- Assumes nothing.
use mathlib.Core.Path.{◌≡◌, refl, sym, ap, ap₂, fun_ext, subst, ◌∙◌}
use mathlib.Core.Logic.{◌≢◌}
use mathlib.Core.Bool.{Bool, true, false, cond}
use mathlib.Core.List.{List, [], ◌∷◌, ◌++◌, map, append-nil, append_assoc}
use Prim.Native.Nat.{ℕ, zero, suc, ◌≤◌, ◌<◌}
use native.Mathlib.Nat.{not-suc-le-zero}
use native.Mathlib.Decide.{ℕ_discrete, dec_lt}
use native.Mathlib.Omega.{arith}
use lib.Dec.{T, eqb, eqb_refl, eqb→eq, leb, le→leb, leb→le}
use lib.ListN.{length, length-append, replicate}
use Rattle.model.specs.Lists.{keep, each, flat, All, total}

-- A test that passes, and one that fails.
pub passed : (b : Bool) → T b → b ≡ true
passed true t = refl
passed false t = absurd t

pub failed : (b : Bool) → (T b → ⊥) → b ≡ false
failed true f = absurd (f tt)
failed false f = refl

pub eqb_same : (n : ℕ) → eqb n n ≡ true
eqb_same n = passed (eqb n n) (eqb_refl n)

pub eqb_other : {m n : ℕ} → m ≢ n → eqb m n ≡ false
eqb_other {m} {n} ne = failed (eqb m n) (λ t. ne (eqb→eq m n t))

pub eqb-true : (m n : ℕ) → eqb m n ≡ true → m ≡ n
eqb-true m n e = eqb→eq m n (subst T (sym e) tt)

pub leb_yes : (m n : ℕ) → m ≤ n → leb m n ≡ true
leb_yes m n l = passed (leb m n) (le→leb m n l)

pub leb_no : (m n : ℕ) → n < m → leb m n ≡ false
leb_no m n l = failed (leb m n) (λ t. let q : m ≤ n = leb→le m n t in omega arith)

module _ {A : Type 0} where
  pub keep_append : (p : A → Bool) (xs ys : List A) → keep p (xs ++ ys) ≡ keep p xs ++ keep p ys
  keep_append p [] ys = refl
  keep_append p (x ∷ xs) ys = go (p x) (keep_append p xs ys)
    where
      go : (b : Bool) → keep p (xs ++ ys) ≡ keep p xs ++ keep p ys →
          cond b (x ∷ keep p (xs ++ ys)) (keep p (xs ++ ys)) ≡ cond b (x ∷ keep p xs) (keep p xs) ++ keep p ys
      go true ih = ap (λ (r : List A). x ∷ r) ih
      go false ih = ih

  pub keep_replicate : (p : A → Bool) (n : ℕ) (x : A) → keep p (replicate n x) ≡ cond (p x) (replicate n x) []
  keep_replicate p n x = go (p x) refl n
    where
      go : (b : Bool) → p x ≡ b → (n : ℕ) → keep p (replicate n x) ≡ cond b (replicate n x) []
      go true e zero = refl
      go true e (suc n) = rw (e, go true e n)
      go false e zero = refl
      go false e (suc n) = rw (e, go false e n)

  pub keep_each : (p : A → Bool) (n : ℕ) (f : ℕ → List A) → keep p (each n f) ≡ each n (λ i. keep p (f i))
  keep_each p zero f = refl
  keep_each p (suc n) f = keep_append p (each n f) (f n) ∙ ap (λ (r : List A). r ++ keep p (f n)) (keep_each p n f)

  -- `each` of nothing, and of one place only
  pub each_none : (n : ℕ) (f : ℕ → List A) → ((j : ℕ) → j < n → f j ≡ []) → each n f ≡ []
  each_none zero f h = refl
  each_none (suc n) f h = ap₂ (λ (a b : List A). a ++ b) (each_none n f (λ j l. h j (omega arith))) (h n (omega arith))

  pub each_one : (n : ℕ) (f : ℕ → List A) (i : ℕ) → i < n → ((j : ℕ) → j < n → j ≢ i → f j ≡ []) → each n f ≡ f i
  each_one zero f i l h = absurd (not-suc-le-zero l)
  each_one (suc n) f i l h = go (ℕ_discrete n i) (each_one n f i)
    where
      go : Dec (n ≡ i) → (i < n → ((j : ℕ) → j < n → j ≢ i → f j ≡ []) → each n f ≡ f i) → each n f ++ f n ≡ f i
      go (yes e) ih = rw (each_none n f (λ j m. h j (omega arith) (λ q. absurd (omega arith))), e)
      go (no ne) ih = rw (ih (omega arith) (λ j m q. h j (omega arith) q), h n (omega arith) ne) (append-nil (f i))

  -- of a list over the ports a test keeps what it keeps at one port, if it keeps nothing elsewhere
  pub keep_one : (p : A → Bool) (n : ℕ) (f : ℕ → List A) (i : ℕ) → ((j : ℕ) → j ≢ i → keep p (f j) ≡ []) → (¬ (i < n) → keep p (f i) ≡ []) →
      keep p (each n f) ≡ keep p (f i)
  keep_one p n f i other out = keep_each p n f ∙ go (dec_lt i n)
    where
      go : Dec (i < n) → each n (λ j. keep p (f j)) ≡ keep p (f i)
      go (yes l) = each_one n (λ j. keep p (f j)) i l (λ j m ne. other j ne)
      go (no l) = each_none n (λ j. keep p (f j)) (λ j m. other j (λ q. l (subst (λ (x : ℕ). x < n) q m))) ∙ sym (out l)

  -- what `each` lists, some place has
  pub each_found : (n : ℕ) (f : ℕ → List A) (x : A) (xs : List A) → each n f ≡ x ∷ xs → (j : ℕ) × (j < n) × (y : A) × (ys : List A)
      × (f j ≡ y ∷ ys)
  each_found zero f x xs e = absurd (let z : ◌≡◌ {A = ℕ} 0 1 = cc in omega arith)
  each_found (suc n) f x xs e = go (each n f) refl (each_found n f) (f n) refl
    where
      go : (l : List A) → each n f ≡ l → ((x : A) (xs : List A) → each n f ≡ x ∷ xs → (j : ℕ) × (j < n) × (y : A) × (ys : List A)
          × (f j ≡ y ∷ ys)) →
          (m : List A) → f n ≡ m → (j : ℕ) × (j < suc n) × (y : A) × (ys : List A) × (f j ≡ y ∷ ys)
      go (y ∷ ys) l ih m q = let r = ih y ys l in (r.0, omega (arith, r.1), r.2, r.3, r.4)
      go [] l ih (y ∷ ys) q = (n, omega arith, y, ys, q)
      go [] l ih [] q = absurd (let z : ◌≡◌ {A = ℕ} 0 1 = cc in omega arith)

  -- the same of a grid of n rows and m columns: what passes a test, a grid with one place that holds something, and what some place holds
  pub keep_grid : (p : A → Bool) (n m : ℕ) (f : ℕ → ℕ → List A) → keep p (each n (λ j. each m (f j)))
      ≡ each n (λ j. each m (λ u. keep p (f j u)))
  keep_grid p n m f = keep_each p n (λ j. each m (f j)) ∙ ap (each n) (fun_ext (λ j. keep_each p m (f j)))

  pub grid_one : (n m : ℕ) (f : ℕ → ℕ → List A) (i v : ℕ) → ((j u : ℕ) → ¬ ((j ≡ i) × (u ≡ v)) → f j u ≡ [])
      → (¬ ((i < n) × (v < m)) → f i v ≡ []) →
      each n (λ j. each m (f j)) ≡ f i v
  grid_one n m f i v other out = go (dec_lt i n) (dec_lt v m)
    where
      empty : ¬ ((i < n) × (v < m)) → each n (λ j. each m (f j)) ≡ f i v
      empty q =
          each_none n (λ j. each m (f j)) (λ j l. each_none m (f j)
          (λ u k. other j u (λ r. q (subst (λ x. x < n) r.0 l, subst (λ x. x < m) r.1 k)))) ∙
          sym (out q)

      go : Dec (i < n) → Dec (v < m) → each n (λ j. each m (f j)) ≡ f i v
      go (yes a) (yes b) =
          each_one n (λ j. each m (f j)) i a (λ j l ne. each_none m (f j) (λ u k. other j u (λ r. ne r.0))) ∙ each_one m (f i) v b
          (λ u k ne. other i u (λ r. ne r.1))
      go (yes a) (no b) = empty (λ r. b r.1)
      go (no a) (yes b) = empty (λ r. a r.0)
      go (no a) (no b) = empty (λ r. a r.0)

  pub keep_grid_one : (p : A → Bool) (n m : ℕ) (f : ℕ → ℕ → List A) (i v : ℕ) → ((j u : ℕ) → ¬ ((j ≡ i) × (u ≡ v)) → keep p (f j u) ≡ []) →
      (¬ ((i < n) × (v < m)) → keep p (f i v) ≡ []) → keep p (each n (λ j. each m (f j))) ≡ keep p (f i v)
  keep_grid_one p n m f i v other out = keep_grid p n m f ∙ grid_one n m (λ j u. keep p (f j u)) i v other out

  pub grid_found : (n m : ℕ) (f : ℕ → ℕ → List A) (x : A) (xs : List A) → each n (λ j. each m (f j)) ≡ x ∷ xs →
      (j : ℕ) × (u : ℕ) × (y : A) × (ys : List A) × (f j u ≡ y ∷ ys) × (j < n) × (u < m)
  grid_found n m f x xs e =
      let r = each_found n (λ j. each m (f j)) x xs e in
      let q = each_found m (f r.0) r.2 r.3 r.4 in
      (r.0, q.0, q.2, q.3, q.4, r.1, q.1)

  -- a grid in which one place at most holds something, and that at most one
  pub grid_le_one : (n m : ℕ) (f : ℕ → ℕ → List A) → ((j u : ℕ) → length (f j u) ≤ 1) →
      ((j u i v : ℕ) → 0 < length (f j u) → 0 < length (f i v) → (j ≡ i) × (u ≡ v)) → length (each n (λ j. each m (f j))) ≤ 1
  grid_le_one n m f one alone = go (each n (λ j. each m (f j))) refl
    where
      go : (l : List A) → each n (λ j. each m (f j)) ≡ l → length l ≤ 1
      go [] e = omega arith
      go (x ∷ xs) e =
          let r = grid_found n m f x xs e in
          let here : 0 < length (f r.0 r.1) = rw r.4 (omega arith) in
          let only : each n (λ j. each m (f j)) ≡ f r.0 r.1 = grid_one n m f r.0 r.1 (λ j u ne. others j u ne here (f j u) refl)
          (λ out. absurd (out (r.5, r.6))) in
          subst (λ (l : List A). length l ≤ 1) (sym only ∙ e) (one r.0 r.1)
        where
          others : (j u : ℕ) {i v : ℕ} → ¬ ((j ≡ i) × (u ≡ v)) → 0 < length (f i v) → (l : List A) → f j u ≡ l → f j u ≡ []
          others j u ne here [] q = q
          others j u {i} {v} ne here (y ∷ ys) q = absurd (ne (alone j u i v (rw q (omega arith)) here))

  -- `All` of what is put together
  module _ (P : A → Type 0) where
    pub all_append : (xs ys : List A) → All P xs → All P ys → All P (xs ++ ys)
    all_append [] ys p q = q
    all_append (x ∷ xs) ys p q = (p.0, all_append xs ys p.1 q)

    pub all_left : (xs ys : List A) → All P (xs ++ ys) → All P xs
    all_left [] ys p = tt
    all_left (x ∷ xs) ys p = (p.0, all_left xs ys p.1)

    pub all_right : (xs ys : List A) → All P (xs ++ ys) → All P ys
    all_right [] ys p = p
    all_right (x ∷ xs) ys p = all_right xs ys p.1

    pub all_each : (n : ℕ) (f : ℕ → List A) → ((j : ℕ) → j < n → All P (f j)) → All P (each n f)
    all_each zero f p = tt
    all_each (suc n) f p = all_append (each n f) (f n) (all_each n f (λ j l. p j (omega arith))) (p n (omega arith))

  pub flat_append : (xs ys : List (List A)) → flat (xs ++ ys) ≡ flat xs ++ flat ys
  flat_append [] ys = refl
  flat_append (x ∷ xs) ys = rw (flat_append xs ys, append_assoc x (flat xs) (flat ys))

  pub total_lengths : (xs : List (List A)) → total (map length xs) ≡ length (flat xs)
  total_lengths [] = refl
  total_lengths (x ∷ xs) = rw (length-append x (flat xs), total_lengths xs)
