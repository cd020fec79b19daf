-- Departures sorted by the input VC that they left, as the free router lists a cycle's: of each input VC they are the same, in their order,
-- and whatever is asked of a departure is true of as many. Laws of lists: nothing here is about a router.
-- Assumes nothing.
use mathlib.Core.Path.{◌≡◌, refl, sym, ap, ap₂, subst, ◌∙◌}
use mathlib.Core.Bool.{Bool, true, false, cond}
use mathlib.Core.List.{List, [], ◌∷◌, ◌++◌}
use Prim.Native.Nat.{ℕ, zero, suc, ◌+◌, ◌≤◌, ◌<◌}
use native.Mathlib.Omega.{arith}
use lib.ListN.{length, length-append}
use Rattle.base.specs.declared.flit.Flit.{Flit}
use Rattle.model.specs.History.{Departure, same}
use Rattle.model.specs.Lists.{keep, each, All}
use Rattle.model.proofs.Entries.{same_own, same_true}
use Rattle.model.proofs.Lists.{keep_grid, each_none, grid_one}

-- lists over the ports that are alike at each port
pub each_ext : {A : Type 0} (n : ℕ) (f g : ℕ → List A) → ((i : ℕ) → i < n → f i ≡ g i) → each n f ≡ each n g
each_ext zero f g h = refl
each_ext {A} (suc n) f g h = ap₂ (λ (a b : List A). a ++ b) (each_ext n f g (λ i l. h i (omega arith))) (h n (omega arith))

-- where each place's list is as long as two others together, so are all of them together
each_together : {A : Type 0} (n : ℕ) (f g h : ℕ → List A) → ((i : ℕ) → length (f i) ≡ length (g i) + length (h i))
    → length (each n f) ≡ length (each n g) + length (each n h)
each_together zero f g h same = refl
each_together (suc n) f g h same =
    omega (
      arith,
      each_together n f g h same,
      same n,
      length-append (each n f) (f n),
      length-append (each n g) (g n),
      length-append
          (each n h) (h n),
    )

module _ {A : Type 0} where
  -- two tests, in either order
  keep_swap : (p q : A → Bool) (xs : List A) → keep p (keep q xs) ≡ keep q (keep p xs)
  keep_swap p q [] = refl
  keep_swap p q (x ∷ xs) = go (p x) refl (q x) refl (keep_swap p q xs)
    where
      go : (b : Bool) → p x ≡ b → (d : Bool) → q x ≡ d → keep p (keep q xs) ≡ keep q (keep p xs)
          → keep p (cond d (x ∷ keep q xs) (keep q xs)) ≡ keep q (cond b (x ∷ keep p xs) (keep p xs))
      go true e true f ih = rw (e, f, ih)
      go true e false f ih = rw f ih
      go false e true f ih = rw e ih
      go false e false f ih = ih

  -- what each has, each that is kept has
  all_kept : (P : A → Type 0) (p : A → Bool) (xs : List A) → All P xs → All P (keep p xs)
  all_kept P p [] all = tt
  all_kept P p (x ∷ xs) all = go (p x) (all_kept P p xs all.1)
    where
      go : (b : Bool) → All P (keep p xs) → All P (cond b (x ∷ keep p xs) (keep p xs))
      go true rest = (all.0, rest)
      go false rest = rest

  -- those that pass pass, and a test that all pass keeps all
  kept_pass : (p : A → Bool) (xs : List A) → All (λ (x : A). p x ≡ true) (keep p xs)
  kept_pass p [] = tt
  kept_pass p (x ∷ xs) = go (p x) refl (kept_pass p xs)
    where
      go : (b : Bool) → p x ≡ b → All (λ (x : A). p x ≡ true) (keep p xs) → All (λ (x : A). p x ≡ true) (cond b (x ∷ keep p xs) (keep p xs))
      go true e rest = (e, rest)
      go false e rest = rest

  keep_all : (p : A → Bool) (xs : List A) → All (λ (x : A). p x ≡ true) xs → keep p xs ≡ xs
  keep_all p [] all = refl
  keep_all p (x ∷ xs) all = rw (all.0, keep_all p xs all.1)

-- whether it left VC v of input i
abbrev pub from : ℕ → ℕ → Departure Flit → Bool
from i v d = same d.input d.vc i v

-- of departures from one VC none is from another
from_apart : (i v j u : ℕ) (ds : List (Departure Flit)) → All (λ (d : Departure Flit). from i v d ≡ true) ds → ¬ ((j ≡ i) × (u ≡ v))
    → keep (from j u) ds ≡ []
from_apart i v j u [] own ne = refl
from_apart i v j u (d ∷ ds) own ne = go (from j u d) refl (from_apart i v j u ds own.1 ne)
  where
    go : (b : Bool) → from j u d ≡ b → keep (from j u) ds ≡ [] → cond b (d ∷ keep (from j u) ds) (keep (from j u) ds) ≡ []
    go true e rest =
        let here = same_true d.input d.vc i v own.0 in
        let other = same_true d.input d.vc j u e in
        absurd (ne (sym other.0 ∙ here.0, sym other.1 ∙ here.1))
    go false e rest = rest

-- the departures by the VC that they left, of n inputs and m VCs each
abbrev pub sorted : ℕ → ℕ → List (Departure Flit) → List (Departure Flit)
sorted n m ds = each n (λ i. each m (λ v. keep (from i v) ds))

module _ (n m : ℕ) where
  -- from a VC that there is
  abbrev pub Inside : Departure Flit → Type 0
  Inside d = (d.input < n) × (d.vc < m)

  sorted_none : sorted n m [] ≡ []
  sorted_none = each_none n (λ i. each m (λ v. [])) (λ i l. each_none m (λ v. []) (λ v k. refl))

  -- one more departure is sorted in beside the others
  sorted_more : (d : Departure Flit) (ds : List (Departure Flit))
      → length (sorted n m (d ∷ ds)) ≡ length (sorted n m (d ∷ [])) + length (sorted n m ds)
  sorted_more d ds =
      each_together n _ _ _ (λ i. each_together m (λ v. keep (from i v) (d ∷ ds)) (λ v. keep (from i v) (d ∷ []))
      (λ v. keep (from i v) ds)
      (λ v. go (from i v d) (keep (from i v) ds)))
    where
      go : (b : Bool) (kept : List (Departure Flit)) → length (cond b (d ∷ kept) kept) ≡ length (cond b (d ∷ []) []) + length kept
      go true kept = omega arith
      go false kept = omega arith

  -- departures from one VC that there is are sorted in beside one another, in their order
  sorted_source : (i v : ℕ) (ds : List (Departure Flit)) → All (λ (d : Departure Flit). from i v d ≡ true) ds → All Inside ds
      → sorted n m ds ≡ ds
  sorted_source i v [] own there = sorted_none
  sorted_source i v (d ∷ ds) own there =
      let here = same_true d.input d.vc i v own.0 in
      grid_one n m (λ j u. keep (from j u) (d ∷ ds)) i v (λ j u ne. from_apart i v j u (d ∷ ds) own ne)
      (λ out. absurd (out (subst (λ (k : ℕ). k < n) here.0 there.0.0, subst (λ (k : ℕ). k < m) here.1 there.0.1)))
      ∙ keep_all (from i v) (d ∷ ds) own

  sorted_one : (d : Departure Flit) → Inside d → sorted n m (d ∷ []) ≡ d ∷ []
  sorted_one d there = sorted_source d.input d.vc (d ∷ []) (same_own d.input d.vc, tt) (there, tt)

  -- a test of what is sorted
  sorted_kept : (p : Departure Flit → Bool) (ds : List (Departure Flit)) → keep p (sorted n m ds) ≡ sorted n m (keep p ds)
  sorted_kept p ds =
      keep_grid p n m (λ i v. keep (from i v) ds)
      ∙ each_ext n _ _ (λ i l. each_ext m (λ v. keep p (keep (from i v) ds)) (λ v. keep (from i v) (keep p ds))
      (λ v k. keep_swap p (from i v) ds))

  -- Departures from VCs that there are, and sorted: of each VC the same, in their order; ..
  pub sorted_from : (ds : List (Departure Flit)) → All Inside ds → (i v : ℕ) → keep (from i v) (sorted n m ds) ≡ keep (from i v) ds
  sorted_from ds there i v =
      sorted_kept (from i v) ds
      ∙ sorted_source i v (keep (from i v) ds) (kept_pass (from i v) ds) (all_kept Inside (from i v) ds there)

  -- .. as many pass any test; ..
  sorted_all : (ds : List (Departure Flit)) → All Inside ds → length (sorted n m ds) ≡ length ds
  sorted_all [] there = ap length sorted_none
  sorted_all (d ∷ ds) there = omega (arith, sorted_more d ds, ap length (sorted_one d there.0), sorted_all ds there.1)

  pub sorted_many : (ds : List (Departure Flit)) → All Inside ds → (p : Departure Flit → Bool)
      → length (keep p (sorted n m ds)) ≡ length (keep p ds)
  sorted_many ds there p = ap length (sorted_kept p ds) ∙ sorted_all (keep p ds) (all_kept Inside p ds there)

  -- .. and where one at most passes it, it is that one.
  pub sorted_few : (ds : List (Departure Flit)) → All Inside ds → (p : Departure Flit → Bool) → length (keep p ds) ≤ 1
      → keep p (sorted n m ds) ≡ keep p ds
  sorted_few ds there p few = sorted_kept p ds ∙ go (keep p ds) few (all_kept Inside p ds there)
    where
      go : (l : List (Departure Flit)) → length l ≤ 1 → All Inside l → sorted n m l ≡ l
      go [] k in-there = sorted_none
      go (d ∷ []) k in-there = sorted_one d in-there.0
      go (d ∷ (e ∷ l)) k in-there = absurd (omega arith)
