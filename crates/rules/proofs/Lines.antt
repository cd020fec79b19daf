-- Lines as lists: a line's first place and the rest, a line a cycle later, and what is on it.
-- Assumes nothing.
use mathlib.Core.Path.{◌≡◌, refl, sym, ap, ap₂, ◌∙◌}
use mathlib.Core.List.{List, [], ◌∷◌, ◌++◌, append_assoc, append-nil}
use Prim.Native.Nat.{ℕ, zero, suc, ◌+◌, ◌≤◌, ◌<◌}
use native.Mathlib.Omega.{arith}
use lib.ListN.{get_or, drop}
use Rattle.state.specs.Views.{places, flat, total}

module _ {A : Type 0} where
  -- lines with the same places are the same
  pub places_ext : (n : ℕ) (f g : ℕ → A) → ((k : ℕ) → k < n → f k ≡ g k) → places n f ≡ places n g
  unfolding places
  places_ext zero f g same = refl
  places_ext (suc n) f g same =
      ap₂ (λ (l : List A) (x : A). l ++ (x ∷ [])) (places_ext n f g (λ k h. same k (omega arith))) (same n (omega arith))

  -- a line is its oldest place, and the rest
  pub places_first : (n : ℕ) (f : ℕ → A) → places (suc n) f ≡ f 0 ∷ places n (λ (k : ℕ). f (suc k))
  unfolding places
  places_first zero f = refl
  places_first (suc n) f = ap (λ (l : List A). l ++ (f (suc n) ∷ [])) (places_first n f)

  -- what comes out of it
  pub places_oldest : (n : ℕ) (f : ℕ → A) (d : A) → 1 ≤ n → get_or (places n f) 0 d ≡ f 0
  places_oldest zero f d h = absurd (omega arith)
  places_oldest (suc n) f d h = ap (λ (l : List A). get_or l 0 d) (places_first n f)

  -- a line whose places have all moved up by one has lost its oldest and has z as its newest
  pub places_advance : (n : ℕ) (f g : ℕ → A) (z : A) → 1 ≤ n → ((k : ℕ) → suc k < n → g k ≡ f (suc k)) → ((k : ℕ) → suc k ≡ n → g k ≡ z)
      → places n g ≡ drop 1 (places n f) ++ (z ∷ [])
  unfolding places
  places_advance zero f g z h up end = absurd (omega arith)
  places_advance (suc n) f g z h up end =
      ap₂ (λ (l : List A) (x : A). l ++ (x ∷ [])) (places_ext n g (λ (k : ℕ). f (suc k)) (λ k l. up k (omega arith))) (end n refl)
      ∙ ap (λ (l : List A). drop 1 l ++ (z ∷ [])) (sym (places_first n f))

module _ {A : Type 0} where
  -- what is on a line with one place more
  pub flat_end : (xs : List (List A)) (x : List A) → flat (xs ++ (x ∷ [])) ≡ flat xs ++ x
  unfolding flat
  flat_end [] x = append-nil x
  flat_end (y ∷ xs) x = ap (λ (l : List A). y ++ l) (flat_end xs x) ∙ sym (append_assoc y (flat xs) x)

  -- what is on a line: what its oldest place holds, and the rest
  pub flat_first : (n : ℕ) (f : ℕ → List A) → 1 ≤ n → flat (places n f) ≡ f 0 ++ flat (drop 1 (places n f))
  unfolding flat
  flat_first zero f h = absurd (omega arith)
  flat_first (suc n) f h =
      ap flat (places_first n f) ∙ ap (λ (l : List (List A)). f 0 ++ flat (drop 1 l)) (sym (places_first n f))

  -- a line that gets z into its newest place, which was empty
  pub flat_newest : (n : ℕ) (f g : ℕ → List A) (z : List A) → 1 ≤ n → ((k : ℕ) → suc k < n → g k ≡ f k) → ((k : ℕ) → suc k ≡ n → f k ≡ [])
      → ((k : ℕ) → suc k ≡ n → g k ≡ z) → flat (places n g) ≡ flat (places n f) ++ z
  unfolding places
  flat_newest zero f g z h same empty end = absurd (omega arith)
  flat_newest (suc n) f g z h same empty end =
      ap₂ (λ (l : List (List A)) (x : List A). flat (l ++ (x ∷ []))) (places_ext n g f (λ k l. same k (omega arith))) (end n refl)
      ∙ flat_end (places n f) z
      ∙ ap (λ (l : List A). l ++ z)
      (sym (append-nil (flat (places n f))) ∙ ap (λ (x : List A). flat (places n f) ++ x) (sym (empty n refl))
      ∙ sym (flat_end (places n f) (f n)))

-- the same of credits
pub total_first : (n : ℕ) (f : ℕ → ℕ) → 1 ≤ n → total (places n f) ≡ f 0 + total (drop 1 (places n f))
unfolding total
total_first zero f h = absurd (omega arith)
total_first (suc n) f h =
    ap total (places_first n f) ∙ ap (λ (l : List ℕ). f 0 + total (drop 1 l)) (sym (places_first n f))
