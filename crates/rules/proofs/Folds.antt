-- What happens port by port, in general: a turn more, what every turn keeps, and a list in which each port changes one place at most.
-- Assumes nothing.
use mathlib.Core.Path.{◌≡◌, refl, sym, ap, ◌∙◌}
use mathlib.Core.Logic.{◌≢◌}
use mathlib.Core.Bool.{Bool, true, false, cond}
use mathlib.Core.List.{List}
use Rattle.std.specs.Prelude.{Option, Some, None}
use Prim.Native.Nat.{ℕ, zero, suc, ◌+◌, ◌<◌}
use native.Mathlib.Omega.{arith}
use lib.Arith.{lt_of_le-ne}
use lib.Dec.{eqb}
use lib.ListN.{length, get_or, set, length-set}
use lib.Seq.{get_or-set_same, get_or-set_other}
use borrow.Author.Tests.{eqb-true, eqb-false}
use Rattle.rules.specs.Ports.{over_ports}

module _ {A : Type 0} where
  -- a loop's start
  pub over_none : (f : A → ℕ → A) (s : A) → s ≡ over_ports 0 f s
  unfolding over_ports
  over_none f s = refl

  -- a loop's next turn
  pub over_more : (n : ℕ) (f : A → ℕ → A) (s : A) → over_ports (n + 1) f s ≡ f (over_ports n f s) n
  unfolding over_ports
  over_more n f s = let e : n + 1 ≡ suc n = omega arith in rw e

  -- a loop's invariant after one more turn
  pub over_again : (n : ℕ) (f : A → ℕ → A) (s t u : A) → t ≡ over_ports n f s → u ≡ f t n → u ≡ over_ports (n + 1) f s
  over_again n f s t u e g = g ∙ ap (λ (x : A). f x n) e ∙ sym (over_more n f s)

  -- what each turn keeps, all of them keep
  pub over_keeps : (Keeps : A → Type 0) (n : ℕ) (f : A → ℕ → A) (s : A) → ((t : A) (i : ℕ) → i < n → Keeps t → Keeps (f t i)) → Keeps s
      → Keeps (over_ports n f s)
  unfolding over_ports
  over_keeps Keeps zero f s turn h = h
  over_keeps Keeps (suc n) f s turn h = turn (over_ports n f s) n (omega arith)
      (over_keeps Keeps n f s (λ t i l k. turn t i (omega arith) k) h)

  -- turns that do the same give the same
  pub over_same : (n : ℕ) (f g : A → ℕ → A) (s : A) → ((t : A) (i : ℕ) → i < n → f t i ≡ g t i) → over_ports n f s ≡ over_ports n g s
  unfolding over_ports
  over_same zero f g s e = refl
  over_same (suc n) f g s e =
      e (over_ports n f s) n (omega arith) ∙ ap (λ (t : A). g t n) (over_same n f g s (λ t i l. e t i (omega arith)))

  -- the list with one place changed, if a place is named
  abbrev pub changed : A → (A → A) → Option ℕ → List A → List A
  changed d g None xs = xs
  changed d g (Some x) xs = set xs x (g (get_or xs x d))

  -- what a place holds after that
  abbrev pub changed_at : ℕ → (A → A) → Option ℕ → A → A
  changed_at y g None a = a
  changed_at y g (Some x) a = cond (eqb x y) (g a) a

  pub changed_length : (d : A) (g : A → A) (o : Option ℕ) (xs : List A) → length (changed d g o xs) ≡ length xs
  changed_length d g None xs = refl
  changed_length d g (Some x) xs = length-set xs x (g (get_or xs x d))

  pub changed_at-law : (d : A) (g : A → A) (o : Option ℕ) (xs : List A) (y : ℕ) → y < length xs
      → get_or (changed d g o xs) y d ≡ changed_at y g o (get_or xs y d)
  changed_at-law d g None xs y l = refl
  changed_at-law d g (Some x) xs y l = go (eqb x y) refl
    where
      go : (b : Bool) → eqb x y ≡ b → get_or (set xs x (g (get_or xs x d))) y d ≡ cond b (g (get_or xs y d)) (get_or xs y d)
      go true e = let q = eqb-true x y e in rw q (get_or-set_same xs y (g (get_or xs y d)) d l)
      go false e = get_or-set_other xs x y (g (get_or xs x d)) d (λ q. eqb-false x y e (sym q))

  pub changed_elsewhere : (d : A) (g : A → A) (o : Option ℕ) (xs : List A) (y : ℕ) → o ≢ Some y → get_or (changed d g o xs) y d ≡ get_or xs y d
  changed_elsewhere d g None xs y n = refl
  changed_elsewhere d g (Some x) xs y n = get_or-set_other xs x y (g (get_or xs x d)) d (λ q. n (ap Some (sym q)))

  -- a fold in which port i changes place `at i`, if it names one
  module _ (d : A) (at : ℕ → Option ℕ) (g : ℕ → A → A) where
    abbrev pub turns : List A → ℕ → List A
    turns xs i = changed d (g i) (at i) xs

    pub turns_length : (n : ℕ) (xs : List A) → length (over_ports n turns xs) ≡ length xs
    unfolding over_ports
    turns_length zero xs = refl
    turns_length (suc n) xs = changed_length d (g n) (at n) (over_ports n turns xs) ∙ turns_length n xs

    -- a place that no port names stays
    pub turns_elsewhere : (n : ℕ) (xs : List A) (y : ℕ) → ((i : ℕ) → i < n → at i ≢ Some y) → get_or (over_ports n turns xs) y d ≡ get_or xs y d
    unfolding over_ports
    turns_elsewhere zero xs y h = refl
    turns_elsewhere (suc n) xs y h =
        changed_elsewhere d (g n) (at n) (over_ports n turns xs) y (h n (omega arith))
        ∙ turns_elsewhere n xs y (λ i l. h i (omega arith))

    -- a place that at most port i names is changed by it alone
    pub turns_at : (n : ℕ) (xs : List A) (y i : ℕ) → i < n → y < length xs → ((j : ℕ) → j < n → j ≢ i → at j ≢ Some y)
        → get_or (over_ports n turns xs) y d ≡ changed_at y (g i) (at i) (get_or xs y d)
    unfolding over_ports
    turns_at zero xs y i l m h = absurd (omega arith)
    turns_at (suc n) xs y i l m h = go (eqb n i) refl (λ k. turns_at n xs y i k m (λ j r. h j (omega arith)))
      where
        go : (b : Bool) → eqb n i ≡ b → (i < n → get_or (over_ports n turns xs) y d ≡ changed_at y (g i) (at i) (get_or xs y d))
            → get_or (changed d (g n) (at n) (over_ports n turns xs)) y d ≡ changed_at y (g i) (at i) (get_or xs y d)
        go true e rest =
            let q = eqb-true n i e in
            let long : y < length (over_ports n turns xs) = rw (turns_length n xs) m in
            changed_at-law d (g n) (at n) (over_ports n turns xs) y long
            ∙ ap (λ (a : A). changed_at y (g n) (at n) a) (turns_elsewhere n xs y (λ j k. h j (omega arith) (λ r. absurd (omega arith))))
            ∙ ap (λ (k : ℕ). changed_at y (g k) (at k) (get_or xs y d)) q
        go false e rest =
            changed_elsewhere d (g n) (at n) (over_ports n turns xs) y (h n (omega arith) (eqb-false n i e))
            ∙ rest (lt_of_le-ne (omega arith) (λ r. eqb-false n i e (sym r)))
