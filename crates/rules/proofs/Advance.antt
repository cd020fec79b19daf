-- A line a cycle later: each place holds what the next younger one held, the newest is empty, and legal lines stay legal.
-- Assumes nothing.
use mathlib.Core.Path.{◌≡◌, refl, sym, ap, ◌∙◌}
use mathlib.Core.Logic.{◌⊎◌, inl, inr}
use mathlib.Core.Bool.{Bool, true, false, cond, ◌&&◌, ◌||◌, and-false}
use mathlib.Core.List.{List, [], ◌∷◌, ◌++◌}
use Prim.Native.Nat.{ℕ, zero, suc, ◌+◌, ◌*◌, ◌≤◌, ◌<◌}
use native.Mathlib.Omega.{arith}
use lib.Dec.{eqb, ltb}
use lib.ListN.{length, get_or, drop, replicate, length-append, length-drop, length-replicate, get_or-eq_default}
use lib.Seq.{get_or-drop}
use borrow.Author.Tests.{ltb-true, ltb-false, le-ltb, eq-eqb, eqb-true, ne_eqb}
use Rattle.base.specs.declared.config.Config.{Config}
use Rattle.base.specs.Search.{every}
use Rattle.base.proofs.Search.{every_at, all_every}
use Rattle.state.specs.Sound.{line_unused}
use Rattle.state.specs.Views.{home_place, wire_place, home_of, wire_of, on_vc, to_vc}
use Rattle.rules.specs.Intake.{advanced}
use Rattle.rules.proofs.Lines.{places_advance}

-- zeros at the end do not show
zeros_end : (xs : List ℕ) (n m : ℕ) → get_or (xs ++ replicate n 0) m 0 ≡ get_or xs m 0
zeros_end [] zero m = refl
zeros_end [] (suc n) zero = refl
zeros_end [] (suc n) (suc m) = zeros_end [] n m
zeros_end (x ∷ xs) n zero = refl
zeros_end (x ∷ xs) n (suc m) = zeros_end xs n m

-- each place holds what the next younger one held
pub advanced_place : (line : List ℕ) (k i : ℕ) → get_or (advanced line) (8 * k + i) 0 ≡ get_or line (8 * suc k + i) 0
unfolding advanced
advanced_place line k i =
    let e : 8 + (8 * k + i) ≡ 8 * suc k + i = omega arith in
    zeros_end (drop 8 line) 8 (8 * k + i) ∙ get_or-drop 8 line (8 * k + i) 0 ∙ ap (λ (m : ℕ). get_or line m 0) e

pub advanced_length : (line : List ℕ) → length line ≡ 64 → length (advanced line) ≡ 64
unfolding advanced
advanced_length line e =
    let a = length-append (drop 8 line) (replicate 8 0) in
    let b = length-drop 8 line in
    let d = length-replicate {A = ℕ} 8 0 in
    omega arith

-- places not in use are zero, one by one
pub rest_at : (delay ports : ℕ) (line : List ℕ) → line_unused delay ports line ≡ true → length line ≡ 64 → (k i : ℕ) → i < 8
    → (delay ≤ k) ⊎ (ports ≤ i) → get_or line (8 * k + i) 0 ≡ 0
unfolding line_unused
rest_at delay ports line e l k i h out = go (ltb k 8) refl
  where
    unused : (delay ≤ k) ⊎ (ports ≤ i) → (ltb k delay && ltb i ports) ≡ false
    unused (inl g) = ap (λ (b : Bool). b && ltb i ports) (le-ltb k delay g)
    unused (inr g) = ap (λ (b : Bool). ltb k delay && b) (le-ltb i ports g) ∙ and-false (ltb k delay)

    go : (b : Bool) → ltb k 8 ≡ b → get_or line (8 * k + i) 0 ≡ 0
    go true q =
        eqb-true (get_or line (8 * k + i) 0) 0
        (sym (ap (λ (b : Bool). b || eqb (get_or line (8 * k + i) 0) 0) (unused out)) ∙ every_at 8 _ (every_at 8 _ e k (ltb-true k 8 q)) i h)
    go false q = let g = ltb-false k 8 q in get_or-eq_default line 0 {n = 8 * k + i} (omega arith)

pub at_rest : (delay ports : ℕ) (line : List ℕ) → ((k i : ℕ) → k < 8 → i < 8 → (delay ≤ k) ⊎ (ports ≤ i) → get_or line (8 * k + i) 0 ≡ 0)
    → line_unused delay ports line ≡ true
unfolding line_unused
at_rest delay ports line f = all_every 8 _ (λ k h. all_every 8 _ (λ i g. go k i h g (ltb k delay) refl (ltb i ports) refl))
  where
    zero_there : (k i : ℕ) (b : Bool) → get_or line (8 * k + i) 0 ≡ 0 → (b || eqb (get_or line (8 * k + i) 0) 0) ≡ true
    zero_there k i true e = refl
    zero_there k i false e = eq-eqb (get_or line (8 * k + i) 0) 0 e

    go : (k i : ℕ) → k < 8 → i < 8 → (a : Bool) → ltb k delay ≡ a → (b : Bool) → ltb i ports ≡ b
        → (a && b || eqb (get_or line (8 * k + i) 0) 0) ≡ true
    go k i h g false p b q = zero_there k i false (f k i h g (inl (ltb-false k delay p)))
    go k i h g true p false q = zero_there k i false (f k i h g (inr (ltb-false i ports q)))
    go k i h g true p true q = refl

module _ (delay ports : ℕ) (line : List ℕ) (unused : line_unused delay ports line ≡ true) (whole : length line ≡ 64) where
  -- no place that was not in use comes into use
  pub advanced_rest : line_unused delay ports (advanced line) ≡ true
  advanced_rest =
      at_rest delay ports (advanced line) (λ k i h g out.
      advanced_place line k i ∙ rest_at delay ports line unused whole (suc k) i g (later k i out))
    where
      later : (k i : ℕ) → (delay ≤ k) ⊎ (ports ≤ i) → (delay ≤ suc k) ⊎ (ports ≤ i)
      later k i (inl p) = inl (omega arith)
      later k i (inr p) = inr p

  -- the newest place is empty
  pub advanced_newest : (k i : ℕ) → i < 8 → suc k ≡ delay → get_or (advanced line) (8 * k + i) 0 ≡ 0
  advanced_newest k i h e = advanced_place line k i ∙ rest_at delay ports line unused whole (suc k) i h (inl (omega arith))

  -- a test that all places in use pass, and an empty one too, is passed a cycle later
  pub advanced_legal : (legal : ℕ → Bool) → legal 0 ≡ true → ports ≤ 8
      → every delay (λ (k : ℕ). every ports (λ (i : ℕ). legal (get_or line (8 * k + i) 0))) ≡ true
      → every delay (λ (k : ℕ). every ports (λ (i : ℕ). legal (get_or (advanced line) (8 * k + i) 0))) ≡ true
  advanced_legal legal none few e =
      all_every delay _ (λ k h. all_every ports _ (λ i g. go k i g (ltb (suc k) delay) refl))
    where
      go : (k i : ℕ) → i < ports → (b : Bool) → ltb (suc k) delay ≡ b → legal (get_or (advanced line) (8 * k + i) 0) ≡ true
      go k i g true q =
          ap legal (advanced_place line k i) ∙ every_at ports _ (every_at delay _ e (suc k) (ltb-true (suc k) delay q)) i g
      go k i g false q =
          ap legal (advanced_place line k i ∙ rest_at delay ports line unused whole (suc k) i (omega arith)
          (inl (ltb-false (suc k) delay q))) ∙ none

module _ (c : Config) (i v : ℕ) (there : i < 8) where
  -- the home line of a channel a cycle later
  pub home_advanced : (home : List ℕ) → 1 ≤ c.back → line_unused c.back c.ports home ≡ true → length home ≡ 64
      → home_of c (advanced home) i v ≡ drop 1 (home_of c home i v) ++ (0 ∷ [])
  unfolding home_of
  home_advanced home pos unused whole =
      places_advance c.back (λ (k : ℕ). to_vc v (home_place home k i)) (λ (k : ℕ). to_vc v (home_place (advanced home) k i)) 0 pos
      (λ k h. ap (to_vc v) (advanced_place home k i))
      (λ k e. ap (to_vc v) (advanced_newest c.back c.ports home unused whole k i there e)
      ∙ ap (λ (b : Bool). cond b 1 0) (ne_eqb 0 (v + 1) (λ q. omega arith)))

  -- the wire of a channel a cycle later
  pub wire_advanced : (wire : List ℕ) → 1 ≤ c.forward → line_unused c.forward c.ports wire ≡ true → length wire ≡ 64
      → wire_of c (advanced wire) i v ≡ drop 1 (wire_of c wire i v) ++ ([] ∷ [])
  unfolding wire_of
  wire_advanced wire pos unused whole =
      places_advance c.forward (λ (k : ℕ). on_vc v (wire_place wire k i)) (λ (k : ℕ). on_vc v (wire_place (advanced wire) k i)) [] pos
      (λ k h. ap (on_vc v) (advanced_place wire k i))
      (λ k e. ap (on_vc v) (advanced_newest c.forward c.ports wire unused whole k i there e))
