-- A loop over the ports in which a port names a VC, or none, as a number (0 none, else 1 + VC), and that VC's place changes by g.
-- Assumes nothing.
use Rattle.std.proofs.Common.{Bool, true, false, ◌≡◌, refl, sym, ap, ◌∙◌, List, length, get_or, set, ℕ, ◌+◌, ◌-◌, ◌≤◌}
use Rattle.std.specs.Prelude.{Option, Some, None}
use lib.Dec.{eqb, leb}
use lib.Seq.{set_out, get_or-set_same, get_or-set_other}
use borrow.Author.Tests.{eqb-true, eqb-false, leb-true, leb-false}
use Rattle.base.specs.declared.config.Config.{Config}
use Rattle.state.specs.Views.{channel_number}
use Rattle.rules.specs.Ports.{over_ports, named}
use Rattle.rules.proofs.Folds.{over_again}
use Rattle.rules.proofs.Named.{named_some}

-- what holds of each place and of what is written holds of each place after the write
pub set_keeps : {A : Type 0} (P : A → Type 0) (xs : List A) (k : ℕ) (a d : A) → P a → (x : ℕ) → P (get_or xs x d)
    → P (get_or (set xs k a) x d)
set_keeps P xs k a d here x there = go (eqb x k) refl (leb (length xs) k) refl
  where
    go : (b : Bool) → eqb x k ≡ b → (e : Bool) → leb (length xs) k ≡ e → P (get_or (set xs k a) x d)
    go false e _ _ = rw (get_or-set_other xs k x a d (eqb-false x k e)) there
    go true e true h = rw (set_out xs k a (leb-true (length xs) k h)) there
    go true e false h = rw (eqb-true x k e, get_or-set_same xs k a d (leb-false (length xs) k h)) here

-- what happens at port i, where `names i` is its number
module _ {A : Type 0} (d : A) (g : A → A) (c : Config) (names : ℕ → ℕ) (step : ℕ → Option ℕ → List A → List A)
    (skips : (i : ℕ) (xs : List A) → step i None xs ≡ xs)
    (acts : (i v : ℕ) (xs : List A) → step i (Some v) xs ≡ set xs (channel_number c i v) (g (get_or xs (channel_number c i v) d))) where
  abbrev pub turn : List A → ℕ → List A
  turn xs i = step i (named (names i)) xs

  module _ (s xs : List A) (i : ℕ) (so : xs ≡ over_ports i turn s) where
    -- no VC is named
    pub turn_none : names i ≡ 0 → xs ≡ over_ports (i + 1) turn s
    turn_none e = over_again i turn s xs xs so (sym (ap (λ p. step i (named p) xs) e ∙ skips i xs))

    module _ (p x : ℕ) (is : p ≡ names i) (some : p ≡ 0 → ⊥) (number : x ≡ channel_number c i (p - 1)) where
      -- a VC that there is
      pub turn_some : (a : A) → a ≡ g (get_or xs x d) → set xs x a ≡ over_ports (i + 1) turn s
      turn_some a e =
          over_again i turn s xs (set xs x a) so
          (ap (set xs x) e ∙ ap (λ y. set xs y (g (get_or xs y d))) number ∙ sym (acts i (p - 1) xs)
          ∙ ap (λ o. step i o xs) (sym (named_some p some)) ∙ ap (λ q. step i (named q) xs) is)

      -- one that there is not
      pub turn_out : length xs ≤ x → xs ≡ over_ports (i + 1) turn s
      turn_out l = sym (set_out xs x (g (get_or xs x d)) l) ∙ turn_some (g (get_or xs x d)) refl
