-- "0 none, else 1 + VC" (01): the VC that a number names, and the credit that it raises.
-- Assumes nothing.
use mathlib.Core.Path.{◌≡◌, refl, sym, ap, ◌∙◌}
use mathlib.Core.Bool.{Bool, true, false, cond}
use Rattle.std.specs.Prelude.{Some}
use Rattle.std.proofs.lemmas.Option.{same_Some, none-some}
use Prim.Native.Nat.{ℕ, zero, suc, ◌+◌, ◌-◌, ◌≤◌, ◌<◌}
use native.Mathlib.Nat.{add-zero}
use native.Mathlib.Omega.{arith}
use lib.Dec.{eqb}
use borrow.Author.Tests.{eqb-true, eqb-false, eq-eqb, ne_eqb}
use Rattle.state.specs.Views.{to_vc}
use Rattle.rules.specs.Ports.{named}
use Rattle.rules.proofs.Folds.{changed_at}

-- a number that is not 0 names the VC below it
pub named_some : (p : ℕ) → (p ≡ 0 → ⊥) → named p ≡ Some (p - 1)
named_some zero n = absurd (n refl)
named_some (suc p) n = let e : suc p - 1 ≡ p = omega arith in rw e

-- a number of at most V names a VC that there is
pub named_there : (place n v : ℕ) → place ≤ n → named place ≡ Some v → v < n
named_there zero n v h e = absurd (none-some v e)
named_there (suc u) n v h e = let q = same_Some u v e in omega arith

-- of all VCs, the named one gets one more
pub named_raises : {A : Type 0} (credit : A → ℕ) (paid : A → A) → ((x : A) → credit (paid x) ≡ credit x + 1) → (v place : ℕ) (x : A)
    → credit (changed_at v paid (named place) x) ≡ credit x + to_vc v place
named_raises credit paid more v zero x =
    sym (add-zero (credit x)) ∙ ap (λ (b : Bool). credit x + cond b 1 0) (sym (ne_eqb 0 (v + 1) (λ q. omega arith)))
named_raises {A} credit paid more v (suc u) x = at (eqb u v) refl
  where
    at : (b : Bool) → eqb u v ≡ b → credit (cond b (paid x) x) ≡ credit x + to_vc v (suc u)
    at true e =
        let q = eqb-true u v e in
        more x ∙ ap (λ (b : Bool). credit x + cond b 1 0) (sym (eq-eqb (suc u) (v + 1) (omega arith)))
    at false e =
        let q = eqb-false u v e in
        sym (add-zero (credit x)) ∙ ap (λ (b : Bool). credit x + cond b 1 0) (sym (ne_eqb (suc u) (v + 1) (λ r. q (omega arith))))
