-- The cycles' numbers: "up to t−n" leaves out the newest n entries, and "after t−n" is those.
-- Assumes nothing.
use mathlib.Core.Path.{◌≡◌, refl, ap, subst}
use mathlib.Core.List.{[], ◌∷◌}
use Prim.Native.Nat.{ℕ, zero, suc, ◌+◌, ◌≤◌}
use native.Mathlib.Nat.{zero-add}
use native.Mathlib.Omega.{arith}
use lib.ListN.{take, drop}
use Rattle.model.specs.History.{History, Numbered, up_to, after}
use Rattle.model.proofs.Lists.{leb_yes, leb_no}

module _ {Flit : Type 0} where
  -- of the first n cycles nothing is after t−j, and all are up to it, where n + j is at most t + 1
  after_none : (t j n : ℕ) (h : History Flit) → Numbered n h → n + j ≤ suc t → after t j h ≡ []
  after_none t j n [] q l = refl
  after_none t j n (e ∷ h) q l = rw (leb_no (suc t) (e.cycle + j) (omega arith)) (after_none t j e.cycle h q.1 (omega arith))

  up_to_all : (t j n : ℕ) (h : History Flit) → Numbered n h → n + j ≤ suc t → up_to t j h ≡ h
  up_to_all t j n [] q l = refl
  up_to_all t j n (e ∷ h) q l = rw (leb_yes (e.cycle + j) t (omega arith))
      (ap (λ (r : History Flit). e ∷ r) (up_to_all t j e.cycle h q.1 (omega arith)))

  -- the same with the newest k entries left out
  after_take : (t j k n : ℕ) (h : History Flit) → Numbered n h → n + j ≡ suc t → after t (j + k) h ≡ take k h
  after_take t j zero n h q l = after_none t (j + 0) n h q (omega arith)
  after_take t j (suc k) n [] q l = refl
  after_take t j (suc k) n (e ∷ h) q l =
      let shift : suc j + k ≡ j + suc k = omega arith in
      let rest : after t (j + suc k) h ≡ take k h =
      subst (λ (m : ℕ). after t m h ≡ take k h) shift (after_take t (suc j) k e.cycle h q.1 (omega arith)) in
      rw (leb_yes (suc t) (e.cycle + (j + suc k)) (omega arith)) (ap (λ (r : History Flit). e ∷ r) rest)

  up_to_drop : (t j k n : ℕ) (h : History Flit) → Numbered n h → n + j ≡ suc t → up_to t (j + k) h ≡ drop k h
  up_to_drop t j zero n h q l = up_to_all t (j + 0) n h q (omega arith)
  up_to_drop t j (suc k) n [] q l = refl
  up_to_drop t j (suc k) n (e ∷ h) q l =
      let shift : suc j + k ≡ j + suc k = omega arith in
      let rest : up_to t (j + suc k) h ≡ drop k h =
      subst (λ (m : ℕ). up_to t m h ≡ drop k h) shift (up_to_drop t (suc j) k e.cycle h q.1 (omega arith)) in
      rw (leb_no (e.cycle + (j + suc k)) t (omega arith)) rest

  -- After cycle t, "after t−k" is the newest k entries, and "up to t−k" the others.
  pub after_newest : (t k : ℕ) (h : History Flit) → Numbered (suc t) h → after t k h ≡ take k h
  after_newest t k h q = rw (zero-add k) at (after_take t 0 k (suc t) h q (omega arith))

  pub up_to_older : (t k : ℕ) (h : History Flit) → Numbered (suc t) h → up_to t k h ≡ drop k h
  up_to_older t k h q = rw (zero-add k) at (up_to_drop t 0 k (suc t) h q (omega arith))
