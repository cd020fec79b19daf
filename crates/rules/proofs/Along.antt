-- What holds along the ports' turns, and what becomes of a part that one turn alone changes.
-- Assumes nothing.
use mathlib.Core.Path.{◌≡◌, refl, sym, ap, ◌∙◌}
use mathlib.Core.Logic.{◌≢◌}
use mathlib.Core.Bool.{Bool, true, false}
use Prim.Native.Nat.{ℕ, zero, suc, ◌<◌}
use native.Mathlib.Nat.{le_refl}
use native.Mathlib.Omega.{arith}
use lib.Arith.{lt_of_le-ne}
use lib.Dec.{eqb}
use borrow.Author.Tests.{eqb-true, eqb-false}
use Rattle.rules.specs.Ports.{over_ports}
use Rattle.rules.proofs.Folds.{over_keeps}
use Rattle.rules.proofs.Turns.{over_stays}

module _ {A : Type 0} where
  -- what holds before the turns, and after each of them
  pub over_along : (Holds : ℕ → A → Type 0) (n : ℕ) (f : A → ℕ → A) (s : A)
      → ((t : A) (i : ℕ) → i < n → Holds i t → Holds (suc i) (f t i)) → Holds 0 s → Holds n (over_ports n f s)
  unfolding over_ports
  over_along Holds zero f s turn h = h
  over_along Holds (suc n) f s turn h =
      turn (over_ports n f s) n (le_refl (suc n)) (over_along Holds n f s (λ t i l k. turn t i (omega arith) k) h)

  -- turns that do the same where that holds give the same
  pub over_alike : (Holds : ℕ → A → Type 0) (n : ℕ) (f g : A → ℕ → A) (s : A) → ((t : A) (i : ℕ) → i < n → Holds i t → f t i ≡ g t i)
      → ((t : A) (i : ℕ) → i < n → Holds i t → Holds (suc i) (g t i)) → Holds 0 s → over_ports n f s ≡ over_ports n g s
  unfolding over_ports
  over_alike Holds zero f g s same turn h = refl
  over_alike Holds (suc n) f g s same turn h =
      ap (λ (t : A). f t n) (over_alike Holds n f g s (λ t i l. same t i (omega arith)) (λ t i l. turn t i (omega arith)) h)
      ∙ same (over_ports n g s) n (le_refl (suc n)) (over_along Holds n g s (λ t i l. turn t i (omega arith)) h)

  -- what turn i alone changes, where `Keeps` holds: `before` is seen of it up to that turn, `after` from then on
  module _ (Keeps : A → Type 0) (f : A → ℕ → A) where
    pub over_becomes : {B C : Type 0} (before : A → B) (after : A → C) (change : B → C) (n : ℕ) (s : A) (i : ℕ) → i < n
        → ((t : A) (j : ℕ) → j < n → Keeps t → Keeps (f t j))
        → ((t : A) (j : ℕ) → j < n → j ≢ i → Keeps t → before (f t j) ≡ before t)
        → ((t : A) → Keeps t → after (f t i) ≡ change (before t))
        → ((t : A) (j : ℕ) → j < n → j ≢ i → Keeps t → after (f t j) ≡ after t) → Keeps s → after (over_ports n f s) ≡ change (before s)
    unfolding over_ports
    over_becomes before after change zero s i l keeps b own a h = absurd (omega arith)
    over_becomes {B} {C} before after change (suc n) s i l keeps b own a h =
        go (eqb n i) refl
        (λ k. over_becomes before after change n s i k (λ t j m. keeps t j (omega arith)) (λ t j m. b t j (omega arith)) own
        (λ t j m. a t j (omega arith)) h)
      where
        kept : Keeps (over_ports n f s)
        kept = over_keeps Keeps n f s (λ t j m k. keeps t j (omega arith) k) h

        go : (e : Bool) → eqb n i ≡ e → (i < n → after (over_ports n f s) ≡ change (before s)) → after (f (over_ports n f s) n)
            ≡ change (before s)
        go true e rest =
            let q = eqb-true n i e in
            ap (λ (j : ℕ). after (f (over_ports n f s) j)) q ∙ own (over_ports n f s) kept
            ∙ ap change (over_stays Keeps before n f s (λ t j m. keeps t j (omega arith)) h
            (λ t j m. b t j (omega arith) (λ r. absurd (omega arith))))
        go false e rest =
            a (over_ports n f s) n (le_refl (suc n)) (eqb-false n i e) kept ∙ rest (lt_of_le-ne (omega arith) (λ r. eqb-false n i e (sym r)))
