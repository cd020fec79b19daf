-- A row whose bytes are all 0, and one with a byte that is not.
-- Assumes nothing.
use Rattle.std.proofs.Common.{◌≡◌, sym, true, false, List, ℕ, ◌<◌}
use lib.Dec.{eqb}
use borrow.Author.Tests.{eq-eqb, ne_eqb}
use Rattle.base.proofs.Search.{all_every, not_every}
use Rattle.rules.specs.Rows.{row_byte, row_zero}

module _ (part : List ℕ) (i : ℕ) where
  pub row_empty : ((k : ℕ) → k < 8 → row_byte part i k ≡ 0) → true ≡ row_zero part i
  unfolding row_zero
  row_empty h = sym (all_every 8 (λ (k : ℕ). eqb (row_byte part i k) 0) (λ k l. eq-eqb _ 0 (h k l)))

  pub row_filled : (k : ℕ) → k < 8 → (row_byte part i k ≡ 0 → ⊥) → false ≡ row_zero part i
  unfolding row_zero
  row_filled k l n = sym (not_every 8 (λ (k : ℕ). eqb (row_byte part i k) 0) k l (ne_eqb _ 0 n))
