-- Who is ready: a channel past the array has no credit.
-- Assumes nothing.
use Rattle.std.proofs.Common.{◌≡◌, false, not, List, ℕ, ◌≤◌, eqb, length, get_or}
use lib.ListN.{get_or-eq_default}
use Rattle.state.specs.declared.OutputVc.{OutputVc}
use Rattle.state.specs.Fresh.{fresh_output}

pub no_credit_past : (outputs : List OutputVc) (y : ℕ) → length outputs ≤ y → not (eqb (get_or outputs y (fresh_output 0)).credit 0) ≡ false
no_credit_past outputs y far = rw (get_or-eq_default outputs (fresh_output 0) far)
