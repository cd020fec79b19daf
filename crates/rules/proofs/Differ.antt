-- A right and a wrong version of one thing, by value.
-- Assumes nothing.
use mathlib.Core.Path.{◌≡◌}

-- the right one is this, the wrong one that, and the two are not the same
pub record Differ {A : Type 0} (right wrong this that : A) : Type 0 where
  pub right_is : right ≡ this
  pub wrong_is : wrong ≡ that
  pub apart : this ≡ that → ⊥
