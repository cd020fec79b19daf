-- The first number that passes a test, whether all of them do, and whether some does.
-- Assumes nothing.
use Rattle.std.specs.Prelude.{Bool, true, false, cond, ◌&&◌, ◌||◌, ℕ, zero, suc}
use Rattle.std.specs.Prelude.{Option, Some, None}

-- the first of the k numbers from i on that passes the test
unfoldable pub first_from : (ℕ → Bool) → ℕ → ℕ → Option ℕ
first_from test zero i = None
first_from test (suc k) i = cond (test i) (Some i) (first_from test k (suc i))

-- all numbers below n pass the test
unfoldable pub every : ℕ → (ℕ → Bool) → Bool
every zero test = true
every (suc n) test = every n test && test n

-- some number below n passes the test
unfoldable pub any : ℕ → (ℕ → Bool) → Bool
any zero test = false
any (suc n) test = any n test || test n

-- a, or where there is none b
unfoldable pub or_else : Option ℕ → Option ℕ → Option ℕ
or_else (Some x) b = Some x
or_else None b = b
