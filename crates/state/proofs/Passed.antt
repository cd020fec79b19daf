-- A test that every number below n passes, as a loop has found it.
-- Assumes nothing.
use Rattle.std.proofs.Common.{◌≡◌, sym, ◌<◌, ℕ, Bool, true}
use Rattle.base.specs.Search.{every}
use Rattle.base.proofs.Search.{all_every}

-- all have passed
pub passed : (n : ℕ) (test : ℕ → Bool) → ((k : ℕ) → k < n → test k ≡ true) → true ≡ every n test
passed n test f = sym (all_every n test f)
