-- The first port that a test finds.
-- Assumes nothing.
use Rattle.std.proofs.Common.{◌≡◌, sym, ℕ, ◌<◌, Bool, true, false, arith}
use Rattle.std.specs.Prelude.{Some, None}
use Rattle.base.specs.Search.{first_from}
use Rattle.base.proofs.Search.{first_at, first_found, first_none}

module _ (test : ℕ → Bool) (n : ℕ) where
  -- the port that it finds
  pub port_found : (i : ℕ) → i < n → ((j : ℕ) → j < i → test j ≡ false) → test i ≡ true → Some i ≡ first_from test n 0
  port_found i h before e =
      sym (first_at test n 0 i (record { from = omega arith; below = omega arith; passes = e; before = λ j _ l. before j l }))

  -- it finds none
  pub no_port_found : ((j : ℕ) → j < n → test j ≡ false) → None ≡ first_from test n 0
  no_port_found all = sym (first_none test n 0 (λ j _ l. all j (omega arith)))

  -- it is one of them
  pub port_below : (i : ℕ) → Some i ≡ first_from test n 0 → i < n
  port_below i e = let f = first_found test n 0 i (sym e) in let l = f.below in omega arith
