-- "Sizes" (01): the configuration.
-- Assumes nothing.
use Rattle.std.specs.Prelude.{ℕ, ◌≤◌}

-- "Ports P 1..8. VCs per port V 1..4. Input depth D 1..16 flits per VC. Downstream depth E 1..16 per output VC. Forward delay F 1..8,
-- credit delay B 1..8 cycles."
-- The arbiter code has no place here: any choice is free.
pub record Config : Type 0 where
  pub ports : ℕ  -- P
  pub vcs : ℕ  -- V
  pub depth : ℕ  -- D
  pub downstream : ℕ  -- E
  pub forward : ℕ  -- F
  pub back : ℕ  -- B

-- Of these ranges demand 3 uses only that no delay is zero.
pub record Delayed (c : Config) : Type 0 where
  pub on_the_way : 1 ≤ c.forward
  pub on_the_way_home : 1 ≤ c.back
