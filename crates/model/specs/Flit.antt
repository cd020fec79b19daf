-- What the router looks at in a flit.
-- Assumes nothing.
use Rattle.std.specs.Prelude.{Bool, ℕ}

-- "A flit has a kind (1 head H, 2 body B, 3 tail T, 4 single S), a destination port and a 32-bit payload." (01, Sizes)
-- The model asks a flit these three questions and no other, so a flit may gain fields and kinds.
pub record Look (Flit : Type 0) : Type 0 where
  pub starts : Flit → Bool  -- H or S: a packet starts with it
  pub ends : Flit → Bool  -- T or S: a packet ends with it
  pub port : Flit → ℕ  -- the output port that it names; asked only of a flit that starts
