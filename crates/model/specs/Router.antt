-- The router: its channels, its bindings, its output credits.
-- Assumes nothing.
use Rattle.std.specs.Prelude.{Bool, false, ℕ}
use Rattle.std.specs.Prelude.{Option, None}
use Rattle.model.specs.Sizes.{Config}
use Rattle.model.specs.Channel.{Channel, fresh_channel}

-- one VC of one output
pub record OutVc : Type 0 where
  pub output : ℕ
  pub vc : ℕ

-- one VC of one input
pub record InVc : Type 0 where
  pub input : ℕ
  pub vc : ℕ

pub record Router (Flit : Type 0) : Type 0 where
  pub cycle : ℕ  -- "the cycle count": cycles accepted so far, which is the number of the next
  pub channel : ℕ → ℕ → Channel Flit  -- by input and VC
  pub opened : ℕ → ℕ → Bool  -- whether the sender of that input VC has a packet open
  pub bound : ℕ → ℕ → Option OutVc  -- "An input VC is either unbound or bound to one output and one of its VCs." (01, phase 5)
  pub out_credit : ℕ → ℕ → ℕ  -- by output and VC

-- "each sender credit is D, each output credit E, the cycle count 0, no packet open, nothing bound or on its way" (01, Sizes)
abbrev pub fresh : {Flit : Type 0} → Config → Router Flit
fresh c =
    record { cycle = 0; channel = λ i v. fresh_channel c; opened = λ i v. false; bound = λ i v. None; out_credit = λ o w. c.downstream }
