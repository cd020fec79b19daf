-- One cycle: what comes from outside, and what is free to choose.
-- Assumes nothing.
use Rattle.std.specs.Prelude.{Bool, ℕ}
use Rattle.std.specs.Prelude.{Option}
use Rattle.model.specs.Router.{OutVc}

-- a flit and the VC that it is offered on
pub record Brought (Flit : Type 0) : Type 0 where
  pub vc : ℕ
  pub flit : Flit

-- "Cycles: .. 8 [bytes] per port: kind (0 no offer), VC, destination, credit (0 none, else 1 + output VC), payload" (01, Blocks):
-- at most one offer at each input and at most one credit from downstream at each output.
pub record Event (Flit : Type 0) : Type 0 where
  pub offer : ℕ → Option (Brought Flit)  -- by input
  pub credit : ℕ → Option ℕ  -- by output: the VC whose credit comes back

-- What the arbiters would pick, as a free choice. An input VC that is not named does nothing.
pub record Choice : Type 0 where
  pub grant : ℕ → ℕ → Option OutVc  -- by input and VC: the output VC that it is bound to in this cycle (01, phase 5)
  pub leaves : ℕ → ℕ → Bool  -- by input and VC: whether its front flit leaves in this cycle (01, phases 6 and 7)
