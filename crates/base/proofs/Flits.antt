-- A flit's word gives its three parts back.
-- Assumes nothing.
use mathlib.Core.Path.{◌≡◌}
use Prim.Native.Nat.{ℕ, ◌^◌, ◌<◌}
use native.Mathlib.Omega.{arith}
use Rattle.base.specs.Flit.{flit_of, kind_of, destination_of, payload_of}

module _ (kind destination payload : ℕ) (k : kind < 8) (d : destination < 8) (p : payload < 2 ^ 32) where
  pub kind_back : kind_of (flit_of kind destination payload) ≡ kind
  unfolding flit_of kind_of
  kind_back = omega arith

  pub destination_back : destination_of (flit_of kind destination payload) ≡ destination
  unfolding flit_of destination_of
  destination_back = omega arith

  pub payload_back : payload_of (flit_of kind destination payload) ≡ payload
  unfolding flit_of payload_of
  payload_back = omega arith
