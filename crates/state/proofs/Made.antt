-- The fresh router, put together from its parts.
-- Assumes nothing.
use Rattle.arbiter.specs.declared.Arbiter.{Arbiter}
use mathlib.Core.Path.{◌≡◌, refl}
use mathlib.Core.List.{List}
use Prim.Native.Nat.{ℕ, ◌*◌, ◌≤◌}
use native.Mathlib.Nat.{le_trans, mul-le-mul_right}
use native.Mathlib.Omega.{arith}
use Rattle.std.specs.Prelude.{Option, Some, None}
use Rattle.base.specs.Sizes.{illegal_field, judged}
use Rattle.base.specs.declared.config.Config.{Config}
use Rattle.state.specs.declared.InputVc.{InputVc}
use Rattle.state.specs.declared.OutputVc.{OutputVc}
use Rattle.state.specs.Fresh.{filled, fresh_input, fresh_output, fresh_arbiters, fresh_router, built_of}
use Rattle.state.specs.Setters.{with_inputs, with_outputs, with_arbiters, with_vc_arbiters, with_input_arbiters, with_output_arbiters}

-- "Ports P 1..8. VCs per port V 1..4.": at most 32 channels
pub channels_fit : (p v : ℕ) → p ≤ 8 → v ≤ 4 → p * v ≤ 32
channels_fit p v h g = le_trans (mul-le-mul_right v h) (omega arith)

pub router_made : (c : Config) (inputs : List InputVc) (outputs : List OutputVc) (vcs : List (Arbiter 32)) (ins outs : List (Arbiter 8))
    → inputs ≡ filled (c.ports * c.vcs) 32 (fresh_input c.depth) (fresh_input 0)
    → outputs ≡ filled (c.ports * c.vcs) 32 (fresh_output c.downstream) (fresh_output 0)
    → vcs ≡ (fresh_arbiters c).vcs
    → ins ≡ (fresh_arbiters c).inputs
    → outs ≡ (fresh_arbiters c).outputs
    → with_arbiters (with_vc_arbiters vcs (with_input_arbiters ins (with_output_arbiters outs (fresh_arbiters c))))
    (with_outputs outputs (with_inputs inputs (fresh_router c)))
    ≡ fresh_router c
unfolding fresh_router
router_made c inputs outputs vcs ins outs e f g h k =
    λ t.
    with_arbiters (with_vc_arbiters (g t) (with_input_arbiters (h t) (with_output_arbiters (k t) (fresh_arbiters c))))
    (with_outputs (f t) (with_inputs (e t) (fresh_router c)))

-- either way its answer stands for the number and the field of the table
pub built_numbered : (c : Config) → (built_of (illegal_field c) c).judged ≡ judged (illegal_field c)
unfolding built_of
built_numbered c = go (illegal_field c)
  where
    go : (o : Option ℕ) → (built_of o c).judged ≡ judged o
    go None = refl
    go (Some k) = refl
