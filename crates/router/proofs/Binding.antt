-- Phase 5: what is bound, turn by turn.
-- Assumes nothing.
use Rattle.std.proofs.Common.{◌≡◌, refl, ◌∙◌, sym, ap, List, ℕ, zero, suc, ◌+◌, ◌/◌, ◌%◌, ◌≤◌, Option, Some, None, option_map, get_or}
use Rattle.std.proofs.Common.{length, set}
use lib.ListN.{length-set}
use lib.Seq.{set_out}
use Rattle.base.specs.declared.config.Config.{Config}
use Rattle.state.specs.declared.InputVc.{InputVc}
use Rattle.state.specs.declared.OutputVc.{OutputVc}
use Rattle.state.specs.Fresh.{fresh_input}
use Rattle.state.specs.Views.{channel_number, output_at}
use Rattle.rules.specs.Ports.{over_ports}
use Rattle.rules.specs.Allocation.{Grant, Vcs, bind_to, held_by, bound_by, bindings}
use Rattle.rules.proofs.Folds.{over_none, over_again}
use Rattle.router.specs.declared.allocation.Granted.{Granted}
use Rattle.router.specs.Grants.{grant_in, grant_at, input_bound, output_held, inputs_bound, outputs_held}

-- what happens at output o to the input VCs and to the output VCs
abbrev pub input_turn : List (Option Granted) → List InputVc → ℕ → List InputVc
input_turn made inputs o = input_bound o (grant_at made o) inputs

abbrev pub output_turn : Config → List (Option Granted) → List OutputVc → ℕ → List OutputVc
output_turn c made outputs o = output_held c o (grant_at made o) outputs

-- the outputs below o are done
pub record InputsBound (made : List (Option Granted)) (before inputs : List InputVc) (o : ℕ) : Type 0 where
  pub long : length inputs ≡ 32
  pub so_far : inputs ≡ over_ports o (input_turn made) before

pub record OutputsHeld (c : Config) (made : List (Option Granted)) (before outputs : List OutputVc) (o : ℕ) : Type 0 where
  pub long : length outputs ≡ 32
  pub so_far : outputs ≡ over_ports o (output_turn c made) before

pub inputs_none : (made : List (Option Granted)) (before : List InputVc) → length before ≡ 32 → InputsBound made before before 0
inputs_none made before e = record { long = e; so_far = over_none (input_turn made) before }

pub outputs_none : (c : Config) (made : List (Option Granted)) (before : List OutputVc) → length before ≡ 32
    → OutputsHeld c made before before 0
outputs_none c made before e = record { long = e; so_far = over_none (output_turn c made) before }

module _ (made : List (Option Granted)) (before inputs : List InputVc) (o : ℕ) (s : InputsBound made before inputs o) where
  turned : (next : List InputVc) → length next ≡ 32 → next ≡ input_turn made inputs o → InputsBound made before next (o + 1)
  turned next l e = record { long = l; so_far = over_again o (input_turn made) before inputs next s.so_far e }

  -- nothing is granted
  pub inputs_skip : ((g : Granted) → get_or made o None ≡ Some g → ⊥) → InputsBound made before inputs (o + 1)
  inputs_skip none = turned inputs s.long (skip (get_or made o None) none)
    where
      skip : (given : Option Granted) → ((g : Granted) → given ≡ Some g → ⊥) → inputs ≡ input_bound o (option_map grant_in given) inputs
      skip None none = refl
      skip (Some g) none = absurd (none g refl)

  module _ (g : Granted) (e : get_or made o None ≡ Some g) where
    -- a requester is bound
    pub inputs_more : InputsBound made before (set inputs g.requester (bind_to o g.vc (get_or inputs g.requester (fresh_input 0)))) (o + 1)
    inputs_more =
        turned (set inputs g.requester (bind_to o g.vc (get_or inputs g.requester (fresh_input 0))))
        (length-set inputs g.requester (bind_to o g.vc (get_or inputs g.requester (fresh_input 0))) ∙ s.long) (rw e)

    -- a requester that there is not changes nothing
    pub inputs_past : 32 ≤ g.requester → InputsBound made before inputs (o + 1)
    inputs_past far =
        turned inputs s.long
        (rw e (sym (set_out inputs g.requester (bind_to o g.vc (get_or inputs g.requester (fresh_input 0))) (rw s.long far))))

module _ (c : Config) (made : List (Option Granted)) (before outputs : List OutputVc) (o : ℕ)
    (s : OutputsHeld c made before outputs o) where
  turned_out : (next : List OutputVc) → length next ≡ 32 → next ≡ output_turn c made outputs o → OutputsHeld c made before next (o + 1)
  turned_out next l e = record { long = l; so_far = over_again o (output_turn c made) before outputs next s.so_far e }

  pub outputs_skip : ((g : Granted) → get_or made o None ≡ Some g → ⊥) → OutputsHeld c made before outputs (o + 1)
  outputs_skip none = turned_out outputs s.long (skip (get_or made o None) none)
    where
      skip : (given : Option Granted) → ((g : Granted) → given ≡ Some g → ⊥) → outputs ≡ output_held c o (option_map grant_in given) outputs
      skip None none = refl
      skip (Some g) none = absurd (none g refl)

  module _ (g : Granted) (e : get_or made o None ≡ Some g) where
    abbrev taken : OutputVc
    taken = held_by (g.requester / c.vcs) (g.requester % c.vcs) (output_at c outputs o g.vc)

    pub outputs_more : OutputsHeld c made before (set outputs (channel_number c o g.vc) taken) (o + 1)
    outputs_more =
        turned_out (set outputs (channel_number c o g.vc) taken) (length-set outputs (channel_number c o g.vc) taken ∙ s.long) (rw e)

    pub outputs_past : 32 ≤ channel_number c o g.vc → OutputsHeld c made before outputs (o + 1)
    outputs_past far = turned_out outputs s.long (rw e (sym (set_out outputs (channel_number c o g.vc) taken (rw s.long far))))

-- the two lists are bound apart
both_bound : (c : Config) (o : ℕ) (g : Option Grant) (n : Vcs)
    → ◌≡◌ {A = Vcs} (record { inputs = input_bound o g n.inputs; outputs = output_held c o g n.outputs }) (bound_by c o g n)
both_bound c o None n = refl
both_bound c o (Some g) n = refl

so_far_apart : (c : Config) (grant : ℕ → Option Grant) (n : Vcs) (k : ℕ)
    → ◌≡◌ {A = Vcs}
    (record {
      inputs = over_ports k (λ inputs o. input_bound o (grant o) inputs) n.inputs;
      outputs = over_ports k (λ outputs o. output_held c o (grant o) outputs) n.outputs;
    })
    (over_ports k (λ n o. bound_by c o (grant o) n) n)
unfolding over_ports
so_far_apart c grant n zero = refl
so_far_apart c grant n (suc k) =
    ap (λ (m : Vcs). apart m) (so_far_apart c grant n k) ∙ both_bound c k (grant k) (over_ports k (λ n o. bound_by c o (grant o) n) n)
  where
    apart : Vcs → Vcs
    apart m = record { inputs = input_bound k (grant k) m.inputs; outputs = output_held c k (grant k) m.outputs }

pub bindings_apart : (c : Config) (grant : ℕ → Option Grant) (n : Vcs)
    → ◌≡◌ {A = Vcs} (record { inputs = inputs_bound c grant n.inputs; outputs = outputs_held c grant n.outputs }) (bindings c grant n)
unfolding bindings inputs_bound outputs_held
bindings_apart c grant n = so_far_apart c grant n c.ports
