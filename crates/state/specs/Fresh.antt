-- A fresh router (01, "Sizes").
-- Assumes nothing.
use Rattle.arbiter.specs.declared.Arbiter.{Arbiter}
use Rattle.std.specs.Prelude.{false, List, [], ◌++◌, ℕ, ◌-◌, ◌*◌, replicate}
use Rattle.std.specs.Prelude.{Option, Some, None}
use Rattle.base.specs.declared.config.Config.{Config}
use Rattle.base.specs.Sizes.{no_config, judged}
use Rattle.arbiter.specs.Arbiter.{arbiter_of}
use Rattle.arbiter.specs.Arbiter as arbiter
use Rattle.state.specs.declared.Binding.TheVariants.{Unbound}
use Rattle.state.specs.declared.InputVc.{InputVc}
use Rattle.state.specs.declared.OutputVc.{OutputVc}
use Rattle.state.specs.declared.Arbiters.{Arbiters}
use Rattle.state.specs.declared.Router.{Router}
use Rattle.state.specs.declared.building.Built.{Built}

-- n places with x, the others up to `size` with z
abbrev pub filled : {A : Type 0} → ℕ → ℕ → A → A → List A
filled n size x z = replicate n x ++ replicate (size - n) z

-- an input VC with nothing bound, no packet open and nothing queued
abbrev pub fresh_input : ℕ → InputVc
fresh_input credit = record { binding = Unbound; credit = credit; opened = false; queued = 0 }

-- an output VC that nobody holds
abbrev pub fresh_output : ℕ → OutputVc
fresh_output credit = record { holder = None; credit = credit }

-- no arbiter, and what is read past the end of an array of arbiters
abbrev pub no_arbiter : (places : ℕ) → Arbiter places
no_arbiter places = arbiter_of 0 (replicate places 0)

abbrev pub past_arbiter : {places : ℕ} → Arbiter places
past_arbiter = arbiter_of 0 []

-- arbiters of the ports that there are; all zero beyond
abbrev pub fresh_arbiters : Config → Arbiters
fresh_arbiters c =
    record {
      vcs = filled c.ports 8 (arbiter.fresh 32 c.arbiter (c.ports * c.vcs)) (no_arbiter 32);
      inputs = filled c.ports 8 (arbiter.fresh 8 c.arbiter c.vcs) (no_arbiter 8);
      outputs = filled c.ports 8 (arbiter.fresh 8 c.arbiter c.ports) (no_arbiter 8);
    }

-- "The input store is 512 slots, all zero on a fresh router. There each sender credit is D, each output credit E, the cycle count 0, no
-- packet open, nothing bound or on its way."
unfoldable pub fresh_router : Config → Router
fresh_router c =
    record {
      config = c;
      cycle = 0;
      inputs = filled (c.ports * c.vcs) 32 (fresh_input c.depth) (fresh_input 0);
      outputs = filled (c.ports * c.vcs) 32 (fresh_output c.downstream) (fresh_output 0);
      store = replicate 512 0;
      wire = replicate 64 0;
      home = replicate 64 0;
      arbiters = fresh_arbiters c;
    }

-- "A refused construction gives an all-zero state": 1 with the field, or the fresh router
unfoldable pub built_of : Option ℕ → Config → Built
built_of (Some k) c = record { judged = judged (Some k); router = fresh_router no_config }
built_of None c = record { judged = judged None; router = fresh_router c }
