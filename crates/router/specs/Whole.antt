-- The router that the parts of a cycle make: structs by value, arrays of numbers lent.
-- Assumes nothing.
use Rattle.std.specs.Prelude.{List, ℕ}
use Rattle.base.specs.declared.config.Config.{Config}
use Rattle.state.specs.declared.Router.{Router}
use Rattle.rules.specs.Intake.{advanced, credits_returned, landed, offers_taken}
use Rattle.rules.specs.Allocation.{allocated}
use Rattle.router.specs.declared.parts.Parts.{Parts}

abbrev pub parts_of : Router → Parts
parts_of s =
    record { inputs = s.inputs; outputs = s.outputs; vcs = s.arbiters.vcs; ins = s.arbiters.inputs; outs = s.arbiters.outputs }

abbrev pub router_of : Config → ℕ → Parts → List ℕ → List ℕ → List ℕ → Router
router_of c cycle p store wire home =
    record {
      config = c;
      cycle = cycle;
      inputs = p.inputs;
      outputs = p.outputs;
      store = store;
      wire = wire;
      home = home;
      arbiters = record { vcs = p.vcs; inputs = p.ins; outputs = p.outs };
    }

-- a router with its senders paid, the home line not yet moved on, after phase 5
abbrev pub bound_of : Config → ℕ → Parts → List ℕ → List ℕ → List ℕ → List ℕ → Router
bound_of c cycle p store wire home part =
    allocated (offers_taken part (landed (credits_returned part (router_of c cycle p store wire (advanced home)))))
