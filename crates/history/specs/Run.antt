-- "Take a fresh router and any run of cycles, refused ones skipped." (demand 3) The router after a list of cycle parts, and the history of
-- what was accepted and what left, written from the parts and the replies alone: no state is read into it.
-- Assumes nothing.
use Rattle.std.specs.Prelude.{Ok, Err}
use Rattle.std.specs.Prelude.{cond, List, [], ◌∷◌, ℕ, length, get_or}
use Rattle.std.specs.Prelude.{Option, Some, None}
use Rattle.base.specs.declared.config.Config.{Config}
use Rattle.base.specs.declared.flit.Flit.{Flit}
use Rattle.base.specs.declared.reply.Departure as reply
use Rattle.base.specs.declared.reply.Reply.{Reply}
use Rattle.base.specs.Flit.{flit_of, starts_kind}
use Rattle.model.specs.Lists.{each}
use Rattle.model.specs.Router.{InVc}
use Rattle.model.specs.History.{Offer, Departure, Entry, History}
use Rattle.model.specs.Step.{credits_at}
use Rattle.state.specs.declared.Router.{Router}
use Rattle.state.specs.Fresh.{fresh_router}
use Rattle.base.specs.Refusal.{Verdict}
use Rattle.rules.specs.declared.Stepped.{Stepped}
use Rattle.rules.specs.Ports.{named}
use Rattle.rules.specs.Rows.{credit_at, brings, vc_at, flit_at}
use Rattle.rules.specs.Step.{step_of}

-- the offer in the row of port i: "kind (0 no offer), VC, destination, .. payload"
abbrev pub offer_in : List ℕ → ℕ → List (Offer Flit)
offer_in part i = cond (brings part i) (record { input = i; vc = vc_at part i; flit = flit_at part i } ∷ []) []

-- A departure that the reply reports at output o. It has no destination: a flit that starts a packet is written down with the output that
-- it left by, any other with 0. That these are the flits accepted, destination and all, is what demand 3 says of their order.
abbrev pub departure_in : ℕ → Option reply.Departure → List (Departure Flit)
departure_in o None = []
departure_in o (Some d) =
    record {
      output = o;
      out_vc = d.out_vc;
      input = d.input;
      vc = d.vc;
      flit = flit_of d.kind (cond (starts_kind d.kind) o 0) d.payload;
    } ∷ []

-- all of them, output by output
abbrev pub departures_in : Config → Reply → List (Departure Flit)
departures_in c r = each c.ports (λ o. departure_in o (get_or r.outputs o None))

-- the credit that the reply reports at input i
abbrev pub reached_in : ℕ → Option ℕ → List InVc
reached_in i None = []
reached_in i (Some v) = record { input = i; vc = v } ∷ []

-- The entry of an accepted cycle, its departures as the reply has them. The free router lists the same input by input (Entry.entry_is).
unfoldable pub entry_of : Config → ℕ → List ℕ → Reply → Entry Flit
entry_of c cycle part r =
    record {
      cycle = cycle;
      offers = each c.ports (λ i. offer_in part i);
      departures = departures_in c r;
      reached = each c.ports (λ i. reached_in i (get_or r.senders i None));
      credits = each c.ports (λ o. credits_at o (named (credit_at part o)));
    }

-- where a run has come to
pub record Ran : Type 0 where
  pub router : Router
  pub history : History Flit  -- the newest cycle first

-- an accepted cycle is numbered by those accepted before it; a refused one leaves no trace
abbrev pub recorded : Config → List ℕ → Ran → Verdict → Stepped → Ran
recorded c part r (Ok _) x = record { router = x.router; history = entry_of c (length r.history) part x.reply ∷ r.history }
recorded c part r (Err n) x = r

abbrev pub cycled : Config → Ran → List ℕ → Ran
cycled c r part = recorded c part r (step_of r.router part).verdict (step_of r.router part)

unfoldable pub run_from : Config → Ran → List (List ℕ) → Ran
run_from c r [] = r
run_from c r (part ∷ parts) = run_from c (cycled c r part) parts

-- the run of a fresh router of configuration c through these parts, the first first
unfoldable pub run_of : Config → List (List ℕ) → Ran
run_of c parts = run_from c (record { router = fresh_router c; history = [] }) parts
