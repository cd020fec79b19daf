-- The free step: the cycle's entry in the history, and the router after the cycle. No test is made here: `Legal` says which cycles count.
-- Assumes nothing.
use Rattle.std.specs.Prelude.{Bool, false, cond, not, ◌&&◌, List, [], ◌∷◌, ℕ, suc, ◌-◌, length, replicate}
use Rattle.std.specs.Prelude.{Option, None, Some}
use Rattle.model.specs.Lists.{each}
use Rattle.model.specs.Sizes.{Config}
use Rattle.model.specs.Flit.{Look}
use Rattle.model.specs.Channel.{reaching, queue_now, after_cycle}
use Rattle.model.specs.Router.{Router, OutVc}
use Rattle.model.specs.Cycle.{Event, Choice, Brought}
use Rattle.model.specs.History.{Offer, Entry, departures_on}
use Rattle.model.specs.Phases.{offered, out_credit_now, bound_now, departure}

abbrev pub offers_at : {Flit : Type 0} → ℕ → Option (Brought Flit) → List (Offer Flit)
offers_at i None = []
offers_at i (Some b) = record { input = i; vc = b.vc; flit = b.flit } ∷ []

abbrev pub credits_at : ℕ → Option ℕ → List OutVc
credits_at o None = []
credits_at o (Some w) = record { output = o; vc = w } ∷ []

-- The cycle's entry: everything that it brought and everything that it gave, by port and VC.
abbrev pub entry : {Flit : Type 0} → Config → Router Flit → Event Flit → Choice → Entry Flit
entry c s e k =
    record {
      cycle = s.cycle;
      offers = each c.ports (λ i. offers_at i (e.offer i));
      departures = each c.ports (λ i. each c.vcs (λ v. departure s k i v));
      reached = each c.ports (λ i. each c.vcs (λ v. replicate (reaching (s.channel i v)) (record { input = i; vc = v })));
      credits = each c.ports (λ o. credits_at o (e.credit o));
    }

module _ {Flit : Type 0} (look : Look Flit) where
  -- A sender's packet is open after a flit exactly when that flit does not end it.
  abbrev pub open_after : Bool → List Flit → Bool
  open_after before [] = before
  open_after before (f ∷ fs) = open_after (not (look.ends f)) fs

  abbrev pub ends_packet : List Flit → Bool
  ends_packet [] = false
  ends_packet (f ∷ q) = look.ends f

  -- "T or S unbinds and frees the output VC" (01, phase 7): the binding after a cycle in which the front of the queue left or stayed.
  abbrev pub bound_after : Bool → List Flit → Option OutVc → Option OutVc
  bound_after left queue b = cond (left && ends_packet queue) None b

  -- The router after the cycle. "Each winner leaves its queue, costs one output credit, .. and puts a credit on the way home." (01,
  -- phase 7)
  abbrev pub step : Config → Router Flit → Event Flit → Choice → Router Flit
  step c s e k =
      record {
        cycle = suc s.cycle;
        channel = λ i v. after_cycle (s.channel i v) (offered e i v) (cond (k.leaves i v) 1 0);
        opened = λ i v. open_after (s.opened i v) (offered e i v);
        bound = λ i v. bound_after (k.leaves i v) (queue_now (s.channel i v)) (bound_now s k i v);
        out_credit = λ o w. out_credit_now s e o w - length (departures_on o w (entry c s e k));
      }
