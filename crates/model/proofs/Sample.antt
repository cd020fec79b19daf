-- Flits and cycles to write down: words for the examples.
-- Assumes nothing.
use mathlib.Core.Bool.{◌||◌}
use mathlib.Core.List.{List}
use Prim.Native.Nat.{ℕ}
use lib.Dec.{eqb}
use Rattle.model.specs.Flit.{Look}
use Rattle.model.specs.Router.{OutVc, InVc}
use Rattle.model.specs.History.{Offer, Departure}
use Rattle.model.proofs.Given.{Given, Bind}

-- "A flit has a kind (1 head H, 2 body B, 3 tail T, 4 single S), a destination port and a .. payload."
pub record Flit : Type 0 where
  pub kind : ℕ
  pub destination : ℕ
  pub payload : ℕ

abbrev pub looks : Look Flit
looks =
    record {
      starts = λ f. eqb f.kind 1 || eqb f.kind 4;
      ends = λ f. eqb f.kind 3 || eqb f.kind 4;
      port = λ f. f.destination;
    }

abbrev pub head : ℕ → ℕ → Flit
head to payload = record { kind = 1; destination = to; payload = payload }

abbrev pub body : ℕ → Flit
body payload = record { kind = 2; destination = 0; payload = payload }

abbrev pub tail : ℕ → Flit
tail payload = record { kind = 3; destination = 0; payload = payload }

abbrev pub single : ℕ → ℕ → Flit
single to payload = record { kind = 4; destination = to; payload = payload }

abbrev pub offer : ℕ → ℕ → Flit → Offer Flit
offer i v f = record { input = i; vc = v; flit = f }

abbrev pub credit : ℕ → ℕ → OutVc
credit o w = record { output = o; vc = w }

abbrev pub bind : ℕ → ℕ → ℕ → ℕ → Bind
bind i v o w = record { input = i; vc = v; to = record { output = o; vc = w } }

abbrev pub from : ℕ → ℕ → InVc
from i v = record { input = i; vc = v }

-- a flit f that left by VC w of output o from VC v of input i
abbrev pub left : ℕ → ℕ → ℕ → ℕ → Flit → Departure Flit
left o w i v f = record { output = o; out_vc = w; input = i; vc = v; flit = f }

-- a cycle of offers, credits, bindings and departures
abbrev pub cycle : List (Offer Flit) → List OutVc → List Bind → List InVc → Given Flit
cycle offers credits binds leaves = record { offers = offers; credits = credits; binds = binds; leaves = leaves }
