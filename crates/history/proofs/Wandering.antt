-- A history that every other sentence of demand 3 lets through and `names` refuses, on a router of two ports with one VC each: a body
-- leaves on an output VC that there is not, and a single is accepted on an input VC that there is not and is gone.
-- Assumes nothing.
use mathlib.Core.Path.{refl}
use mathlib.Core.List.{List, [], ◌∷◌}
use Prim.Native.Nat.{ℕ, zero, suc, ◌<◌}
use native.Mathlib.Omega.{arith}
use Rattle.base.specs.declared.config.Config.{Config}
use Rattle.base.specs.declared.flit.Flit.{Flit}
use Rattle.base.specs.Flit as kinds
use Rattle.base.specs.Flit.{flit_of, kind_of, destination_of, starts_kind, ends_kind}
use Rattle.base.specs.Sizes.{sized}
use Rattle.model.specs.Demand3.{ByHeadsPort, FromOneSource}
use Rattle.model.specs.History.{Offer, Departure, Entry, History, Numbered, accepted, left_from, left_on}
use Rattle.model.specs.Limits.{NamesInRange}
use Rattle.model.specs.Packets.{Packets, finished, next, nothing, head, body, tail}
use Rattle.model.proofs.Destinations.{left_by_destination}
use Rattle.state.specs.declared.Router.{Router}
use Rattle.state.specs.Fresh.{fresh_router}
use Rattle.state.specs.Views.{queue_at, places, wire_of, home_of, flat, total}
use Rattle.rules.specs.Free.{look, sizes_of}
use Rattle.history.specs.Demand3.{InputDemand, Demand3}

-- demand 3 without `names`
pub record WithoutNames (c : Config) (s : Router) (h : History Flit) (t : ℕ) : Type 0 where
  pub cycles : Numbered (suc t) h
  pub inputs : (i v : ℕ) → i < c.ports → v < c.vcs → InputDemand c s h t i v
  pub outputs : (o w : ℕ) → o < c.ports → w < c.vcs → Packets look FromOneSource (left_on o w h)

abbrev c : Config
c = sized 2 1 4 4 1 1 1

abbrev entry : ℕ → List (Offer Flit) → List (Departure Flit) → Entry Flit
entry n offers departures = record { cycle = n; offers = offers; departures = departures; reached = []; credits = [] }

-- a flit for output 1, offered on VC v of input 0, and leaving from VC 0 of it on VC w of output 1
abbrev offered : ℕ → Flit → List (Offer Flit)
offered v f = record { input = 0; vc = v; flit = f } ∷ []

abbrev left : ℕ → Flit → Departure Flit
left w f = record { output = 1; out_vc = w; input = 0; vc = 0; flit = f }

abbrev H : Flit
H = flit_of kinds.head 1 7

abbrev B : Flit
B = flit_of kinds.body 0 8

abbrev T : Flit
T = flit_of kinds.tail 0 9

abbrev S : Flit
S = flit_of kinds.single 1 6

-- H and T leave on VC 0 of output 1, B between them on VC 1. S is accepted on VC 5.
abbrev body_leaves : Entry Flit
body_leaves = entry 2 (offered 0 T) (left 1 B ∷ [])

abbrev single_comes : Entry Flit
single_comes = entry 4 (offered 5 S) []

abbrev wandering : History Flit
wandering =
    single_comes ∷ entry 3 [] (left 0 T ∷ []) ∷ body_leaves ∷ entry 1 (offered 0 B) (left 0 H ∷ []) ∷ entry 0 (offered 0 H) [] ∷ []

-- the channels that there are
channels : (P : ℕ → ℕ → Type 0) → P 0 0 → P 1 0 → (i v : ℕ) → i < 2 → v < 1 → P i v
channels P first second zero zero p q = first
channels P first second zero (suc v) p q = absurd (omega (arith, q))
channels P first second (suc zero) zero p q = second
channels P first second (suc zero) (suc v) p q = absurd (omega (arith, q))
channels P first second (suc (suc i)) v p q = absurd (omega (arith, p))

from_input : Packets look (ByHeadsPort look) (left_from 0 0 wandering)
unfolding flit_of kind_of destination_of starts_kind ends_kind
from_input =
    finished (next nothing (tail {h = left 0 H} {d = left 0 T} (body {d = left 1 B} (head refl refl refl) refl refl refl) refl refl refl))

on_output : Packets look FromOneSource (left_on 1 0 wandering)
unfolding flit_of kind_of starts_kind ends_kind
on_output = finished (next nothing (tail {h = left 0 H} {d = left 0 T} (head refl refl (refl, refl)) refl refl (refl, refl)))

inputs : (i v : ℕ) → i < 2 → v < 1 → InputDemand c (fresh_router c) wandering 4 i v
unfolding flit_of fresh_router queue_at places wire_of home_of flat total
inputs =
    channels (InputDemand c (fresh_router c) wandering 4) (record {
      wire = refl;
      buffers = refl;
      home = refl;
      credits = refl;
      depth = refl;
      order = refl;
      queued = refl;
      ports = from_input;
      destinations = left_by_destination look (left_from 0 0 wandering) [] [] (accepted 0 0 wandering) from_input refl;
    }) (record {
      wire = refl;
      buffers = refl;
      home = refl;
      credits = refl;
      depth = refl;
      order = refl;
      queued = refl;
      ports = finished nothing;
      destinations = tt;
    })

-- Every other sentence holds of it, with the fresh router ..
pub let_through : WithoutNames c (fresh_router c) wandering 4
let_through =
    record {
      cycles = (refl, (refl, (refl, (refl, (refl, refl)))));
      inputs = inputs;
      outputs = channels (λ o w. Packets look FromOneSource (left_on o w wandering)) (finished nothing) on_output;
    }

-- .. and two of its entries have a name out of range, each of which alone is refused.
pub body_nowhere : ¬ NamesInRange (sizes_of c) body_leaves
body_nowhere names = absurd (omega (arith, names.outputs.0.1))

pub single_nowhere : ¬ NamesInRange (sizes_of c) single_comes
single_nowhere names = absurd (omega (arith, names.offers.0.1))

pub refused : ¬ Demand3 c (fresh_router c) wandering 4
refused d = body_nowhere d.names.1.1.0
