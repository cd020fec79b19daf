-- A run by value: ten cycles that satisfy `Run`, with their state and history computed. Three ports, two VCs, F = B = 2, D = E = 2.
-- Inputs 0 and 2 contend for output 1. No arbiter of document 01 makes these choices: in cycle 2 the higher free VC is given out and a
-- ready flit stays.
-- Assumes nothing.
use mathlib.Core.Path.{◌≡◌, refl}
use Rattle.std.specs.Prelude.{Some}
use mathlib.Core.List.{List, [], ◌∷◌, map}
use Prim.Native.Nat.{ℕ}
use lib.Dec.{lit≤}
use lib.ListN.{length, take}
use Rattle.model.specs.Sizes.{Config, Delayed}
use Rattle.model.specs.Channel.{Channel, stored, on_wire, going_home}
use Rattle.model.specs.Router.{Router, fresh}
use Rattle.model.specs.History.{History, left_on}
use Rattle.model.specs.Run.{Run, start}
use Rattle.model.specs.Times.{accepted_in, left_in, reached_in}
use Rattle.model.specs.Demand3.{Demand3}
use Rattle.model.proofs.Demand3.{demand3}
use Rattle.model.proofs.Sample.{Flit, looks, head, body, tail, single, offer, credit, bind, from, left, cycle}
use Rattle.model.proofs.Given.{Given, router_after, history_after}
use Rattle.model.proofs.Test.{run_of}

abbrev pub config : Config
config = record { ports = 3; vcs = 2; depth = 2; downstream = 2; forward = 2; back = 2 }

pub config_delayed : Delayed config
config_delayed = record { on_the_way = lit≤ tt; on_the_way_home = lit≤ tt }

abbrev pub cycles : List (Given Flit)
cycles =
    cycle (offer 0 0 (head 1 33) ∷ offer 2 1 (single 1 49) ∷ []) [] [] [] ∷
    cycle (offer 2 0 (head 1 65) ∷ []) [] [] [] ∷
    cycle [] [] (bind 2 1 1 1 ∷ []) [] ∷
    cycle [] [] (bind 0 0 1 0 ∷ []) (from 0 0 ∷ []) ∷
    cycle [] [] [] (from 2 1 ∷ []) ∷
    cycle (offer 0 0 (tail 34) ∷ []) (credit 1 0 ∷ []) (bind 2 0 1 1 ∷ []) (from 2 0 ∷ []) ∷
    cycle (offer 2 0 (body 66) ∷ []) [] [] [] ∷
    cycle [] [] [] (from 0 0 ∷ []) ∷
    cycle [] (credit 1 1 ∷ []) [] (from 2 0 ∷ []) ∷
    cycle [] [] [] [] ∷
    []

-- the router and the history after the first n cycles
abbrev pub router : ℕ → Router Flit
router n = router_after looks config (fresh config) (take n cycles)

abbrev pub history : ℕ → History Flit
history n = history_after looks config (fresh config) [] (take n cycles)

pub example : Run looks config (router 10) (history 10)
example = run_of looks config config_delayed (fresh config) [] start cycles tt

-- The four numbers of a channel.
abbrev pub numbers : Channel Flit → List ℕ
numbers ch = stored config ch ∷ length (on_wire ch) ∷ length ch.queue ∷ going_home ch ∷ []

-- After cycle 4 VC 0 of input 0 is bound, and its queue is empty: its tail is yet to come.
pub bound_and_empty : ((router 5).bound 0 0 ≡ Some (record { output = 1; vc = 0 })) × (((router 5).channel 0 0).queue ≡ [])
bound_and_empty = (refl, refl)

-- The numbers of two channels after cycles 0, 1, .., 9: stored credits, on the wire, buffered, on the way home. They were worked out by
-- hand, from the offers and
-- departures of `cycles` and the sentences of document 01.
abbrev pub numbers_of : ℕ → ℕ → List (List ℕ)
numbers_of i v = map (λ n. numbers ((router n).channel i v)) (1 ∷ 2 ∷ 3 ∷ 4 ∷ 5 ∷ 6 ∷ 7 ∷ 8 ∷ 9 ∷ 10 ∷ [])

pub numbers_00 : numbers_of 0 0 ≡
    (1 ∷ 1 ∷ 0 ∷ 0 ∷ []) ∷ (1 ∷ 1 ∷ 0 ∷ 0 ∷ []) ∷ (1 ∷ 0 ∷ 1 ∷ 0 ∷ []) ∷ (1 ∷ 0 ∷ 0 ∷ 1 ∷ []) ∷ (1 ∷ 0 ∷ 0 ∷ 1 ∷ []) ∷
    (1 ∷ 1 ∷ 0 ∷ 0 ∷ []) ∷ (1 ∷ 1 ∷ 0 ∷ 0 ∷ []) ∷ (1 ∷ 0 ∷ 0 ∷ 1 ∷ []) ∷ (1 ∷ 0 ∷ 0 ∷ 1 ∷ []) ∷ (2 ∷ 0 ∷ 0 ∷ 0 ∷ []) ∷ []
numbers_00 = refl

pub numbers_20 : numbers_of 2 0 ≡
    (2 ∷ 0 ∷ 0 ∷ 0 ∷ []) ∷ (1 ∷ 1 ∷ 0 ∷ 0 ∷ []) ∷ (1 ∷ 1 ∷ 0 ∷ 0 ∷ []) ∷ (1 ∷ 0 ∷ 1 ∷ 0 ∷ []) ∷ (1 ∷ 0 ∷ 1 ∷ 0 ∷ []) ∷
    (1 ∷ 0 ∷ 0 ∷ 1 ∷ []) ∷ (0 ∷ 1 ∷ 0 ∷ 1 ∷ []) ∷ (1 ∷ 1 ∷ 0 ∷ 0 ∷ []) ∷ (1 ∷ 0 ∷ 0 ∷ 1 ∷ []) ∷ (1 ∷ 0 ∷ 0 ∷ 1 ∷ []) ∷ []
numbers_20 = refl

-- The history's departures: one packet on VC 0 of output 1; on VC 1 a packet of another source, then one that is unfinished.
pub left_10 : left_on 1 0 (history 10) ≡ left 1 0 0 0 (head 1 33) ∷ left 1 0 0 0 (tail 34) ∷ []
left_10 = refl

pub left_11 : left_on 1 1 (history 10) ≡ left 1 1 2 1 (single 1 49) ∷ left 1 1 2 0 (head 1 65) ∷ left 1 1 2 0 (body 66) ∷ []
left_11 = refl

-- When: VC 0 of input 0 took flits in cycles 0 and 5, they left in 3 and 7, and their credits reached the sender in 5 and 9.
pub times_00 : (accepted_in 0 0 (history 10) ≡ 0 ∷ 5 ∷ []) × (left_in 0 0 (history 10) ≡ 3 ∷ 7 ∷ [])
    × (reached_in 0 0 (history 10) ≡ 5 ∷ 9 ∷ [])
times_00 = (refl, refl, refl)

-- Demand 3 of this very run.
pub example_demand : Demand3 looks config (router 10) (history 10) 9
example_demand = demand3 looks config config_delayed example
