-- Routers by value: one part changed at a time, and states that a run reaches.
-- Assumes nothing.
use Rattle.std.specs.Prelude.{Some}
use Rattle.arbiter.specs.declared.Arbiter.{Arbiter}
use mathlib.Core.Bool.{Bool, true, false}
use mathlib.Core.List.{List, [], ◌∷◌, ◌++◌}
use Prim.Native.Nat.{ℕ, suc, ◌+◌, ◌*◌, ◌^◌}
use lib.ListN.{set, replicate}
use Rattle.base.specs.declared.config.Config.{Config}
use Rattle.base.specs.Flit.{flit_of}
use Rattle.base.specs.Sizes.{sized, no_config}
use Rattle.arbiter.specs.Arbiter as arbiter
use Rattle.arbiter.specs.Matrix.{fresh_rows}
use Rattle.arbiter.specs.Arbiter.{arbiter_of, with_pointer}
use Rattle.state.specs.declared.Binding.TheVariants.{Bound}
use Rattle.state.specs.declared.InputVc.{InputVc}
use Rattle.state.specs.declared.OutputVc.{OutputVc}
use Rattle.state.specs.declared.Arbiters.{Arbiters}
use Rattle.state.specs.declared.Router.{Router}
use Rattle.state.specs.Fresh.{fresh_router, fresh_input, fresh_output, fresh_arbiters, no_arbiter}
use Rattle.state.specs.Setters.{set_binding, with_opened, with_queued, set_holder, with_vc_arbiters, with_input_arbiters}
use Rattle.state.specs.Setters.{with_output_arbiters, with_inputs}
use Rattle.state.specs.Setters.{with_outputs, with_store, with_wire, with_home, with_arbiters}

-- setters, one part each
unfoldable pub with_input : ℕ → InputVc → Router → Router
with_input x input s = with_inputs (set s.inputs x input) s

unfoldable pub with_output : ℕ → OutputVc → Router → Router
with_output y output s = with_outputs (set s.outputs y output) s

unfoldable pub with_slot : ℕ → ℕ → Router → Router
with_slot k word s = with_store (set s.store k word) s

unfoldable pub with_wire_place : ℕ → ℕ → ℕ → Router → Router
with_wire_place k i place s = with_wire (set s.wire (8 * k + i) place) s

unfoldable pub with_home_place : ℕ → ℕ → ℕ → Router → Router
with_home_place k i place s = with_home (set s.home (8 * k + i) place) s

unfoldable pub with_vc_arbiter : ℕ → Arbiter 32 → Router → Router
with_vc_arbiter o a s = with_arbiters (with_vc_arbiters (set s.arbiters.vcs o a) s.arbiters) s

unfoldable pub with_input_arbiter : ℕ → Arbiter 8 → Router → Router
with_input_arbiter i a s = with_arbiters (with_input_arbiters (set s.arbiters.inputs i a) s.arbiters) s

unfoldable pub with_output_arbiter : ℕ → Arbiter 8 → Router → Router
with_output_arbiter o a s = with_arbiters (with_output_arbiters (set s.arbiters.outputs o a) s.arbiters) s

-- P = 2, V = 2, D = 3, E = 2, F = 2, B = 2, round robin and matrix
unfoldable pub config : ℕ → Config
config code = sized 2 2 3 2 2 2 code

unfoldable pub turns : Router
turns = fresh_router (config 1)

unfoldable pub orders : Router
orders = fresh_router (config 2)

-- an input VC, what it is bound to first; an output VC with its holder
unfoldable pub unbound : ℕ → Bool → ℕ → InputVc
unbound credit opened queued = with_opened opened (with_queued queued (fresh_input credit))

unfoldable pub bound : ℕ → ℕ → ℕ → Bool → ℕ → InputVc
bound o w credit opened queued =
    set_binding (Bound (record { output = o; vc = w })) (with_opened opened (with_queued queued (fresh_input credit)))

unfoldable pub held : ℕ → ℕ → ℕ → OutputVc
held i v credit = set_holder (Some (record { input = i; vc = v })) (fresh_output credit)

-- the words of flits: H and S to an output, B and T
unfoldable pub head : ℕ → ℕ
head o = (flit_of 1 o 7).word

unfoldable pub single : ℕ → ℕ
single o = (flit_of 4 o 7).word

unfoldable pub body : ℕ
body = (flit_of 2 0 7).word

unfoldable pub tail : ℕ
tail = (flit_of 3 0 7).word

-- on the wire, with its VC
unfoldable pub on : ℕ → ℕ → ℕ
on v word = v * 2 ^ 38 + word

-- a round robin, and a matrix, by value
unfoldable pub pointer_at : (places : ℕ) → ℕ → Arbiter places
pointer_at places p = with_pointer p (no_arbiter places)

-- the fresh order of four, with one row or the pointer another
unfoldable pub ordered : ℕ → ℕ → ℕ → Arbiter 32
ordered p i row = arbiter_of p (set (fresh_rows 32 4) i row)

-- these words in the store from a slot on
unfoldable pub stored : ℕ → List ℕ → Router → Router
stored k [] s = s
stored k (w ∷ ws) s = stored (suc k) ws (with_slot k w s)

-- queue 0 of input 0 holds these words, the front first
unfoldable pub queue : List ℕ → Router → Router
queue ws s = stored 0 ws s

-- States that a run reaches. Input VC 0 of port 0 is bound to VC 0 of output 1.
unfoldable pub middle : Router
middle = with_output 2 (held 0 0 2) (with_input 0 (bound 1 0 3 true 0) turns)

unfoldable pub fronted : Router
fronted = with_output 2 (held 0 0 2) (queue (head 1 ∷ body ∷ []) (with_input 0 (bound 1 0 1 true 2) turns))

unfoldable pub full_wire : Router
full_wire = with_wire_place 1 0 (on 1 tail) (with_wire_place 0 0 (on 1 (head 1)) (with_input 1 (unbound 1 false 0) turns))

unfoldable pub homing : Router
homing = with_home_place 1 1 2 (with_home_place 0 1 2 (with_input 3 (unbound 1 false 0) turns))

-- P = 2, V = 2, D = 16: a channel that holds sixteen flits and says that it holds so many
unfoldable pub deep : ℕ → Router
deep queued =
    with_store (replicate 16 (single 1) ++ replicate 496 0) (with_input 0 (unbound 0 false queued)
    (fresh_router (sized 2 2 16 2 1 1 1)))

-- a matrix after picks, the last pick first
unfoldable pub picked : (places : ℕ) → ℕ → List ℕ → Arbiter places
picked places n [] = arbiter.fresh places 2 n
picked places n (w ∷ ws) = arbiter.moved places 2 n w (picked places n ws)

unfoldable pub picked_arbiters : Arbiters
picked_arbiters =
    with_vc_arbiters (replicate 8 (picked 32 32 (9 ∷ 0 ∷ 31 ∷ [])))
    (with_input_arbiters (replicate 8 (picked 8 4 (2 ∷ 0 ∷ 3 ∷ [])))
    (with_output_arbiters (replicate 8 (picked 8 8 (5 ∷ 0 ∷ 7 ∷ []))) (fresh_arbiters no_config)))

-- P = 8, V = 4, every arbiter a matrix after picks: VC 0 of input 0 bound to VC 1 of output 5 with a packet's start queued, VC 3 of
-- input 7 with a flit queued, one on the wire and a credit on its way home
unfoldable pub large : Router
large =
    with_arbiters picked_arbiters
    (with_home_place 2 7 4 (with_wire_place 1 7 (on 3 (single 2))
    (with_output 21 (held 0 0 1) (stored 496 (single 0 ∷ []) (queue (head 5 ∷ body ∷ [])
    (with_input 31 (unbound 1 false 1) (with_input 0 (bound 5 1 2 true 2)
    (fresh_router (sized 8 4 4 2 3 3 2)))))))))
