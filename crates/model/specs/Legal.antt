-- A cycle within the limits of phases 1 to 7: it is not refused, and the choice is one that some arbiters could make.
-- Assumes nothing.
use Rattle.std.specs.Prelude.{◌≡◌, ◌≢◌, true, not, List, [], ◌∷◌, ℕ, ◌<◌, length}
use Rattle.std.specs.Prelude.{None, Some}
use Rattle.std.specs.Prelude.{IsSome}
use Rattle.model.specs.Sizes.{Config}
use Rattle.model.specs.Flit.{Look}
use Rattle.model.specs.Channel.{taken_now, queue_now}
use Rattle.model.specs.Router.{Router, OutVc}
use Rattle.model.specs.Cycle.{Event, Choice, Brought}
use Rattle.model.specs.Phases.{bound_now, out_credit_now}
use Rattle.model.specs.Send.{MaySend}

-- "An unbound one whose front flit is H or S asks at its destination" (01, phase 5). A front that is neither does not occur:
-- `front_starts` of proofs/Limits.
abbrev pub Asks : {Flit : Type 0} → Look Flit → List Flit → ℕ → Type 0
Asks look [] o = ⊥
Asks look (f ∷ q) o = (look.starts f ≡ true) × (look.port f ≡ o)

-- free: no input VC is bound to it before the cycle
abbrev pub Free : {Flit : Type 0} → Router Flit → OutVc → Type 0
Free s b = (i v : ℕ) → s.bound i v ≢ Some b

pub record Legal {Flit : Type 0} (look : Look Flit) (c : Config) (s : Router Flit) (e : Event Flit) (k : Choice) : Type 0 where
  -- An offer is in range: "3: .. VC, destination or credit too large", "Ports at or beyond P are all zero".
  pub offer_port : (i : ℕ) (b : Brought Flit) → e.offer i ≡ Some b → i < c.ports
  pub offer_vc : (i : ℕ) (b : Brought Flit) → e.offer i ≡ Some b → b.vc < c.vcs
  pub offer_destination : (i : ℕ) (b : Brought Flit) → e.offer i ≡ Some b → look.starts b.flit ≡ true → look.port b.flit < c.ports
  -- Not 6: "downstream credit where that output VC already has E".
  pub room : (o w : ℕ) → e.credit o ≡ Some w → s.out_credit o w < c.downstream
  -- Not 4: "B or T with no packet open at that sender VC, or H or S with one open".
  pub kinds : (i : ℕ) (b : Brought Flit) → e.offer i ≡ Some b → look.starts b.flit ≡ not (s.opened i b.vc)
  -- Not 5: "no sender credit, after phase 1".
  pub paid : (i : ℕ) (b : Brought Flit) → e.offer i ≡ Some b → MaySend c (λ u. taken_now (s.channel i u)) b.vc
  -- A binding is of an unbound input VC ..
  pub binds_unbound : (i v : ℕ) (b : OutVc) → k.grant i v ≡ Some b → s.bound i v ≡ None
  -- .. whose front flit, after phase 3, is H or S, at its destination ..
  pub binds_front : (i v : ℕ) (b : OutVc) → k.grant i v ≡ Some b → Asks look (queue_now (s.channel i v)) b.output
  -- .. to a free VC of that output, usable from the cycle after the one that freed it ..
  pub binds_free : (i v : ℕ) (b : OutVc) → k.grant i v ≡ Some b → Free s b
  pub binds_vc : (i v : ℕ) (b : OutVc) → k.grant i v ≡ Some b → b.vc < c.vcs
  -- .. and "each output binds at most one per cycle".
  pub binds_once : (i v j u : ℕ) (a b : OutVc) → k.grant i v ≡ Some a → k.grant j u ≡ Some b → a.output ≡ b.output → (i ≡ j) × (v ≡ u)
  -- What leaves is "a bound input VC (also one bound just now)", "its queue is not empty and its output VC has credit" after phase 2.
  pub leaves_bound : (i v : ℕ) → k.leaves i v ≡ true → IsSome (bound_now s k i v)
  pub leaves_flit : (i v : ℕ) → k.leaves i v ≡ true → 0 < length (queue_now (s.channel i v))
  pub leaves_credit : (i v : ℕ) (b : OutVc) → k.leaves i v ≡ true → bound_now s k i v ≡ Some b → 0 < out_credit_now s e b.output b.vc
  -- "Each input's V-wide arbiter picks one ready VC", "each output's P-wide arbiter picks one row": at most one flit per input and per
  -- output.
  pub input_once : (i v u : ℕ) → k.leaves i v ≡ true → k.leaves i u ≡ true → v ≡ u
  pub output_once : (i v j u : ℕ) (a b : OutVc) → k.leaves i v ≡ true → k.leaves j u ≡ true → bound_now s k i v ≡ Some a
      → bound_now s k j u ≡ Some b →
      a.output ≡ b.output → (i ≡ j) × (v ≡ u)
