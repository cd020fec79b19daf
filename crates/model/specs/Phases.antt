-- What stands after a phase of the cycle, for one input VC or one output VC. (The channel's own part is in Channel.)
-- Assumes nothing.
use Rattle.std.specs.Prelude.{Bool, true, false, cond, List, [], ◌∷◌, ℕ, ◌+◌, eqb}
use Rattle.std.specs.Prelude.{Option, None, Some}
use Rattle.model.specs.Channel.{queue_now}
use Rattle.model.specs.Router.{Router, OutVc}
use Rattle.model.specs.Cycle.{Event, Choice, Brought}
use Rattle.model.specs.History.{Departure}

abbrev pub credit_for : ℕ → Option ℕ → ℕ
credit_for w None = 0
credit_for w (Some u) = cond (eqb u w) 1 0

abbrev pub granted : Option OutVc → Option OutVc → Option OutVc
granted None before = before
granted (Some b) before = Some b

module _ {Flit : Type 0} where
  -- "Each credit from downstream raises the named output VC's credit by one." (01, phase 2) The output credit after phase 2.
  abbrev pub out_credit_now : Router Flit → Event Flit → ℕ → ℕ → ℕ
  out_credit_now s e o w = s.out_credit o w + credit_for w (e.credit o)

  abbrev pub on_vc : ℕ → Option (Brought Flit) → List Flit
  on_vc v None = []
  on_vc v (Some b) = cond (eqb b.vc v) (b.flit ∷ []) []

  -- Phase 4: the flit that the cycle brings on VC v of input i, or none.
  abbrev pub offered : Event Flit → ℕ → ℕ → List Flit
  offered e i v = on_vc v (e.offer i)

  -- "A bound input VC (also one bound just now)" (01, phase 6): what VC v of input i is bound to after phase 5.
  abbrev pub bound_now : Router Flit → Choice → ℕ → ℕ → Option OutVc
  bound_now s k i v = granted (k.grant i v) (s.bound i v)

  abbrev pub leaving : ℕ → ℕ → Bool → Option OutVc → List Flit → List (Departure Flit)
  leaving i v false b q = []
  leaving i v true None q = []
  leaving i v true (Some b) [] = []
  leaving i v true (Some b) (f ∷ q) = record { output = b.output; out_vc = b.vc; input = i; vc = v; flit = f } ∷ []

  -- Phase 7: what leaves from VC v of input i, if it is to leave: its front flit, by the output VC that it is bound to.
  abbrev pub departure : Router Flit → Choice → ℕ → ℕ → List (Departure Flit)
  departure s k i v = leaving i v (k.leaves i v) (bound_now s k i v) (queue_now (s.channel i v))
