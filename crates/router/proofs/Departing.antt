-- Phase 7, turn by turn.
-- Assumes nothing.
use Rattle.std.proofs.Common.{◌≡◌, ◌∙◌, refl, sym, ap, List, Bool, ℕ, ◌+◌, ◌≤◌, length, get_or, set}
use Rattle.std.specs.Prelude.{Option, Some, None}
use lib.ListN.{get_or-eq_default}
use lib.Seq.{set_out}
use Rattle.base.specs.declared.config.Config.{Config}
use Rattle.base.specs.declared.reply.Departure.{Departure}
use Rattle.base.specs.Flit.{kind_of, ends_kind}
use Rattle.state.specs.declared.InVc.{InVc}
use Rattle.state.specs.declared.OutVc.{OutVc}
use Rattle.state.specs.declared.Binding.TheVariants.{Unbound, Bound}
use Rattle.state.specs.declared.InputVc.{InputVc}
use Rattle.state.specs.declared.OutputVc.{OutputVc}
use Rattle.state.specs.Fresh.{fresh_input, fresh_output}
use Rattle.store.specs.Store.{front_of, popped}
use Rattle.state.specs.Views.{channel_number}
use Rattle.rules.specs.Intake.{newest}
use Rattle.rules.specs.Allocation.{vc_of}
use Rattle.rules.specs.Departures.{Leaving, input_left, output_left, departure, leaves_by}
use Rattle.router.specs.Picks.{pick_in}

-- the winner at output o, by the input picked there and by what that input picked
abbrev pub win : List (Option ℕ) → List (Option ℕ) → ℕ → Option InVc
win rows picks o = vc_of (pick_in picks) (pick_in rows o)

abbrev pub leave_turn : Config → List (Option ℕ) → List (Option ℕ) → Leaving → ℕ → Leaving
leave_turn c rows picks l o = leaves_by c o (win rows picks o) l

module _ (c : Config) (rows picks : List (Option ℕ)) (l : Leaving) (o : ℕ) where
  -- nobody wins
  pub nobody : None ≡ win rows picks o → l ≡ leave_turn c rows picks l o
  nobody e = rw (sym e)

  -- the winner is VC v of input i, on channel x
  module _ (w : InVc) (x : ℕ) (e : Some w ≡ win rows picks o) (h : x ≡ channel_number c w.input w.vc) where
    -- a winner that is not bound stays; there is none in a sound router
    pub not_bound : (get_or l.inputs x (fresh_input 0)).binding ≡ Unbound → l ≡ leave_turn c rows picks l o
    not_bound u = let p : (get_or l.inputs (channel_number c w.input w.vc) (fresh_input 0)).binding ≡ Unbound = rw (sym h) u in rw (sym e, p)

    -- a winner on no channel that there is
    pub no_channel : length l.inputs ≤ x → l ≡ leave_turn c rows picks l o
    no_channel g = not_bound (ap (λ (y : InputVc). y.binding) (get_or-eq_default l.inputs (fresh_input 0) g))

    -- the front flit of channel x leaves by its VC of output o, on channel y: what the code's parts make of it
    module _ (b : OutVc) (u : (get_or l.inputs x (fresh_input 0)).binding ≡ Bound b) {last : Bool} {store home : List ℕ} {input : InputVc}
        {report : Departure} {y : ℕ} (el : last ≡ ends_kind (kind_of (front_of l.store x)))
        (ei : input ≡ input_left last (get_or l.inputs x (fresh_input 0)))
        (er : Some report ≡ departure b.vc w.input w.vc (front_of l.store x)) (es : store ≡ popped l.store x)
        (eh : home ≡ set l.home (newest c.back w.input) (w.vc + 1)) (ey : y ≡ channel_number c o b.vc) where
      abbrev gone : List OutputVc → Leaving
      gone outputs =
          record { inputs = set l.inputs x input; outputs = outputs; store = store; home = home; left = set l.left o (Some report) }

      pub leaves_now : {output : OutputVc} → output ≡ output_left last (get_or l.outputs y (fresh_output 0))
          → gone (set l.outputs y output) ≡ leave_turn c rows picks l o
      leaves_now eo =
          let p : (get_or l.inputs (channel_number c w.input w.vc) (fresh_input 0)).binding ≡ Bound b = rw (sym h) u in
          rw (sym e, p, eo, ei, er, es, eh, el, ey, h)

      -- its output VC is none that there is
      pub leaves_past : length l.outputs ≤ y → gone l.outputs ≡ leave_turn c rows picks l o
      leaves_past k =
          ap gone (sym (set_out l.outputs y (output_left last (get_or l.outputs y (fresh_output 0))) k)) ∙ leaves_now refl
