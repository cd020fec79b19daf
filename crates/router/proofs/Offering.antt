-- Phase 4, turn by turn.
-- Assumes nothing.
use mathlib.Core.Path.{◌≡◌, refl, sym, ap, ◌∙◌}
use mathlib.Core.Bool.{Bool, true, false, cond}
use mathlib.Core.List.{List}
use Rattle.std.specs.Prelude.{Option, Some, None}
use Rattle.std.proofs.lemmas.Option.{none-some, same_Some}
use Prim.Native.Nat.{ℕ, ◌+◌, ◌*◌, ◌<◌, ◌≤◌, ◌^◌}
use native.Mathlib.Omega.{arith}
use lib.ListN.{length, get_or, set}
use lib.Seq.{set_out}
use Rattle.base.specs.declared.config.Config.{Config}
use Rattle.base.specs.Flit.{flit_of}
use Rattle.state.specs.declared.InputVc.{InputVc}
use Rattle.state.specs.Fresh.{fresh_input}
use Rattle.state.specs.Views.{channel_number}
use Rattle.trace.specs.Bytes.{byte}
use Rattle.trace.proofs.Spelling.{four_spell, two_lt}
use Rattle.rules.specs.Ports.{over_ports}
use Rattle.rules.specs.Rows.{brings, kind_at, vc_at, flit_at}
use Rattle.rules.specs.Intake.{Senders, offer_taken, newest, on_wire, taken_at}
use Rattle.rules.proofs.Folds.{over_again}
use Rattle.router.specs.declared.rows.Offer.{Offer}
use Rattle.router.specs.Rows.{offer_at}

module _ (part : List ℕ) (i : ℕ) where
  pub none_brought : offer_at part i ≡ None → brings part i ≡ false
  unfolding offer_at
  none_brought = go (brings part i)
    where
      go : (b : Bool) → cond {A = Option Offer} b (Some (record { vc = vc_at part i; flit = flit_at part i })) None ≡ None → b ≡ false
      go true e = absurd (none-some _ (sym e))
      go false e = refl

  pub some_brought : (o : Offer) → offer_at part i ≡ Some o
      → (brings part i ≡ true) × (◌≡◌ {A = Offer} (record { vc = vc_at part i; flit = flit_at part i }) o)
  unfolding offer_at
  some_brought o = go (brings part i)
    where
      go : (b : Bool) → cond {A = Option Offer} b (Some (record { vc = vc_at part i; flit = flit_at part i })) None ≡ Some o
          → (b ≡ true) × (◌≡◌ {A = Offer} (record { vc = vc_at part i; flit = flit_at part i }) o)
      go true e = (refl, same_Some _ o e)
      go false e = absurd (none-some o e)

  -- what a row of bytes brings is far below what the wire's word has room for
  pub brought_small : ((k : ℕ) → byte part k < 256) → (o : Offer) → offer_at part i ≡ Some o → (o.vc < 256) × (o.flit.word < 2 ^ 44)
  unfolding flit_of
  brought_small bytes o e =
      let q = (some_brought o e).1 in
      let v : o.vc ≡ vc_at part i = ap (λ (x : Offer). x.vc) (sym q) in
      let w : o.flit.word ≡ (flit_at part i).word = ap (λ (x : Offer). x.flit.word) (sym q) in
      let k = bytes (8 * i + 0) in
      let d = bytes (8 * i + 2) in
      let b = bytes (8 * i + 1) in
      let p = four_spell part (8 * i + 4) in
      let h = two_lt part (8 * i + 4) bytes in
      let l = two_lt part (8 * i + 4 + 2) bytes in
      (omega arith, omega arith)

module _ (c : Config) (part : List ℕ) (s : Senders) (inputs : List InputVc) (wire : List ℕ) (i : ℕ)
    (so : ◌≡◌ {A = Senders} (record { inputs = inputs; wire = wire }) (over_ports i (taken_at c part) s)) where
  abbrev pub t : Senders
  t = record { inputs = inputs; wire = wire }

  -- a port that brings nothing is passed over
  pub take_none : None ≡ offer_at part i → t ≡ over_ports (i + 1) (taken_at c part) s
  take_none e = over_again i (taken_at c part) s t t so (rw (none_brought part i (sym e)))

  module _ (o : Offer) (brought : Some o ≡ offer_at part i) (vc : ℕ) (wide : vc ≡ o.vc) (x : ℕ) (number : x ≡ channel_number c i vc) where
    pub take_some : (k : ℕ) → k ≡ kind_at part i → (y : InputVc) → y ≡ offer_taken k (get_or inputs x (fresh_input 0))
        → ◌≡◌ {A = Senders} (record { inputs = set inputs x y; wire = set wire (newest c.forward i) (on_wire vc o.flit) })
        (over_ports (i + 1) (taken_at c part) s)
    take_some k kind y g =
        let q = some_brought part i o (sym brought) in
        let v : o.vc ≡ vc_at part i = ap (λ (y : Offer). y.vc) (sym q.1) in
        let f : o.flit ≡ flit_at part i = ap (λ (y : Offer). y.flit) (sym q.1) in
        over_again i (taken_at c part) s t _ so (rw (g, kind, number, wide, q.0, v, f))

    -- a VC that there is not
    pub take_out : length inputs ≤ x
        → ◌≡◌ {A = Senders} (record { inputs = inputs; wire = set wire (newest c.forward i) (on_wire vc o.flit) })
        (over_ports (i + 1) (taken_at c part) s)
    take_out l =
        ap (λ (t : List InputVc). record { inputs = t; wire = set wire (newest c.forward i) (on_wire vc o.flit) })
        (sym (set_out inputs x (offer_taken (kind_at part i) (get_or inputs x (fresh_input 0))) l))
        ∙ take_some _ refl _ refl
