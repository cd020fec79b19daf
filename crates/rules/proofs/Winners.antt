-- Phase 6, who leaves: what an input picks, who wins an output, and that an input wins at most one.
-- Assumes nothing.
use mathlib.Core.Path.{◌≡◌, refl, sym, ap, ap₂, ◌∙◌}
use mathlib.Core.Logic.{◌≢◌}
use mathlib.Core.Bool.{true, not, false≢true}
use Rattle.std.specs.Prelude.{Option, Some, None}
use Rattle.std.proofs.lemmas.Option.{same_Some, none-some}
use Prim.Native.Nat.{ℕ, ◌<◌}
use lib.Dec.{eqb}
use borrow.Author.Tests.{eqb-true, eqb-false, not-true}
use Rattle.base.proofs.Search.{both}
use Rattle.arbiter.proofs.Winners.{winner_asks}
use Rattle.state.specs.declared.InVc.{InVc}
use Rattle.state.specs.declared.OutVc.{OutVc}
use Rattle.state.specs.declared.Binding.{Binding}
use Rattle.state.specs.declared.Binding.TheVariants.{Unbound, Bound}
use Rattle.state.specs.declared.Router.{Router}
use Rattle.state.specs.Views.{input_at, output_at, input_arbiter, output_arbiter}
use Rattle.rules.specs.Allocation.{has_credit, is_ready, ready, input_pick, is_for, picked, request, output_pick, winning, vc_of, winner}

-- what an input picks is one of its VCs, and ready
pub pick_ready : (s : Router) (i v : ℕ) → input_pick s i ≡ Some v
    → (v < s.config.vcs) × (ready s.config s.inputs s.outputs i v ≡ true)
unfolding input_pick
pick_ready s i v e =
    winner_asks 8 s.config.arbiter s.config.vcs (ready s.config s.inputs s.outputs i)
    (input_arbiter s.arbiters i) v e

-- the winner x of output o: its input's pick, bound to a VC of o that has credit, and with a flit to send
pub record Wins (s : Router) (o : ℕ) (x : InVc) : Type 0 where
  pub input_below : x.input < s.config.ports
  pub picks : input_pick s x.input ≡ Some x.vc
  pub vc_below : x.vc < s.config.vcs
  pub to : OutVc
  pub bound : (input_at s.config s.inputs x.input x.vc).binding ≡ Bound to
  pub here : to.output ≡ o
  pub queued : (input_at s.config s.inputs x.input x.vc).queued ≢ 0
  pub credit : (output_at s.config s.outputs o to.vc).credit ≢ 0

-- a binding for output o names a VC of it
for_is : (o : ℕ) (b : Binding) → is_for o b ≡ true → (to : OutVc) × (b ≡ Bound to) × (to.output ≡ o)
for_is o Unbound e = absurd (false≢true e)
for_is o (Bound to) e = (to, refl, eqb-true to.output o e)

-- the pick of the row that an output picks
winner_from : (pick : ℕ → Option ℕ) (row : Option ℕ) (x : InVc) → vc_of pick row ≡ Some x → (row ≡ Some x.input)
    × (pick x.input ≡ Some x.vc)
winner_from pick None x e = absurd (none-some x e)
winner_from pick (Some i) x e = go (pick i) refl e
  where
    go : (p : Option ℕ) → pick i ≡ p → winning i p ≡ Some x → (Some i ≡ Some x.input) × (pick x.input ≡ Some x.vc)
    go None q f = absurd (none-some x f)
    go (Some v) q f =
        let r = same_Some (record { input = i; vc = v }) x f in
        (ap (λ (y : InVc). Some y.input) r, ap (λ (y : InVc). pick y.input) (sym r) ∙ q ∙ ap (λ (y : InVc). Some y.vc) r)

module _ (s : Router) (o : ℕ) (x : InVc) (won : winner s o ≡ Some x) where
  -- who wins is its input's one pick, of the row that the output picked
  pub winner_picked : (output_pick s o ≡ Some x.input) × (input_pick s x.input ≡ Some x.vc)
  unfolding winner
  winner_picked = winner_from (input_pick s) (output_pick s o) x won

  -- it is bound to that output, whatever its flit's destination field says
  pub winner_bound_here : (x.input < s.config.ports) × (is_for o (input_at s.config s.inputs x.input x.vc).binding ≡ true)
  unfolding output_pick request
  winner_bound_here =
      let c = s.config in
      let row = winner_asks 8 c.arbiter c.ports (λ (i : ℕ). request s i o) (output_arbiter s.arbiters o) x.input
      winner_picked.0 in
      (row.0, ap (picked c s.inputs x.input o) (sym winner_picked.1) ∙ row.1)

  pub winner_is : Wins s o x
  unfolding is_ready
  winner_is =
      let c = s.config in
      let p = pick_ready s x.input x.vc winner_picked.1 in
      let b = for_is o (input_at c s.inputs x.input x.vc).binding winner_bound_here.1 in
      let r = both (has_credit c s.outputs (input_at c s.inputs x.input x.vc).binding)
      (not (eqb (input_at c s.inputs x.input x.vc).queued 0)) p.1 in
      let paid : not (eqb (output_at c s.outputs o b.0.vc).credit 0) ≡ true =
      ap (λ (n : ℕ). not (eqb (output_at c s.outputs n b.0.vc).credit 0)) (sym b.2)
      ∙ ap (has_credit c s.outputs) (sym b.1) ∙ r.0 in
      record {
        input_below = winner_bound_here.0;
        picks = winner_picked.1;
        vc_below = p.0;
        to = b.0;
        bound = b.1;
        here = b.2;
        queued = eqb-false (input_at c s.inputs x.input x.vc).queued 0 (not-true _ r.1);
        credit = eqb-false (output_at c s.outputs o b.0.vc).credit 0 (not-true _ paid);
      }

-- two outputs with winners of the same input are the same output: an input has one pick, and that is bound to one output
pub winners_differ : (s : Router) (o p : ℕ) (x y : InVc) → winner s o ≡ Some x → winner s p ≡ Some y → x.input ≡ y.input → (o ≡ p)
    × (x.vc ≡ y.vc)
winners_differ s o p x y e f same =
    let a = winner_is s o x e in
    let b = winner_is s p y f in
    let vc : x.vc ≡ y.vc = same_Some x.vc y.vc (sym a.picks ∙ ap (input_pick s) same ∙ b.picks) in
    let one : Bound a.to ≡ Bound b.to =
    sym a.bound ∙ ap₂ (λ (i v : ℕ). (input_at s.config s.inputs i v).binding) same vc ∙ b.bound in
    let to : a.to ≡ b.to = cc in
    (sym a.here ∙ ap (λ (t : OutVc). t.output) to ∙ b.here, vc)
