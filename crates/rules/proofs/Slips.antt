-- "Slips the work has to exclude" (01), each a theorem about an accepted cycle, of its router and its reply. That a refused cycle has moved
-- nothing is `refused_leaves` of Exactness.
-- Assumes nothing.
use Rattle.std.specs.Prelude.{None, Ok}
use mathlib.Core.Path.{◌≡◌, refl, sym, ap, ◌∙◌}
use mathlib.Core.Logic.{◌⊎◌, inl, inr, ◌↔◌}
use mathlib.Core.Bool.{true, false, true≢false}
use mathlib.Core.List.{List}
use Rattle.std.specs.Prelude.{Some}
use Prim.Native.Nat.{ℕ, zero, suc, ◌+◌, ◌-◌, ◌<◌}
use native.Mathlib.Omega.{arith}
use lib.Dec.{eqb}
use lib.ListN.{get_or}
use Rattle.base.specs.declared.config.Config.{Config}
use Rattle.base.specs.declared.reply.Departure.{Departure}
use Rattle.base.specs.Flit.{kind_of, destination_of, starts_kind, ends_kind}
use Rattle.base.proofs.Search.{both}
use Rattle.state.specs.declared.InVc.{InVc}
use Rattle.state.specs.declared.Binding.TheVariants.{Bound}
use Rattle.state.specs.declared.InputVc.{InputVc}
use Rattle.state.specs.declared.OutputVc.{OutputVc}
use Rattle.state.specs.declared.Router.{Router}
use Rattle.state.specs.Fresh.{fresh_input, fresh_output}
use Rattle.state.specs.Sound.{Sound, front_is_for}
use Rattle.store.specs.Store.{first_slot}
use Rattle.state.specs.Views.{channel_number, input_at, output_at, home_place, queue_at, queue_of}
use Rattle.trace.specs.Bytes.{AreBytes}
use Rattle.rules.specs.declared.Stepped.{Stepped}
use Rattle.rules.specs.Allocation.{Grant, grant_of, allocated}
use Rattle.rules.specs.Departures.{leaving_of}
use Rattle.rules.specs.Intake.{credits_reached, credits_returned, landed, offers_taken}
use Rattle.rules.specs.Step.{taken_in, sent_out, router_after, step_by, step_of}
use Rattle.rules.proofs.Acts.{Actor, Untouched, touched_or_not}
use Rattle.rules.proofs.Advance.{advanced_place}
use Rattle.rules.proofs.AllocatedNames.{bound_at}
use Rattle.rules.proofs.Bound.{asking, giving, granted_or_not, given_or_not, ungranted_stays, ungiven_stays}
use Rattle.rules.proofs.Exits.{Exit, exit, exit_is, exits_differ}
use Rattle.rules.proofs.Facts.{sound_legal}
use Rattle.rules.proofs.Grants.{grant_is}
use Rattle.rules.proofs.IntakeViews as intake
use Rattle.rules.proofs.Left.{ends}
use Rattle.rules.proofs.LeftHome.{Sends, from_input, newest_sent, newest_stays, older_stays}
use Rattle.rules.proofs.LeftNames.{Leaves, Passes, Holds, exit_named, holder_after, frees, stays_held}
use Rattle.rules.proofs.LeftPackets.{exit_front}
use Rattle.rules.proofs.Naming.{nobody_not}
use Rattle.rules.proofs.Accepted.{readied, accepted_none, accepted_before, accepted_steps, taken_sound, readied_newest}
use Rattle.rules.proofs.Departed.{LeavesBy, LeftFrom, report_of, same_flit, mid_sound, reported_exits, exits_reported}

module _ (s : Router) (part : List ℕ) (bytes : AreBytes part) (accepted : (step_of s part).verdict ≡ Ok tt) where
  abbrev c : Config
  c = s.config

  -- the router before phase 6
  abbrev mid : Router
  mid = readied part s

  sound : Sound mid
  sound = mid_sound s part bytes accepted

  -- of the router and the reply, what is seen of an accepted cycle
  seen : {B : Type 0} (see : Stepped → B) → see (step_of s part) ≡ see (step_by (Ok tt) part s)
  seen see = ap see (accepted_steps s part bytes accepted)

  -- "A credit sent home when the flit is queued instead of when it leaves": the newest place of input i is 1 + VC exactly if the reply
  -- reports a departure from that VC
  pub credit_from_departure : (i v : ℕ) → i < c.ports
      → (home_place (step_of s part).router.home (c.back - 1) i ≡ v + 1) ↔ LeftFrom (step_of s part).reply i v
  unfolding router_after sent_out allocated taken_in offers_taken landed credits_returned credits_reached
  credit_from_departure i v h = (λ q. go q (touched_or_not (exit mid) from_input c.ports i), back)
    where
      go : home_place (step_of s part).router.home (c.back - 1) i ≡ v + 1
          → Sends mid sound i ⊎ Untouched (exit mid) from_input c.ports i → LeftFrom (step_of s part).reply i v
      go q (inl a) =
          let sent : a.deed.vc + 1 ≡ v + 1 =
          sym (newest_sent mid sound i a) ∙ sym (seen (λ (x : Stepped). home_place x.router.home (c.back - 1) i)) ∙ q in
          record {
            output = a.port;
            departure = report_of a.deed;
            leaves = exits_reported s part bytes accepted a.port a.deed a.below a.acts;
            input = a.there;
            vc = omega arith;
          }
      go q (inr off) =
          let few = (sound_legal s (accepted_before s part bytes accepted)).ports.1 in
          let none : v + 1 ≡ 0 =
          sym q ∙ seen (λ (x : Stepped). home_place x.router.home (c.back - 1) i) ∙ newest_stays mid sound i (omega arith) off
          ∙ readied_newest s part bytes accepted i h in
          absurd (omega arith)

      back : LeftFrom (step_of s part).reply i v → home_place (step_of s part).router.home (c.back - 1) i ≡ v + 1
      back l =
          let a = reported_exits s part bytes accepted l.output l.departure l.leaves in
          let below = (exit_named mid sound l.output a.0 a.1).0 in
          seen (λ (x : Stepped). home_place x.router.home (c.back - 1) i)
          ∙ newest_sent mid sound i (record {
            port = l.output;
            deed = a.0;
            below = below;
            acts = a.1;
            there = ap (λ (x : Departure). x.input) a.2 ∙ l.input;
          })
          ∙ ap (λ (n : ℕ). n + 1) (ap (λ (x : Departure). x.vc) a.2 ∙ l.vc)

  -- else it is empty
  pub no_departure_no_credit : (i : ℕ) → i < c.ports → ((v : ℕ) → LeftFrom (step_of s part).reply i v → ⊥)
      → home_place (step_of s part).router.home (c.back - 1) i ≡ 0
  no_departure_no_credit i h none = go (home_place (step_of s part).router.home (c.back - 1) i) refl
    where
      go : (n : ℕ) → home_place (step_of s part).router.home (c.back - 1) i ≡ n → n ≡ 0
      go zero q = refl
      go (suc v) q = let e : suc v ≡ v + 1 = omega arith in absurd (none v ((credit_from_departure i v h).0 (q ∙ e)))

  -- and the older places are the line of before, one place on
  pub older_credits_move_on : (k i : ℕ) → i < c.ports → suc k < c.back
      → home_place (step_of s part).router.home k i ≡ home_place s.home (suc k) i
  unfolding router_after sent_out allocated taken_in offers_taken landed credits_returned credits_reached
  older_credits_move_on k i h l =
      let few = (sound_legal s (accepted_before s part bytes accepted)).ports.1 in
      seen (λ (x : Stepped). home_place x.router.home k i) ∙ older_stays mid sound k i (omega arith) (λ e. omega arith)
      ∙ advanced_place s.home k i

  -- phases 1 to 4 change neither bindings nor holders
  holder_before : (x : ℕ) → (get_or (taken_in part s).outputs x (fresh_output 0)).holder ≡ (get_or s.outputs x (fresh_output 0)).holder
  holder_before = intake.holder_after s part (accepted_before s part bytes accepted) (accepted_none s part bytes accepted) bytes

  binding_before : (x : ℕ) → (get_or (taken_in part s).inputs x (fresh_input 0)).binding ≡ (get_or s.inputs x (fresh_input 0)).binding
  binding_before = intake.binding_after s part (accepted_before s part bytes accepted) (accepted_none s part bytes accepted) bytes

  -- "An output VC freed by the tail and given out in the same cycle": what output o grants in a cycle was free before it
  pub granted_was_free : (o : ℕ) (g : Grant) → grant_of (taken_in part s) o ≡ Some g → (output_at c s.outputs o g.vc).holder ≡ None
  unfolding taken_in offers_taken landed credits_returned credits_reached
  granted_was_free o g q = sym (holder_before (channel_number c o g.vc)) ∙ (grant_is (taken_in part s) o g q).free

  -- so an output VC that is held after a cycle was held by the same input VC before it, or free
  pub given_out_was_free : (o w : ℕ) (h : InVc) → (output_at c (step_of s part).router.outputs o w).holder ≡ Some h
      → ((output_at c s.outputs o w).holder ≡ Some h) ⊎ ((output_at c s.outputs o w).holder ≡ None)
  unfolding router_after sent_out allocated taken_in offers_taken landed credits_returned credits_reached
  given_out_was_free o w h q = go (holder_after mid sound (channel_number c o w)) (given_or_not (taken_in part s) (channel_number c o w))
    where
      later : (output_at c (leaving_of mid).outputs o w).holder ≡ Some h
      later = sym (seen (λ (x : Stepped). (output_at c x.router.outputs o w).holder)) ∙ q

      go : Holds mid sound (channel_number c o w)
          → Actor (grant_of (taken_in part s)) (giving (taken_in part s)) c.ports (channel_number c o w)
          ⊎ Untouched (grant_of (taken_in part s)) (giving (taken_in part s)) c.ports (channel_number c o w)
          → ((output_at c s.outputs o w).holder ≡ Some h) ⊎ ((output_at c s.outputs o w).holder ≡ None)
      go (frees a e f) m = absurd (nobody_not (output_at c (leaving_of mid).outputs o w).holder h f later)
      go (stays_held e f) (inl a) =
          inr (ap (λ (x : ℕ). (get_or s.outputs x (fresh_output 0)).holder) (sym a.there)
          ∙ granted_was_free a.port a.deed a.acts)
      go (stays_held e f) (inr off) =
          inl (sym (holder_before (channel_number c o w)) ∙ sym (ap (λ (y : OutputVc). y.holder)
          (ungiven_stays (taken_in part s) (channel_number c o w) off))
          ∙ sym f ∙ later)

  -- and what T or S leaves by is free after it
  pub freed_not_granted : (o : ℕ) (d : Departure) → LeavesBy (step_of s part).reply o d → ends_kind d.kind ≡ true
      → (output_at c (step_of s part).router.outputs o d.out_vc).holder ≡ None
  unfolding router_after sent_out allocated taken_in offers_taken landed credits_returned credits_reached
  freed_not_granted o d l e =
      let a = reported_exits s part bytes accepted o d l in
      let below = (exit_named mid sound o a.0 a.1).0 in
      let over : ends a.0 ≡ true = ap (λ (x : Departure). ends_kind x.kind) a.2 ∙ e in
      let actor : Passes mid sound (channel_number c o a.0.by) = record
      { port = o; deed = a.0; below = below; acts = a.1; there = refl } in
      seen (λ (x : Stepped). (output_at c x.router.outputs o d.out_vc).holder)
      ∙ ap (λ (x : Departure). (output_at c (leaving_of mid).outputs o x.out_vc).holder) (sym a.2)
      ∙ go actor over (holder_after mid sound (channel_number c o a.0.by))
    where
      go : {x : ℕ} (a : Passes mid sound x) → ends a.deed ≡ true → Holds mid sound x
          → (get_or (leaving_of mid).outputs x (fresh_output 0)).holder ≡ None
      go a over (frees b q f) = f
      go a over (stays_held not_over f) = absurd (true≢false (sym over ∙ not_over a))

  -- "The body flit's zero destination used as a route": what is not H or S leaves by the output, and the VC of it, that its input VC was
  -- bound to before the cycle
  pub body_follows_head : (o : ℕ) (d : Departure) → LeavesBy (step_of s part).reply o d → starts_kind d.kind ≡ false
      → (input_at c s.inputs d.input d.vc).binding ≡ Bound (record { output = o; vc = d.out_vc })
  unfolding allocated taken_in offers_taken landed credits_returned credits_reached
  body_follows_head o d l e =
      let a = reported_exits s part bytes accepted o d l in
      ap (λ (x : Departure). (input_at c s.inputs x.input x.vc).binding) (sym a.2)
      ∙ go a.0 a.1 (ap (λ (x : Departure). starts_kind x.kind) a.2 ∙ e)
      (granted_or_not (taken_in part s) (channel_number c a.0.input a.0.vc))
      ∙ ap (λ (x : Departure). Bound (record { output = o; vc = x.out_vc })) a.2
    where
      go : (x : Exit) → exit mid o ≡ Some x → starts_kind (kind_of x.flit) ≡ false
          → Actor (grant_of (taken_in part s)) (asking (taken_in part s)) c.ports (channel_number c x.input x.vc)
          ⊎ Untouched (grant_of (taken_in part s)) (asking (taken_in part s)) c.ports (channel_number c x.input x.vc)
          → (input_at c s.inputs x.input x.vc).binding ≡ Bound (record { output = o; vc = x.by })
      go x q starts (inl b) =
          let t = taken_in part s in
          let w = (exit_is mid o x q).wins in
          let below = (exit_named mid sound o x q).0 in
          let own : Leaves mid sound (channel_number c x.input x.vc) = record
          { port = o; deed = x; below = below; acts = q; there = refl } in
          let queue = queue_of c t.store x.input x.vc (input_at c t.inputs x.input x.vc).queued in
          let asked : front_is_for b.port queue ≡ true =
          ap (λ (n : ℕ). front_is_for b.port (queue_at t.store (first_slot n) (get_or t.inputs n (fresh_input 0)).queued))
          (sym b.there)
          ∙ (grant_is t b.port b.deed b.acts).front in
          let same = ap (λ (y : InputVc). queue_of c t.store x.input x.vc y.queued)
          (bound_at t (taken_sound s part bytes accepted) (channel_number c x.input x.vc) b) in
          let front = exit_front mid sound x.input x.vc w.input_below w.vc_below own in
          absurd (true≢false (sym (both (starts_kind (kind_of x.flit)) (eqb (destination_of x.flit) b.port)
          (ap (front_is_for b.port) (sym front ∙ same) ∙ asked)).0
          ∙ starts))
      go x q starts (inr off) =
          sym (binding_before (channel_number c x.input x.vc))
          ∙ sym (ap (λ (y : InputVc). y.binding) (ungranted_stays (taken_in part s) (channel_number c x.input
          x.vc) off))
          ∙ (exit_is mid o x q).bound

  -- "Switch allocation that lets two VCs of one input leave together": two departures from one input are one
  pub one_leaves_per_input : (o p : ℕ) (d e : Departure) → LeavesBy (step_of s part).reply o d → LeavesBy (step_of s part).reply p e
      → d.input ≡ e.input → (o ≡ p) × (d ≡ e)
  one_leaves_per_input o p d e l m same =
      let a = reported_exits s part bytes accepted o d l in
      let b = reported_exits s part bytes accepted p e m in
      let one : o ≡ p =
      exits_differ mid o p a.0 b.0 a.1 b.1 (ap (λ (x : Departure). x.input) a.2 ∙ same
      ∙ sym (ap (λ (x : Departure). x.input) b.2)) in (
        one,
        same_flit (get_or (step_of s part).reply.outputs p None) d e
            (ap (λ (n : ℕ). (get_or (step_of s part).reply.outputs n None)) (sym one) ∙ l) m,
      )
