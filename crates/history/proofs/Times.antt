-- What follows from the link: the times and limits of 01 and the output credits, of the router that steps. Each is crates/model's law of
-- every run, carried over to the history that is alike.
-- Assumes nothing.
use mathlib.Core.Path.{◌≡◌, sym, ap, ap₂, subst, subst₂, ◌∙◌}
use mathlib.Core.Bool.{Bool, cond}
use mathlib.Core.List.{List, [], ◌∷◌, ◌++◌, map}
use Rattle.std.specs.Prelude.{None}
use Prim.Native.Nat.{ℕ, suc, ◌+◌, ◌≤◌, ◌<◌}
use native.Mathlib.Omega.{arith}
use lib.ListN.{length}
use Rattle.base.specs.declared.config.Config.{Config}
use Rattle.base.specs.declared.flit.Flit.{Flit}
use Rattle.base.specs.Sizes.{illegal_field}
use Rattle.model.specs.Channel.{queue_now}
use Rattle.model.specs.Alike.{Alike}
use Rattle.model.specs.History.{Departure, History, Numbered, up_to, left_on}
use Rattle.model.specs.Limits.{OncePerPort, credits_on}
use Rattle.model.specs.Line.{out}
use Rattle.model.specs.Lists.{All}
use Rattle.model.specs.Router.{OutVc}
use Rattle.model.specs.Run.{Run}
use Rattle.model.specs.Sizes.{Delayed}
use Rattle.model.specs.Times.{Later, accepted_in, left_in, reached_in}
use Rattle.model.proofs.Alike.{length_alike, up_to_alike, left_on_alike, credits_alike, accepted_in_alike, left_in_alike}
use Rattle.model.proofs.Alike.{reached_in_alike, once_alike}
use Rattle.model.proofs.Demand3.{demand3_at}
use Rattle.model.proofs.Depth as depth
use Rattle.model.proofs.Limits as limits
use Rattle.model.proofs.OutCredits as credits
use Rattle.model.proofs.Times as times
use Rattle.state.specs.Channels.{ChannelView, is_there, out_credit_of}
use Rattle.state.specs.Views.{output_at, wire_of}
use Rattle.trace.specs.Bytes.{AreBytes}
use Rattle.rules.specs.Free.{look, sizes_of, channel_of, free_of}
use Rattle.rules.proofs.ChosenViews.{is_there-law, view_there}
use Rattle.history.specs.Demand3.{queue}
use Rattle.history.specs.Run.{run_of}
use Rattle.history.proofs.RunIs.{legal_delayed, run_runs, run_is}

module _ (c : Config) (legal : illegal_field c ≡ None) (parts : List (List ℕ)) (bytes : All AreBytes parts) where
  -- the free router's history and run, and the run's own history, which is alike
  abbrev by_input : History Flit
  by_input = (run_is c legal parts bytes).0

  abbrev ran : Run look (sizes_of c) (free_of (run_of c parts).router) by_input
  ran = (run_is c legal parts bytes).1

  abbrev told : History Flit
  told = (run_of c parts).history

  abbrev alike : Alike by_input told
  alike = (run_is c legal parts bytes).2

  delayed : Delayed (sizes_of c)
  delayed = legal_delayed c legal

  -- "a flit accepted in cycle t leaves in t+F at the earliest"
  pub leaves_after_f : (i v : ℕ) → Later c.forward (accepted_in i v (run_of c parts).history) (left_in i v (run_of c parts).history)
  leaves_after_f i v =
      subst₂ (Later c.forward) (accepted_in_alike by_input told alike i v) (left_in_alike by_input told alike i v)
      (times.leaves_after_f look (sizes_of c) delayed i v ran)

  -- "and its credit serves again in t+F+B"
  pub serves_after_f_and_b : (i v : ℕ)
      → Later (c.forward + c.back) (accepted_in i v (run_of c parts).history) (reached_in i v (run_of c parts).history)
  serves_after_f_and_b i v =
      subst₂ (Later (c.forward + c.back)) (accepted_in_alike by_input told alike i v) (reached_in_alike by_input told alike i v)
      (times.serves_after_f_and_b look (sizes_of c) delayed i v ran)

  -- "Credits that left an input B cycles ago reach its sender": after accepted cycle t, a VC's credits have reached its sender in the
  -- cycles in which its flits left up to t−B, each B later
  pub reaches_after_b : (i v t : ℕ) → length (run_of c parts).history ≡ suc t
      → reached_in i v (run_of c parts).history ≡ map (λ (a : ℕ). a + c.back) (left_in i v (up_to t c.back (run_of c parts).history))
  reaches_after_b i v t count =
      sym (reached_in_alike by_input told alike i v)
      ∙ go by_input (demand3_at look (sizes_of c) delayed ran t (length_alike by_input told alike ∙ count)).cycles ran
      ∙ ap (map (λ (a : ℕ). a + c.back))
      (left_in_alike (up_to t c.back by_input) (up_to t c.back told) (up_to_alike t c.back by_input told alike) i v)
    where
      go : (h : History Flit) → Numbered (suc t) h → Run look (sizes_of c) (free_of (run_of c parts).router) h
          → reached_in i v h ≡ map (λ (a : ℕ). a + c.back) (left_in i v (up_to t c.back h))
      go [] n run = absurd (omega (arith, n))
      go (now ∷ h) n run =
          let last : now.cycle ≡ t = omega (arith, n.0) in
          subst (λ (k : ℕ). reached_in i v (now ∷ h) ≡ map (λ (a : ℕ). a + c.back) (left_in i v (up_to k c.back (now ∷ h)))) last
          (times.reaches_after_b look (sizes_of c) delayed i v run)

  -- "A queue can't overflow": not even with the flit that joins it in the next cycle
  pub queue_fits : (i v : ℕ) → i < c.ports → v < c.vcs
      → length (queue c (run_of c parts).router i v ++ out [] (wire_of c (run_of c parts).router.wire i v)) ≤ c.depth
  unfolding free_of
  queue_fits i v =
      let s = (run_of c parts).router in
      subst (λ (d : Config). i < d.ports → v < d.vcs → length (queue d s i v ++ out [] (wire_of d s.wire i v)) ≤ c.depth)
      (run_runs c legal parts bytes).config (λ port vc.
      subst (λ (ch : ChannelView). length (queue_now (channel_of ch)) ≤ c.depth) (view_there s i v port vc)
      (depth.queue_fits look (sizes_of c) delayed ran i v))

  -- "at most one flit per input and per output": in every accepted cycle
  pub once_per_port : All OncePerPort (run_of c parts).history
  once_per_port = once_alike by_input told alike (limits.once_per_port look (sizes_of c) ran)

  -- what left on an output VC is as far ahead of the credits that came back for it as its credit is below E
  pub output_credits-law : (o w : ℕ) → o < c.ports → w < c.vcs
      → (output_at c (run_of c parts).router.outputs o w).credit + length (left_on o w (run_of c parts).history)
      ≡ c.downstream + length (credits_on o w (run_of c parts).history)
  unfolding free_of out_credit_of
  output_credits-law o w port vc =
      let s = (run_of c parts).router in
      let seen : (output_at c s.outputs o w).credit ≡ out_credit_of s o w =
      ap (λ (t : Bool). cond t (output_at c s.outputs o w).credit c.downstream) (sym (is_there-law c o w port vc))
      ∙ ap (λ (d : Config). cond (is_there d o w) (output_at d s.outputs o w).credit d.downstream)
      (sym (run_runs c legal parts bytes).config) in
      ap₂ (λ (n : ℕ) (l : List (Departure Flit)). n + length l) seen (sym (left_on_alike by_input told alike o w))
      ∙ (credits.output_credits-law look (sizes_of c) delayed ran o w).sum
      ∙ ap (λ (l : List OutVc). c.downstream + length l) (credits_alike by_input told alike o w)
