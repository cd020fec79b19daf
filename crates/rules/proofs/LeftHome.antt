-- Phase 7 and the home line: each flit that leaves puts one credit into its newest place, which was empty, so that the credits of its
-- channel still add up.
-- Assumes nothing.
use mathlib.Core.Path.{◌≡◌, refl, sym, ap, ap₂, ◌∙◌}
use mathlib.Core.Logic.{◌≢◌, ◌⊎◌, inl, inr}
use mathlib.Core.Bool.{Bool, true, false, cond}
use Rattle.std.specs.Prelude.{Some}
use Prim.Native.Nat.{ℕ, zero, suc, ◌+◌, ◌-◌, ◌*◌, ◌≤◌, ◌<◌}
use native.Mathlib.Nat.{add-zero}
use native.Mathlib.Omega.{arith}
use lib.Dec.{eqb}
use lib.ListN.{length}
use borrow.Author.Tests.{eq-eqb, ne_eqb, eqb-true, eqb-false, le-leb}
use Rattle.base.specs.declared.config.Config.{Config}
use Rattle.base.proofs.Search.{all_every, one_less}
use Rattle.state.specs.declared.InputVc.{InputVc}
use Rattle.state.specs.declared.Router.{Router}
use Rattle.state.specs.Sound.{Sound, credits_add_up, home_legal, line_unused}
use Rattle.state.specs.Views.{channel_number, input_at, home_place, home_of, wire_of, flat, places, total, to_vc}
use Rattle.state.proofs.Places.{total_end}
use Rattle.rules.specs.Departures.{leaving_of}
use Rattle.rules.proofs.Acts.{Actor, Untouched, touched_or_not}
use Rattle.rules.proofs.Advance.{rest_at, at_rest}
use Rattle.rules.proofs.Channels.{channel_apart}
use Rattle.rules.proofs.Exits.{Exit, exit, exit_is}
use Rattle.rules.proofs.Facts.{credits_sum, sum_credits, sound_legal, sound_lengths, home_at}
use Rattle.rules.proofs.Left.{from_place, exit_sends_home, home_stays, others_stay}
use Rattle.rules.proofs.LeftNames.{Leaves, left_at}
use Rattle.rules.proofs.Lines.{places_ext}

-- a line that gets z credits into its newest place, which was empty
pub total_newest : (n : ℕ) (f g : ℕ → ℕ) (z : ℕ) → 1 ≤ n → ((k : ℕ) → suc k < n → g k ≡ f k) → ((k : ℕ) → suc k ≡ n → f k ≡ 0)
    → ((k : ℕ) → suc k ≡ n → g k ≡ z) → total (places n g) ≡ total (places n f) + z
unfolding places
total_newest zero f g z h same empty end = absurd (omega arith)
total_newest (suc n) f g z h same empty end =
    let a = total_end (places n g) (g n) in
    let b = total_end (places n f) (f n) in
    let d = ap total (places_ext n g f (λ k l. same k (omega arith))) in
    let x = empty n refl in
    let y = end n refl in
    omega arith

-- the input that a flit leaves
abbrev pub from_input : ℕ → Exit → ℕ
from_input o e = e.input

module _ (s : Router) (sound : Sound s) where
  abbrev c : Config
  c = s.config

  -- a flit leaves input i
  abbrev pub Sends : ℕ → Type 0
  Sends i = Actor (exit s) from_input c.ports i

  exit_below : (o : ℕ) (e : Exit) → exit s o ≡ Some e → e.input < c.ports
  exit_below o e q = (exit_is s o e q).wins.input_below

  -- the newest place of input i: 1 + the VC that a flit leaves
  pub newest_sent : (i : ℕ) (a : Sends i) → home_place (leaving_of s).home (c.back - 1) i ≡ a.deed.vc + 1
  newest_sent i a =
      let l = sound_legal s sound in
      let few = l.ports.1 in
      let near = l.back.1 in
      let long = (sound_lengths s sound).home in
      let b = exit_below a.port a.deed a.acts in
      ap (λ (j : ℕ). home_place (leaving_of s).home (c.back - 1) j) (sym a.there)
      ∙ exit_sends_home s a.port a.deed a.below a.acts (omega arith)

  -- as before, where no flit leaves input i
  pub newest_stays : (i : ℕ) → i < 8 → Untouched (exit s) from_input c.ports i
      → home_place (leaving_of s).home (c.back - 1) i ≡ home_place s.home (c.back - 1) i
  newest_stays i h off = home_stays s (8 * (c.back - 1) + i) (λ o e l q same. off o e l q (omega arith))

  -- and so are all other places
  pub older_stays : (k i : ℕ) → i < 8 → suc k ≢ c.back → home_place (leaving_of s).home k i ≡ home_place s.home k i
  older_stays k i h d =
      home_stays s (8 * k + i) (λ o e l q same.
      let few = (sound_legal s sound).ports.1 in
      let Some = (sound_legal s sound).back.0 in
      let b = exit_below o e q in
      d (omega arith))

  -- how the credit of a channel that a flit leaves counts
  pub sent_counts : (i v : ℕ) → i < c.ports → v < c.vcs → (a : Leaves s sound (channel_number c i v))
      → to_vc v (home_place (leaving_of s).home (c.back - 1) i) ≡ 1
  sent_counts i v h g a =
      let w = exit_is s a.port a.deed a.acts in
      let from = channel_apart c a.deed.input a.deed.vc i v w.wins.vc_below g a.there in
      ap (to_vc v) (newest_sent i (record { port = a.port; deed = a.deed; below = a.below; acts = a.acts; there = from.0 }))
      ∙ ap (λ (b : Bool). cond b 1 0) (eq-eqb (a.deed.vc + 1) (v + 1) (ap (λ (n : ℕ). n + 1) from.1))

  module _ (empty : (i : ℕ) → i < c.ports → home_place s.home (c.back - 1) i ≡ 0) where
    pub unsent_counts : (i v : ℕ) → i < c.ports → v < c.vcs → Untouched (exit s) (from_place s) c.ports (channel_number c i v)
        → to_vc v (home_place (leaving_of s).home (c.back - 1) i) ≡ 0
    unsent_counts i v h g off = go (touched_or_not (exit s) from_input c.ports i)
      where
        go : Sends i ⊎ Untouched (exit s) from_input c.ports i → to_vc v (home_place (leaving_of s).home (c.back - 1) i) ≡ 0
        go (inl a) =
            ap (to_vc v) (newest_sent i a)
            ∙ ap (λ (b : Bool). cond b 1 0)
            (ne_eqb (a.deed.vc + 1) (v + 1) (λ e. off a.port a.deed a.below a.acts
            (ap₂ (channel_number c) a.there (omega arith))))
        go (inr none) =
            let few = (sound_legal s sound).ports.1 in
            ap (to_vc v) (newest_stays i (omega arith) none ∙ empty i h)
            ∙ ap (λ (b : Bool). cond b 1 0) (ne_eqb 0 (v + 1) (λ e. omega arith))

    -- the credits on their way home: the newest place's more
    home_more : (i v : ℕ) → i < c.ports
        → total (home_of c (leaving_of s).home i v) ≡ total (home_of c s.home i v) + to_vc v (home_place (leaving_of s).home (c.back - 1) i)
    unfolding home_of
    home_more i v h =
        let few = (sound_legal s sound).ports.1 in
        total_newest c.back (λ (k : ℕ). to_vc v (home_place s.home k i)) (λ (k : ℕ). to_vc v (home_place (leaving_of s).home k i))
        (to_vc v (home_place (leaving_of s).home (c.back - 1) i)) (sound_legal s sound).back.0
        (λ k l. ap (to_vc v) (older_stays k i (omega arith) (λ e. omega arith)))
        (λ k e. let last : k ≡ c.back - 1 = omega arith in
        ap (λ (k : ℕ). to_vc v (home_place s.home k i)) last ∙ ap (to_vc v) (empty i h)
        ∙ ap (λ (b : Bool). cond b 1 0) (ne_eqb 0 (v + 1) (λ e. omega arith)))
        (λ k e. let last : k ≡ c.back - 1 = omega arith in ap (λ (k : ℕ). to_vc v (home_place (leaving_of s).home k i)) last)

    -- "sender credit + wire + queue + credits going home = D": one from the queue to the line home
    pub left_credits : credits_add_up c (leaving_of s).inputs s.wire (leaving_of s).home ≡ true
    left_credits =
        sum_credits c (leaving_of s).inputs s.wire (leaving_of s).home (λ i v h g.
        go i v h g (touched_or_not (exit s) (from_place s) c.ports (channel_number c i v)))
      where
        sum : (credit wire queued home credit' queued' home' z depth : ℕ) → credit + wire + queued + home ≡ depth → credit' ≡ credit
            → queued' + z ≡ queued → home' ≡ home + z → credit' + wire + queued' + home' ≡ depth
        sum credit wire queued home credit' queued' home' z depth e f g h = omega arith

        go : (i v : ℕ) → i < c.ports → v < c.vcs → Leaves s sound (channel_number c i v) ⊎ Untouched (exit s) (from_place s) c.ports
            (channel_number c i v)
            → (input_at c (leaving_of s).inputs i v).credit + length (flat (wire_of c s.wire i v)) + (input_at c
            (leaving_of s).inputs i v).queued
            + total (home_of c (leaving_of s).home i v)
            ≡ c.depth
        go i v h g (inl a) =
            let w = exit_is s a.port a.deed a.acts in
            let from = channel_apart c a.deed.input a.deed.vc i v w.wins.vc_below g a.there in
            let some-queued : (input_at c s.inputs i v).queued ≢ 0 =
            λ z. w.wins.queued (ap₂ (λ (i v : ℕ). (input_at c s.inputs i v).queued) from.0 from.1 ∙ z) in
            sum (input_at c s.inputs i v).credit (length (flat (wire_of c s.wire i v))) (input_at c s.inputs i v).queued
            (total (home_of c s.home i v)) (input_at c (leaving_of s).inputs i v).credit (input_at c (leaving_of s).inputs i v).queued
            (total (home_of c (leaving_of s).home i v)) 1 c.depth
            (credits_sum c s.inputs s.wire s.home sound.flow.credits i v h g)
            (ap (λ (y : InputVc). y.credit) (left_at s sound (channel_number c i v) a))
            (ap (λ (y : InputVc). y.queued + 1) (left_at s sound (channel_number c i v) a)
            ∙ one_less (input_at c s.inputs i v).queued some-queued)
            (home_more i v h ∙ ap (λ (z : ℕ). total (home_of c s.home i v) + z) (sent_counts i v h g a))
        go i v h g (inr off) =
            sum (input_at c s.inputs i v).credit (length (flat (wire_of c s.wire i v))) (input_at c s.inputs i v).queued
            (total (home_of c s.home i v)) (input_at c (leaving_of s).inputs i v).credit (input_at c (leaving_of s).inputs i v).queued
            (total (home_of c (leaving_of s).home i v)) 0 c.depth
            (credits_sum c s.inputs s.wire s.home sound.flow.credits i v h g)
            (ap (λ (y : InputVc). y.credit) (others_stay s (channel_number c i v) off))
            (ap (λ (y : InputVc). y.queued + 0) (others_stay s (channel_number c i v) off) ∙ add-zero (input_at c s.inputs i v).queued)
            (home_more i v h ∙ ap (λ (z : ℕ). total (home_of c s.home i v) + z) (unsent_counts i v h g off))

  -- "home places are empty or legal"
  pub left_home : home_legal c (leaving_of s).home ≡ true
  unfolding home_legal
  left_home =
      all_every c.back _ (λ k h. all_every c.ports _ (λ i g. le-leb (home_place (leaving_of s).home k i) c.vcs
      (go k i h g (eqb (suc k) c.back) refl (touched_or_not (exit s) from_input c.ports i))))
    where
      go : (k i : ℕ) → k < c.back → i < c.ports → (b : Bool) → eqb (suc k) c.back ≡ b
          → Sends i ⊎ Untouched (exit s) from_input c.ports i
          → home_place (leaving_of s).home k i ≤ c.vcs
      go k i h g true e (inl a) =
          let q = eqb-true (suc k) c.back e in
          let last : k ≡ c.back - 1 = omega arith in
          let sent : home_place (leaving_of s).home k i ≡ a.deed.vc + 1 = ap (λ (k : ℕ). home_place (leaving_of s).home k i) last
          ∙ newest_sent i a in
          let below = (exit_is s a.port a.deed a.acts).wins.vc_below in
          omega arith
      go k i h g true e (inr off) =
          let q = eqb-true (suc k) c.back e in
          let last : k ≡ c.back - 1 = omega arith in
          let few = (sound_legal s sound).ports.1 in
          let kept : home_place (leaving_of s).home k i ≡ home_place s.home k i =
          ap (λ (k : ℕ). home_place (leaving_of s).home k i) last ∙ newest_stays i (omega arith) off
          ∙ ap (λ (k : ℕ). home_place s.home k i) (sym last) in
          let legal = home_at s sound k i h g in
          omega arith
      go k i h g false e m =
          let few = (sound_legal s sound).ports.1 in
          let kept = older_stays k i (omega arith) (eqb-false (suc k) c.back e) in
          let legal = home_at s sound k i h g in
          omega arith

  -- places not in use stay empty
  pub left_home_rest : line_unused c.back c.ports (leaving_of s).home ≡ true
  left_home_rest =
      at_rest c.back c.ports (leaving_of s).home (λ k i h g out.
      home_stays s (8 * k + i) (λ o e l q same. beyond k i g out e.input (exit_below o e q) same)
      ∙ rest_at c.back c.ports s.home sound.sizes.home_rest (sound_lengths s sound).home k i g out)
    where
      beyond : (k i : ℕ) → i < 8 → (c.back ≤ k) ⊎ (c.ports ≤ i) → (j : ℕ) → j < c.ports → 8 * (c.back - 1) + j ≡ 8 * k + i → ⊥
      beyond k i g (inl out) j below same =
          let few = (sound_legal s sound).ports.1 in
          let Some = (sound_legal s sound).back.0 in
          omega arith
      beyond k i g (inr out) j below same =
          let few = (sound_legal s sound).ports.1 in
          omega arith
