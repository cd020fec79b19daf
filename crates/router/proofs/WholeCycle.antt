-- An accepted cycle, from what each of its calls promises.
-- Assumes nothing.
use Rattle.std.specs.Prelude.{Option, None}
use Rattle.arbiter.specs.declared.Arbiter.{Arbiter}
use mathlib.Core.Path.{◌≡◌, refl, ap, ◌∙◌}
use mathlib.Core.Bool.{Bool}
use mathlib.Core.List.{List, []}
use Prim.Native.Nat.{ℕ, ◌+◌, ◌*◌, ◌<◌, ◌≤◌}
use lib.ListN.{get_or, replicate}
use Rattle.base.specs.declared.config.Config.{Config}
use Rattle.base.specs.declared.reply.Departure.{Departure}
use Rattle.base.specs.Bits.{bit, word_of}
use Rattle.arbiter.specs.Arbiter.{choice}
use Rattle.state.specs.declared.InputVc.{InputVc}
use Rattle.state.specs.declared.OutputVc.{OutputVc}
use Rattle.state.specs.declared.Router.{Router}
use Rattle.state.specs.Fresh.{fresh_input, past_arbiter}
use Rattle.state.specs.Views.{places}
use Rattle.rules.specs.Intake.{advanced, outputs_paid, Queues, landings, Senders, offers, credits_returned, landed, offers_taken}
use Rattle.rules.specs.Allocation.{asks, lowest_free_vc, granted, Vcs, bindings, requester_of, arbiters_moved, is_ready, picked, vc_of}
use Rattle.rules.specs.Allocation.{allocated}
use Rattle.rules.specs.Departures.{Leaving, departures, leaving_of}
use Rattle.rules.specs.Step.{sent_out}
use Rattle.router.specs.declared.parts.Parts.{Parts}
use Rattle.router.specs.declared.allocation.Granted.{Granted}
use Rattle.router.specs.Grants.{grant_at}
use Rattle.router.specs.Picks.{pick_in, asks_in}
use Rattle.router.specs.Whole.{router_of, bound_of}
use Rattle.router.proofs.Agreeing.{grants_agree, picks_agree, table_agrees, rows_agree, winners_agree}
use Rattle.router.proofs.Choosing.{input_choice}
use Rattle.router.proofs.Phases.{taken_in, allocated_is, sent_out-law}
use Rattle.router.proofs.Resting.{no_picks, picks_rest, rows_rest, arbiters_rest, nothing_leaves}

-- phases 2 to 5
module _ (c : Config) (few : c.ports ≤ 8) (p : Parts) (part store wire home : List ℕ)
    (outputs₂ : List OutputVc) (inputs₃ inputs₄ : List InputVc) (home₁ store₃ wire₃ wire₄ : List ℕ)
    (sets : List ℕ) (made : List (Option Granted)) (inputs₅ : List InputVc) (outputs₅ : List OutputVc) (vcs : List (Arbiter 32))
    (eh : home₁ ≡ advanced home)
    (e2 : outputs₂ ≡ outputs_paid c part p.outputs)
    (e3 : ◌≡◌ {A = Queues} (record { inputs = inputs₃; store = store₃ }) (landings c wire (record { inputs = p.inputs; store = store })))
    (ew : wire₃ ≡ advanced wire)
    (e4 : ◌≡◌ {A = Senders} (record { inputs = inputs₄; wire = wire₄ }) (offers c part (record { inputs = inputs₃; wire = wire₃ })))
    (ea : sets ≡ places 8 (λ (o : ℕ). word_of (asks inputs₄ store₃ o) (c.ports * c.vcs)))
    (eg : (o : ℕ) → o < c.ports → grant_at made o ≡ granted (lowest_free_vc c outputs₂ o)
    (choice 32 c.arbiter (c.ports * c.vcs) (bit (get_or sets o 0)) (get_or p.vcs o past_arbiter)))
    (eb : ◌≡◌ {A = Vcs} (record { inputs = inputs₅; outputs = outputs₅ })
    (bindings c (grant_at made) (record { inputs = inputs₄; outputs = outputs₂ })))
    (em : vcs ≡ arbiters_moved 32 c (c.ports * c.vcs) (λ (o : ℕ). requester_of (grant_at made o)) p.vcs) (n : ℕ) where
  abbrev fourth : Router
  fourth = router_of c n (record { inputs = inputs₄; outputs = outputs₂; vcs = p.vcs; ins = p.ins; outs = p.outs }) store₃ wire₄ home₁

  fourth_is : fourth ≡ offers_taken part (landed (credits_returned part (router_of c n p store wire (advanced home))))
  fourth_is = rw eh (taken_in (router_of c n p store wire (advanced home)) part outputs₂ inputs₃ store₃ wire₃ inputs₄ wire₄ e2 e3 ew e4)

  pub fifth_is : router_of c n (record { inputs = inputs₅; outputs = outputs₅; vcs = vcs; ins = p.ins; outs = p.outs }) store₃ wire₄ home₁
      ≡ bound_of c n p store wire home part
  fifth_is =
      allocated_is fourth (grant_at made) inputs₅ outputs₅ vcs (grants_agree fourth few sets ea made eg) eb em ∙ ap allocated fourth_is

-- phases 6 and 7, of a router s after phase 5
module _ (c : Config) (few : c.ports ≤ 8) (n : ℕ) (inputs : List InputVc) (outputs : List OutputVc) (vcs : List (Arbiter 32))
    (ins₀ outs₀ : List (Arbiter 8)) (store wire home : List ℕ) (s : Router) (set : ℕ)
    (es : router_of c n (record { inputs = inputs; outputs = outputs; vcs = vcs; ins = ins₀; outs = outs₀ }) store wire home ≡ s)
    (er : set ≡ word_of (λ (x : ℕ). is_ready c outputs (get_or inputs x (fresh_input 0))) (c.ports * c.vcs)) where
  abbrev fifth : Router
  fifth = router_of c n (record { inputs = inputs; outputs = outputs; vcs = vcs; ins = ins₀; outs = outs₀ }) store wire home

  module _ (picks rows : List (Option ℕ)) (table : List (List Bool)) (ins outs : List (Arbiter 8))
      (inputs₇ : List InputVc) (outputs₇ : List OutputVc) (store₇ home₇ : List ℕ) (left : List (Option Departure))
      (ep : (i : ℕ) → i < c.ports → pick_in picks i ≡ input_choice c set ins₀ i)
      (et : (i o : ℕ) → i < c.ports → o < 8 → asks_in table i o ≡ picked c inputs i o (pick_in picks i))
      (eo : (o : ℕ) → o < c.ports → pick_in rows o ≡ choice 8 c.arbiter c.ports (λ (i : ℕ). asks_in table i o)
      (get_or outs₀ o past_arbiter))
      (ei : ins ≡ arbiters_moved 8 c c.vcs (pick_in picks) ins₀)
      (eu : outs ≡ arbiters_moved 8 c c.ports (pick_in rows) outs₀)
      (el : ◌≡◌ {A = Leaving} (record { inputs = inputs₇; outputs = outputs₇; store = store₇; home = home₇; left = left })
      (departures c (λ (o : ℕ). vc_of (pick_in picks) (pick_in rows o))
      (record { inputs = inputs; outputs = outputs; store = store; home = home; left = replicate 8 None }))) where
    sent : (router_of c (n + 1) (record { inputs = inputs₇; outputs = outputs₇; vcs = vcs; ins = ins; outs = outs }) store₇ wire home₇
        ≡ sent_out fifth) × (left ≡ (leaving_of fifth).left)
    sent =
        let agree = picks_agree fifth few set er picks ep in
        let asked = table_agrees fifth few picks agree table et in
        let rowed = rows_agree fifth few picks agree table asked rows eo in
        sent_out-law fifth (pick_in picks) (pick_in rows) (λ (o : ℕ). vc_of (pick_in picks) (pick_in rows o)) _ ins outs agree rowed
        (winners_agree fifth few picks agree rows rowed) el ei eu

    pub sent_is : (router_of c (n + 1) (record { inputs = inputs₇; outputs = outputs₇; vcs = vcs; ins = ins; outs = outs }) store₇ wire home₇
        ≡ sent_out s) × (left ≡ (leaving_of s).left)
    sent_is = (sent.0 ∙ ap sent_out es, sent.1 ∙ ap (λ (t : Router). (leaving_of t).left) es)

  -- nobody is ready: both change nothing
  pub sent_resting : set ≡ 0
      → (router_of c (n + 1) (record { inputs = inputs; outputs = outputs; vcs = vcs; ins = ins₀; outs = outs₀ }) store wire home ≡ sent_out s)
      × (replicate 8 None ≡ (leaving_of s).left)
  sent_resting rest =
      sent_is no_picks no_picks [] ins₀ outs₀ inputs outputs store home (replicate 8 None) (λ i h. picks_rest c set ins₀ rest i)
      (λ i o h g. refl) (λ o h. rows_rest c outs₀ o) (arbiters_rest c c.vcs ins₀) (arbiters_rest c c.ports outs₀) (nothing_leaves c _)
