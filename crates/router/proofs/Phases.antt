-- A whole cycle from its phases: each law takes what the phase's function promises and gives the router of the rules.
-- Assumes nothing.
use Rattle.std.specs.Prelude.{None}
use Rattle.arbiter.specs.declared.Arbiter.{Arbiter}
use mathlib.Core.Path.{◌≡◌, ap, ◌∙◌}
use mathlib.Core.List.{List}
use Rattle.std.specs.Prelude.{Option}
use Prim.Native.Nat.{ℕ, ◌+◌, ◌*◌, ◌<◌}
use lib.ListN.{replicate}
use Rattle.base.specs.declared.config.Config.{Config}
use Rattle.state.specs.declared.InVc.{InVc}
use Rattle.state.specs.declared.InputVc.{InputVc}
use Rattle.state.specs.declared.OutputVc.{OutputVc}
use Rattle.state.specs.declared.Router.{Router}
use Rattle.state.specs.Setters.{with_cycle, with_inputs, with_outputs, with_store, with_wire, with_home, with_arbiters, with_vc_arbiters}
use Rattle.state.specs.Setters.{with_input_arbiters, with_output_arbiters}
use Rattle.rules.specs.Intake.{advanced, outputs_paid, Queues, landings, Senders, offers, credits_returned, landed, offers_taken}
use Rattle.rules.specs.Allocation.{Grant, grant_of, requester_of, Vcs, bindings, bound_by, arbiters_moved, allocated, input_pick}
use Rattle.rules.specs.Allocation.{output_pick, switched, winner}
use Rattle.rules.specs.Departures.{Leaving, departures, leaves_by, leaving_of}
use Rattle.rules.specs.Step.{sent_out}
use Rattle.rules.proofs.Folds.{over_same}

-- grants, picks and winners count only at the ports that there are
pub bindings_same : (c : Config) (f g : ℕ → Option Grant) (n : Vcs) → ((o : ℕ) → o < c.ports → f o ≡ g o) → bindings c f n
    ≡ bindings c g n
unfolding bindings
bindings_same c f g n e =
    over_same c.ports (λ n o. bound_by c o (f o) n) (λ n o. bound_by c o (g o) n) n
    (λ t o l. ap (λ (x : Option Grant). bound_by c o x t) (e o l))

pub moved_same : (places : ℕ) (c : Config) (n : ℕ) (f g : ℕ → Option ℕ) (a : List (Arbiter places)) → ((o : ℕ) → o < c.ports → f o ≡ g o)
    → arbiters_moved places c n f a ≡ arbiters_moved places c n g a
unfolding arbiters_moved
moved_same places c n f g a e = over_same c.ports _ _ a (λ t o l. rw (e o l))

pub departures_same : (c : Config) (f g : ℕ → Option InVc) (l : Leaving) → ((o : ℕ) → o < c.ports → f o ≡ g o)
    → departures c f l ≡ departures c g l
unfolding departures
departures_same c f g l e =
    over_same c.ports (λ l o. leaves_by c o (f o) l) (λ l o. leaves_by c o (g o) l) l
    (λ t o h. ap (λ (x : Option InVc). leaves_by c o x t) (e o h))

-- phases 2 to 4
pub taken_in : (s : Router) (part : List ℕ) (outputs : List OutputVc) (inputs₃ : List InputVc) (store wire₃ : List ℕ)
    (inputs : List InputVc)
    (wire : List ℕ) → outputs ≡ outputs_paid s.config part s.outputs
    → ◌≡◌ {A = Queues} (record { inputs = inputs₃; store = store })
    (landings s.config s.wire (record { inputs = s.inputs; store = s.store }))
    → wire₃ ≡ advanced s.wire
    → ◌≡◌ {A = Senders} (record { inputs = inputs; wire = wire }) (offers s.config part (record { inputs = inputs₃; wire = wire₃ }))
    → with_inputs inputs (with_outputs outputs (with_store store (with_wire wire s)))
    ≡ offers_taken part (landed (credits_returned part s))
unfolding offers_taken landed credits_returned
taken_in s part outputs inputs₃ store wire₃ inputs wire e2 e3 ew e4 =
    let i3 : inputs₃ ≡ (landings s.config s.wire (record { inputs = s.inputs; store = s.store })).inputs = ap
    (λ (q : Queues). q.inputs) e3 in
    let s3 : store ≡ (landings s.config s.wire (record { inputs = s.inputs; store = s.store })).store = ap
    (λ (q : Queues). q.store) e3 in
    let i4 : inputs ≡ (offers s.config part (record { inputs = inputs₃; wire = wire₃ })).inputs = ap (λ (q : Senders). q.inputs) e4 in
    let w4 : wire ≡ (offers s.config part (record { inputs = inputs₃; wire = wire₃ })).wire = ap (λ (q : Senders). q.wire) e4 in
    rw (e2, s3, i4, w4, i3, ew)

-- phase 5
pub allocated_is : (s : Router) (grant : ℕ → Option Grant) (inputs : List InputVc) (outputs : List OutputVc) (vcs : List (Arbiter 32))
    → ((o : ℕ) → o < s.config.ports → grant o ≡ grant_of s o)
    → ◌≡◌ {A = Vcs} (record { inputs = inputs; outputs = outputs })
    (bindings s.config grant (record { inputs = s.inputs; outputs = s.outputs }))
    → vcs ≡ arbiters_moved 32 s.config (s.config.ports * s.config.vcs) (λ (o : ℕ). requester_of (grant o)) s.arbiters.vcs
    → with_inputs inputs (with_outputs outputs (with_arbiters (with_vc_arbiters vcs s.arbiters) s)) ≡ allocated s
unfolding allocated
allocated_is s grant inputs outputs vcs agree e v =
    let b = e ∙ bindings_same s.config grant (grant_of s) (record { inputs = s.inputs; outputs = s.outputs }) agree in
    let m = v ∙ moved_same 32 s.config (s.config.ports * s.config.vcs) (λ (o : ℕ). requester_of (grant o))
    (λ (o : ℕ). requester_of (grant_of s o))
    s.arbiters.vcs (λ o h. ap requester_of (agree o h)) in
    let i : inputs ≡ (bindings s.config (grant_of s) (record { inputs = s.inputs; outputs = s.outputs })).inputs = ap
    (λ (n : Vcs). n.inputs) b in
    let o : outputs ≡ (bindings s.config (grant_of s) (record { inputs = s.inputs; outputs = s.outputs })).outputs = ap
    (λ (n : Vcs). n.outputs) b in
    rw (i, o, m)

-- phases 6 and 7
pub sent_out-law : (s : Router) (pick row : ℕ → Option ℕ) (win : ℕ → Option InVc) (l : Leaving) (ins outs : List (Arbiter 8))
    → ((i : ℕ) → i < s.config.ports → pick i ≡ input_pick s i) → ((o : ℕ) → o < s.config.ports → row o ≡ output_pick s o)
    → ((o : ℕ) → o < s.config.ports → win o ≡ winner s o)
    → l ≡ departures s.config win
    (record {
      inputs = s.inputs;
      outputs = s.outputs;
      store = s.store;
      home = s.home;
      left = replicate 8 None;
    })
    → ins ≡ arbiters_moved 8 s.config s.config.vcs pick s.arbiters.inputs
    → outs ≡ arbiters_moved 8 s.config s.config.ports row s.arbiters.outputs
    → (with_cycle (s.cycle + 1) (with_inputs l.inputs (with_outputs l.outputs (with_store l.store (with_home l.home
    (with_arbiters (with_input_arbiters ins (with_output_arbiters outs s.arbiters)) s)))))
    ≡ sent_out s) × (l.left ≡ (leaving_of s).left)
unfolding sent_out leaving_of switched
sent_out-law s pick row win l ins outs p r w e i o =
    let d = e ∙ departures_same s.config win (winner s)
    (record {
      inputs = s.inputs;
      outputs = s.outputs;
      store = s.store;
      home = s.home;
      left = replicate 8 None;
    }) w in
    let a = i ∙ moved_same 8 s.config s.config.vcs pick (input_pick s) s.arbiters.inputs p in
    let b = o ∙ moved_same 8 s.config s.config.ports row (output_pick s) s.arbiters.outputs r in
    (rw (d, a, b), ap (λ (x : Leaving). x.left) d)
