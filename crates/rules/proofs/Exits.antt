-- Phase 7, output by output: what leaves there, as it stands before any flit leaves. Each winner finds its binding and its front flit so,
-- since no other winner is of its input.
-- Assumes nothing.
use mathlib.Core.Path.{◌≡◌, refl, sym, ap, ap₂, ◌∙◌}
use mathlib.Core.Logic.{◌≢◌}
use mathlib.Core.Bool.{cond}
use mathlib.Core.List.{List}
use Rattle.std.specs.Prelude.{Option, Some, None}
use Rattle.std.proofs.lemmas.Option.{same_Some, none-some}
use Prim.Native.Nat.{ℕ, suc, ◌≤◌}
use native.Mathlib.Omega.{arith}
use lib.Dec.{ltb}
use lib.ListN.{replicate}
use lib.Seq.{get_or-set_other}
use Rattle.base.specs.declared.flit.Flit.{Flit}
use Rattle.state.specs.declared.InVc.{InVc}
use Rattle.state.specs.declared.OutVc.{OutVc}
use Rattle.state.specs.declared.Binding.{Binding}
use Rattle.state.specs.declared.Binding.TheVariants.{Unbound, Bound}
use Rattle.state.specs.declared.Router.{Router}
use Rattle.state.specs.Fresh.{fresh_input}
use Rattle.store.specs.Store.{first_slot, front_of, popped}
use Rattle.state.specs.Views.{channel_number, input_at}
use Rattle.store.proofs.Slots.{pop_other_slot}
use Rattle.rules.specs.Ports.{over_ports}
use Rattle.rules.specs.Allocation.{winner}
use Rattle.rules.specs.Departures.{Leaving, departed, goes_out, leaves_by, departures, leaving_of}
use Rattle.rules.proofs.Along.{over_alike}
use Rattle.rules.proofs.Channels.{channel_apart}
use Rattle.rules.proofs.Winners.{Wins, winner_is, winners_differ}

-- a flit that leaves an input VC by a VC of an output
pub record Exit : Type 0 where
  pub input : ℕ
  pub vc : ℕ
  pub by : ℕ
  pub flit : Flit

module _ (s : Router) where
  abbrev exit_by : InVc → Binding → Option Exit
  exit_by x Unbound = None
  exit_by x (Bound b) =
      Some (record { input = x.input; vc = x.vc; by = b.vc; flit = front_of s.store (channel_number s.config x.input x.vc) })

  abbrev exit_for : Option InVc → Option Exit
  exit_for None = None
  exit_for (Some x) = exit_by x (input_at s.config s.inputs x.input x.vc).binding

  -- what leaves by output o
  unfoldable pub exit : ℕ → Option Exit
  exit o = exit_for (winner s o)

  -- the front flit of the winner's VC, by the VC that it is bound to
  pub record Exits (o : ℕ) (e : Exit) : Type 0 where
    pub wins : Wins s o (record { input = e.input; vc = e.vc })
    pub won : winner s o ≡ Some (record { input = e.input; vc = e.vc })
    pub bound : (input_at s.config s.inputs e.input e.vc).binding ≡ Bound (record { output = o; vc = e.by })
    pub front : e.flit ≡ front_of s.store (channel_number s.config e.input e.vc)

  pub exit_is : (o : ℕ) (e : Exit) → exit o ≡ Some e → Exits o e
  unfolding exit
  exit_is o e q = go (winner s o) refl q
    where
      go : (m : Option InVc) → winner s o ≡ m → exit_for m ≡ Some e → Exits o e
      go None p f = absurd (none-some e f)
      go (Some x) p f = at (input_at s.config s.inputs x.input x.vc).binding refl f
        where
          at : (b : Binding) → (input_at s.config s.inputs x.input x.vc).binding ≡ b → exit_by x b ≡ Some e → Exits o e
          at Unbound r g = absurd (none-some e g)
          at (Bound b) r g =
              let w = winner_is s o x p in
              let one : Bound b ≡ Bound w.to = sym r ∙ w.bound in
              let to : b ≡ w.to = cc in
              let here : b.output ≡ o = ap (λ (t : OutVc). t.output) to ∙ w.here in
              made (record {
                input = x.input;
                vc = x.vc;
                by = b.vc;
                flit = front_of s.store (channel_number s.config x.input x.vc);
              }) e
              (same_Some _ e g)
              (record { wins = w; won = p; bound = r ∙ ap (λ (n : ℕ). Bound (record { output = n; vc = b.vc })) here; front = refl })
            where
              made : (d f : Exit) → d ≡ f → Exits o d → Exits o f
              made d f same x = rw same at x

  -- each winner leaves
  pub winner_exits : (o : ℕ) (x : InVc) → winner s o ≡ Some x → (e : Exit) × (exit o ≡ Some e) × (e.input ≡ x.input) × (e.vc ≡ x.vc)
  unfolding exit
  winner_exits o x p =
      let w = winner_is s o x p in (
        record { input = x.input; vc = x.vc; by = w.to.vc; flit = front_of s.store (channel_number s.config x.input x.vc) },
        ap exit_for p ∙ ap (exit_by x) w.bound,
        refl,
        refl,
      )

  -- two exits of one input are one: "one_leaves_per_input"
  pub exits_differ : (o p : ℕ) (e f : Exit) → exit o ≡ Some e → exit p ≡ Some f → e.input ≡ f.input → o ≡ p
  exits_differ o p e f q r same = (winners_differ s o p _ _ (exit_is o e q).won (exit_is p f r).won same).0

  -- so each leaves a channel of its own
  pub exits_apart : (o p : ℕ) (e f : Exit) → exit o ≡ Some e → exit p ≡ Some f
      → channel_number s.config e.input e.vc ≡ channel_number s.config f.input f.vc → o ≡ p
  exits_apart o p e f q r same =
      exits_differ o p e f q r
      (channel_apart s.config e.input e.vc f.input f.vc (exit_is o e q).wins.vc_below
      (exit_is p f r).wins.vc_below same).0

  -- an exit of output o, if there is one
  abbrev pub exits : ℕ → Option Exit → Leaving → Leaving
  exits o None l = l
  exits o (Some e) l = departed s.config o e.by e.input e.vc e.flit l

  abbrev pub at_first : Leaving
  at_first = record {
    inputs = s.inputs;
    outputs = s.outputs;
    store = s.store;
    home = s.home;
    left = replicate 8 None;
  }

  -- from output i on, each winner finds its binding and its front as they were
  abbrev Found : ℕ → Leaving → Type 0
  Found i l =
      (o : ℕ) → i ≤ o → (x : InVc) → winner s o ≡ Some x
      → ((input_at s.config l.inputs x.input x.vc).binding ≡ (input_at s.config s.inputs x.input x.vc).binding)
      × (front_of l.store (channel_number s.config x.input x.vc)
      ≡ front_of s.store (channel_number s.config x.input x.vc))

  -- a pop leaves the fronts of other channels
  front_stays : (store : List ℕ) (x y : ℕ) → x ≢ y → front_of (popped store x) y ≡ front_of store y
  unfolding front_of
  front_stays store x y n =
      ap (λ (w : ℕ). record { word = cond (ltb y 32) w 0 }) (pop_other_slot store x (first_slot y) (λ k h e. n (omega arith)))

  found_then : (l : Leaving) (i : ℕ) → Found i l → Found (suc i) (exits i (exit i) l)
  found_then l i h o g x p = go (exit i) refl
    where
      go : (m : Option Exit) → exit i ≡ m
          → ((input_at s.config (exits i m l).inputs x.input x.vc).binding
          ≡ (input_at s.config s.inputs x.input x.vc).binding)
          × (front_of (exits i m l).store (channel_number s.config x.input x.vc)
          ≡ front_of s.store (channel_number s.config x.input x.vc))
      go None q = h o (omega arith) x p
      go (Some e) q =
          let f = winner_exits o x p in
          let apart : channel_number s.config e.input e.vc ≢ channel_number s.config x.input x.vc =
          λ same.
          let r = exits_apart i o e f.0 q f.1 (same ∙ ap₂ (channel_number s.config) (sym f.2) (sym f.3)) in
          omega arith
          in
          let rest = h o (omega arith) x p in (
            ap (λ b. b.binding)
                (get_or-set_other l.inputs (channel_number s.config e.input e.vc) (channel_number s.config x.input x.vc) _
                (fresh_input 0)
                (λ r. apart (sym r)))
                ∙ rest.0,
            front_stays l.store (channel_number s.config e.input e.vc) (channel_number s.config x.input x.vc) apart
                ∙ rest.1,
          )

  -- phase 7 is the exits, output by output
  pub leaving_exits : leaving_of s ≡ over_ports s.config.ports (λ l o. exits o (exit o) l) at_first
  unfolding leaving_of departures exit
  leaving_exits =
      over_alike Found s.config.ports (λ l o. leaves_by s.config o (winner s o) l) (λ l o. exits o (exit o) l) at_first
      (λ l o h k. same l o (winner s o) refl (λ x p. k o (omega arith) x p)) (λ l o h k. found_then l o k) (λ o h x p. (refl, refl))
    where
      same : (l : Leaving) (o : ℕ) (m : Option InVc) → winner s o ≡ m
          → ((x : InVc) → winner s o ≡ Some x
          → ((input_at s.config l.inputs x.input x.vc).binding ≡ (input_at s.config s.inputs x.input x.vc).binding)
          × (front_of l.store (channel_number s.config x.input x.vc)
          ≡ front_of s.store (channel_number s.config x.input x.vc)))
          → leaves_by s.config o m l ≡ exits o (exit o) l
      same l o None p k = ap (λ (m : Option InVc). exits o (exit_for m) l) (sym p)
      same l o (Some x) p k =
          ap (λ (b : Binding). goes_out s.config o x.input x.vc b l) (k x p).0
          ∙ at (input_at s.config s.inputs x.input x.vc).binding
          ∙ ap (λ (m : Option InVc). exits o (exit_for m) l) (sym p)
        where
          at : (b : Binding) → goes_out s.config o x.input x.vc b l ≡ exits o (exit_by x b) l
          at Unbound = refl
          at (Bound b) = ap (λ (f : Flit). departed s.config o b.vc x.input x.vc f l) (k x p).1
