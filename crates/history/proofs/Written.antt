-- A flit that leaves, as the history writes it down from the reply: its kind and payload as reported, its destination the output that it
-- left by if it starts a packet, and else 0.
-- Assumes nothing.
use mathlib.Core.Path.{◌≡◌, refl, sym, ap, ap₂, ◌∙◌}
use mathlib.Core.Bool.{Bool, true, false, cond, not, xor, ◌&&◌, false≢true}
use mathlib.Core.List.{List, ◌∷◌, ◌++◌}
use Rattle.std.specs.Prelude.{Some, None}
use Prim.Native.Nat.{ℕ, ◌+◌, ◌*◌, ◌/◌, ◌%◌, ◌^◌, ◌<◌}
use native.Mathlib.Omega.{arith}
use lib.Dec.{eqb, leb, ltb}
use borrow.Author.Tests.{eqb-true, ltb-true}
use Rattle.base.specs.declared.config.Config.{Config}
use Rattle.base.specs.declared.flit.Flit.{Flit}
use Rattle.base.specs.Flit.{flit_of, kind_of, destination_of, payload_of, starts_kind, ends_kind, head, single}
use Rattle.base.proofs.Search.{both}
use Rattle.state.specs.declared.OutVc.{OutVc}
use Rattle.state.specs.declared.Binding.{Binding}
use Rattle.state.specs.declared.Binding.TheVariants.{Bound}
use Rattle.state.specs.declared.Router.{Router}
use Rattle.state.specs.Sound.{Sound, all, legal_flit, queues_legal, packets_read, reads, reading, ends_as}
use Rattle.state.specs.Views.{channel_number, input_at, queue_of, wire_of, flat}
use Rattle.rules.proofs.Channels.{channel_at}
use Rattle.rules.proofs.Exits.{Exit, exit, exit_is}
use Rattle.rules.proofs.LeftNames.{Leaves}
use Rattle.rules.proofs.LeftPackets.{exit_front}

-- a flit is its three parts
flit_parts : (f : Flit) → f.word < 2 ^ 38 → f ≡ flit_of (kind_of f) (destination_of f) (payload_of f)
unfolding flit_of kind_of destination_of payload_of
flit_parts f l =
    let e : f.word ≡ (f.word / 2 ^ 35 % 8) * 2 ^ 35 + (f.word / 2 ^ 32 % 8) * 2 ^ 32 + f.word % 2 ^ 32 = omega arith in
    λ t. record { word = e t }

-- where a bound VC's front starts a packet, it is for the bound output
front_for : (f : Flit) (queue wire : List Flit) (to : OutVc) (inside : Bool) → starts_kind (kind_of f) ≡ true
    → reads (f ∷ queue) wire (Bound to) inside ≡ true → destination_of f ≡ to.output
unfolding reads reading xor
front_for f queue wire to inside starts e = go (eqb (destination_of f) to.output) refl
  where
    go : (b : Bool) → eqb (destination_of f) to.output ≡ b → destination_of f ≡ to.output
    go true r = eqb-true (destination_of f) to.output r
    go false r =
        absurd (false≢true (sym (ap₂ (λ (x y : Bool).
        ends_as inside (cond (xor (not (x && y)) x) (reading (not (ends_kind (kind_of f))) (queue ++ wire)) None)) starts r)
        ∙ e))

module _ (s : Router) (sound : Sound s) (o : ℕ) (e : Exit) (below : o < s.config.ports) (acts : exit s o ≡ Some e) where
  abbrev c : Config
  c = s.config

  abbrev i : ℕ
  i = e.input

  abbrev v : ℕ
  v = e.vc

  port : i < c.ports
  port = (exit_is s o e acts).wins.input_below

  vc : v < c.vcs
  vc = (exit_is s o e acts).wins.vc_below

  abbrev own : Leaves s sound (channel_number c i v)
  own = record { port = o; deed = e; below = below; acts = acts; there = refl }

  pub front_legal : legal_flit c e.flit ≡ true
  unfolding queues_legal all
  front_legal =
      (both (legal_flit c e.flit) _ (ap (all (legal_flit c)) (sym (exit_front s sound i v port vc own))
      ∙ channel_at c (λ i v. all (legal_flit c) (queue_of c s.store i v (input_at c s.inputs i v).queued))
      sound.flow.queues i v port vc)).0

  front_named : starts_kind (kind_of e.flit) ≡ true → destination_of e.flit ≡ o
  unfolding packets_read
  front_named starts =
      let front = exit_front s sound i v port vc own in
      front_for e.flit _ (flat (wire_of c s.wire i v)) (record { output = o; vc = e.by }) (input_at c s.inputs i v).opened starts
      (ap₂ (λ (q : List Flit) (b : Binding). reads q (flat (wire_of c s.wire i v)) b (input_at c s.inputs i v).opened) (sym front)
      (sym (exit_is s o e acts).bound)
      ∙ channel_at c (λ i v.
      reads (queue_of c s.store i v (input_at c s.inputs i v).queued) (flat (wire_of c s.wire i v))
      (input_at c s.inputs i v).binding
      (input_at c s.inputs i v).opened) sound.naming.packets i v port vc)

  -- it is the flit that left, destination and all
  pub exit_written : e.flit ≡ flit_of (kind_of e.flit) (cond (starts_kind (kind_of e.flit)) o 0) (payload_of e.flit)
  unfolding legal_flit
  exit_written =
      let kind = leb head (kind_of e.flit) && leb (kind_of e.flit) single in
      let p = both (kind && cond (starts_kind (kind_of e.flit)) (ltb (destination_of e.flit) c.ports)
      (eqb (destination_of e.flit) 0))
      (ltb e.flit.word (2 ^ 38)) front_legal in
      let q = both kind (cond (starts_kind (kind_of e.flit)) (ltb (destination_of e.flit) c.ports)
      (eqb (destination_of e.flit) 0)) p.0 in
      flit_parts e.flit (ltb-true e.flit.word (2 ^ 38) p.1)
      ∙ ap (λ (d : ℕ). flit_of (kind_of e.flit) d (payload_of e.flit)) (go (starts_kind (kind_of e.flit)) refl q.1)
    where
      go : (b : Bool) → starts_kind (kind_of e.flit) ≡ b → cond b (ltb (destination_of e.flit) c.ports)
          (eqb (destination_of e.flit) 0) ≡ true
          → destination_of e.flit ≡ cond b o 0
      go true starts l = front_named starts
      go false starts l = eqb-true (destination_of e.flit) 0 l
