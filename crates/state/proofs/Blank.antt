-- The test of an all-zero state is exact: one state passes it.
-- Assumes nothing.
use mathlib.Core.Path.{◌≡◌, refl, sym, ap, ap₂, ◌∙◌}
use mathlib.Core.Logic.{◌↔◌}
use mathlib.Core.Bool.{Bool, true, false, not, ◌&&◌, ◌||◌, false≢true}
use mathlib.Core.List.{List}
use Prim.Native.Nat.{ℕ, ◌+◌, ◌*◌, ◌/◌, ◌%◌, ◌<◌, zero-le}
use native.Mathlib.Omega.{arith}
use lib.Dec.{eqb, ltb}
use lib.ListN.{length, get_or, replicate, length-replicate, get_or-replicate}
use lib.Seq.{ext_get_or}
use borrow.Author.Tests.{eqb-true, eq-eqb, le-ltb, not-true}
use Rattle.base.specs.declared.config.Config.{Config}
use Rattle.base.specs.Search.{every}
use Rattle.base.proofs.Search.{both, every_at}
use Rattle.base.proofs.Zeros.{blank_at}
use Rattle.base.specs.Sizes.{no_config, Bounds, sized}
use Rattle.arbiter.specs.declared.Arbiter.{Arbiter}
use Rattle.arbiter.specs.Arbiter.{arbiter_of}
use Rattle.arbiter.specs.Matrix.{blank_from}
use Rattle.state.specs.declared.InputVc.{InputVc}
use Rattle.state.specs.declared.OutputVc.{OutputVc}
use Rattle.state.specs.declared.Arbiters.{Arbiters}
use Rattle.state.specs.declared.Router.{Router}
use Rattle.state.specs.Blank.{no_sizes, arbiters_shaped, blank}
use Rattle.state.specs.Fresh.{fresh_input, fresh_output, no_arbiter, past_arbiter}
use Rattle.state.specs.Fresh.{fresh_arbiters, fresh_router}
use Rattle.state.specs.Sound.{wire_legal, home_legal, is_unbound, is_vc_free, input_unused, output_unused, arbiter_unused, channels_unused}
use Rattle.state.specs.Sound.{slots_empty, line_unused, arbiters_unused, shaped}
use Rattle.state.specs.Views.{vc_arbiter, input_arbiter, output_arbiter}
use Rattle.state.proofs.Tests.{same_test}
use Rattle.state.specs.Setters.{set_binding, with_sender_credit, with_opened, with_queued, set_holder, with_output_credit}
use Rattle.state.specs.Setters.{with_vc_arbiters, with_input_arbiters, with_output_arbiters}
use Rattle.state.specs.Setters.{with_config, with_cycle, with_inputs, with_outputs, with_store, with_wire, with_home, with_arbiters}
use Rattle.state.proofs.Naming.{unbound_is, free_is}

pub bounded_none : Bounds 0 no_config
bounded_none =
    record {
      ports = (zero-le, zero-le);
      vcs = (zero-le, zero-le);
      depth = (zero-le, zero-le);
      downstream = (zero-le, zero-le);
      forward = (zero-le, zero-le);
      back = (zero-le, zero-le);
      arbiter = (zero-le, zero-le);
    }

-- a configuration that is none
pub no_sizes_exactly : (c : Config) → (no_sizes c ≡ true) ↔ (c ≡ no_config)
unfolding no_sizes
no_sizes_exactly c = (none, λ e. ap no_sizes e)
  where
    none : no_sizes c ≡ true → c ≡ no_config
    none e =
        let p0 = both (eqb c.ports 0) _ e in
        let p1 = both (eqb c.vcs 0) _ p0.1 in
        let p2 = both (eqb c.depth 0) _ p1.1 in
        let p3 = both (eqb c.downstream 0) _ p2.1 in
        let p4 = both (eqb c.forward 0) _ p3.1 in
        let p5 = both (eqb c.back 0) (eqb c.arbiter 0) p4.1 in
        λ t.
        sized (eqb-true c.ports 0 p0.0 t) (eqb-true c.vcs 0 p1.0 t) (eqb-true c.depth 0 p2.0 t)
        (eqb-true c.downstream 0 p3.0 t) (eqb-true c.forward 0 p4.0 t) (eqb-true c.back 0 p5.0 t)
        (eqb-true c.arbiter 0 p5.1 t)

-- a field that is not 0 refuses, and the last decides
pub some_size : (c : Config) → (c ≡ no_config → ⊥) → false ≡ no_sizes c
some_size c n = same_test false (no_sizes c) (λ e. absurd (false≢true e)) (λ e. absurd (n ((no_sizes_exactly c).0 e)))

pub last_size : (c : Config) → c.ports ≡ 0 → c.vcs ≡ 0 → c.depth ≡ 0 → c.downstream ≡ 0 → c.forward ≡ 0 → c.back ≡ 0
    → eqb c.arbiter 0 ≡ no_sizes c
unfolding no_sizes
last_size c e1 e2 e3 e4 e5 e6 = rw (e1, e2, e3, e4, e5, e6)

-- the clauses of the test
pub record Blank (s : Router) : Type 0 where
  pub config : no_sizes s.config ≡ true
  pub cycle : eqb s.cycle 0 ≡ true
  pub wire : line_unused 0 0 s.wire ≡ true
  pub home : line_unused 0 0 s.home ≡ true
  pub arbiters : arbiters_unused no_config s.arbiters ≡ true
  pub channels : channels_unused no_config s.inputs s.outputs ≡ true
  pub slots : slots_empty s.inputs s.store ≡ true
  pub shape : shaped s ≡ true
  pub rooms : arbiters_shaped s.arbiters ≡ true

pub blank_is : (s : Router) → blank s ≡ true → Blank s
unfolding blank
blank_is s e =
    let p0 = both (no_sizes s.config) _ e in
    let p1 = both (eqb s.cycle 0) _ p0.1 in
    let p2 = both (line_unused 0 0 s.wire) _ p1.1 in
    let p3 = both (line_unused 0 0 s.home) _ p2.1 in
    let p4 = both (arbiters_unused no_config s.arbiters) _ p3.1 in
    let p5 = both (channels_unused no_config s.inputs s.outputs) _ p4.1 in
    let p6 = both (slots_empty s.inputs s.store) _ p5.1 in
    let p7 = both (shaped s) (arbiters_shaped s.arbiters) p6.1 in
    record {
      config = p0.0;
      cycle = p1.0;
      wire = p2.0;
      home = p3.0;
      arbiters = p4.0;
      channels = p5.0;
      slots = p6.0;
      shape = p7.0;
      rooms = p7.1;
    }

pub blank_holds : (s : Router) → Blank s → blank s ≡ true
unfolding blank
blank_holds s b =
    rw (b.config, b.cycle, b.wire, b.home, b.arbiters, b.channels, b.slots, b.shape, b.rooms)

-- a clause that fails refuses
pub not_blank : (s : Router) (test : Bool) → (Blank s → test ≡ true) → test ≡ false → false ≡ blank s
not_blank s test f e = same_test false (blank s) (λ p. absurd (false≢true p)) (λ p. sym e ∙ f (blank_is s p))

-- nothing is in use of a line without ports
pub wire_blank : (s : Router) → Blank s → (wire_legal no_config s.wire && line_unused 0 0 s.wire) ≡ true
unfolding wire_legal every
wire_blank s b = b.wire

pub home_blank : (s : Router) → Blank s → (home_legal no_config s.home && line_unused 0 0 s.home) ≡ true
unfolding home_legal every
home_blank s b = b.home

-- and the last decides
pub last_blank : (s : Router) (last : Bool) → last ≡ slots_empty s.inputs s.store → no_sizes s.config ≡ true → eqb s.cycle 0
    ≡ true
    → (wire_legal no_config s.wire && line_unused 0 0 s.wire) ≡ true → (home_legal no_config s.home && line_unused 0 0 s.home) ≡ true
    → arbiters_unused no_config s.arbiters ≡ true → channels_unused no_config s.inputs s.outputs ≡ true → shaped s ≡ true
    → arbiters_shaped s.arbiters ≡ true → last ≡ blank s
unfolding wire_legal home_legal every
last_blank s last e config cycle wire home arbiters channels shape rooms =
    same_test last (blank s)
    (λ p.
    blank_holds s
    (record {
      config = config;
      cycle = cycle;
      wire = wire;
      home = home;
      arbiters = arbiters;
      channels = channels;
      slots = sym e ∙ p;
      shape = shape;
      rooms = rooms;
    }))
    (λ p. e ∙ (blank_is s p).slots)

pub rooms_are : (a : Arbiters) → length a.vcs ≡ 8 → length a.inputs ≡ 8 → length a.outputs ≡ 8 → arbiters_shaped a ≡ true
unfolding arbiters_shaped
rooms_are a vcs ins outs = ap₂ ◌&&◌ (eq-eqb (length a.vcs) 8 vcs)
    (ap₂ ◌&&◌ (eq-eqb (length a.inputs) 8 ins) (eq-eqb (length a.outputs) 8 outs))

-- an array of numbers that are all 0, and of elements that are all one
all_one : {A : Type 0} (d x : A) (n : ℕ) (l : List A) → length l ≡ n → ((i : ℕ) → i < n → get_or l i d ≡ x) → l ≡ replicate n x
all_one d x n l e f =
    ext_get_or d l (replicate n x) (e ∙ sym (length-replicate n x))
    (λ i h. let g : i < n = omega (arith, h, e) in f i g ∙ sym (get_or-replicate n i x d g))

-- nothing is before place 0
none_before : (k : ℕ) → ltb k 0 ≡ false
none_before k = le-ltb k 0 zero-le

line_zero : (l : List ℕ) → length l ≡ 64 → line_unused 0 0 l ≡ true → l ≡ replicate 64 0
unfolding line_unused
line_zero l e f =
    all_one 0 0 64 l e (λ m h.
    let at : 8 * (m / 8) + m % 8 ≡ m = omega arith in
    let k : m / 8 < 8 = omega arith in
    let i : m % 8 < 8 = omega arith in
    ap (λ (j : ℕ). get_or l j 0) (sym at) ∙ eqb-true (get_or l (8 * (m / 8) + m % 8) 0) 0
    (ap (λ (b : Bool). b && ltb (m % 8) 0 || eqb (get_or l (8 * (m / 8) + m % 8) 0) 0) (sym (none_before (m / 8)))
    ∙ every_at 8 (λ (i : ℕ). ltb (m / 8) 0 && ltb i 0 || eqb (get_or l (8 * (m / 8) + i) 0) 0)
    (every_at 8 (λ (k : ℕ). every 8 (λ (i : ℕ). ltb k 0 && ltb i 0 || eqb (get_or l (8 * k + i) 0) 0)) f (m / 8) k) (m % 8) i))

-- a channel that is not in use
input_zero : (x : InputVc) → input_unused x ≡ true → x ≡ fresh_input 0
input_zero x e =
    let p0 = both (is_unbound x.binding && eqb x.credit 0 && not x.opened) (eqb x.queued 0) e in
    let p1 = both (is_unbound x.binding && eqb x.credit 0) (not x.opened) p0.0 in
    let p2 = both (is_unbound x.binding) (eqb x.credit 0) p1.0 in
    λ t.
    set_binding (unbound_is x.binding p2.0 t) (with_sender_credit (eqb-true x.credit 0 p2.1 t)
    (with_opened (not-true x.opened p1.1 t) (with_queued (eqb-true x.queued 0 p0.1 t) x)))

output_zero : (y : OutputVc) → output_unused y ≡ true → y ≡ fresh_output 0
output_zero y e =
    let p = both (is_vc_free y.holder) (eqb y.credit 0) e in
    λ t. set_holder (free_is y.holder p.0 t) (with_output_credit (eqb-true y.credit 0 p.1 t) y)

module _ (inputs : List InputVc) (outputs : List OutputVc) (e : channels_unused no_config inputs outputs ≡ true) where
  channel_zero : (x : ℕ) → x < 32 → (get_or inputs x (fresh_input 0) ≡ fresh_input 0) × (get_or outputs x (fresh_output 0) ≡ fresh_output 0)
  unfolding channels_unused
  channel_zero x h =
      let p = both (input_unused (get_or inputs x (fresh_input 0))) (output_unused (get_or outputs x (fresh_output 0)))
      (ap (λ (b : Bool). b || input_unused (get_or inputs x (fresh_input 0)) && output_unused (get_or outputs x (fresh_output 0)))
      (sym (none_before x))
      ∙ every_at 32 (λ (x : ℕ). ltb x 0 || input_unused (get_or inputs x (fresh_input 0)) && output_unused (get_or outputs x (fresh_output 0)))
      e x h) in
      (input_zero (get_or inputs x (fresh_input 0)) p.0, output_zero (get_or outputs x (fresh_output 0)) p.1)

  -- so that nothing is queued, and every slot is empty
  store_zero : (store : List ℕ) → length store ≡ 512 → slots_empty inputs store ≡ true → store ≡ replicate 512 0
  unfolding slots_empty
  store_zero store l f =
      all_one 0 0 512 store l (λ m h.
      let at : 16 * (m / 16) + m % 16 ≡ m = omega arith in
      let x : m / 16 < 32 = omega arith in
      let k : m % 16 < 16 = omega arith in
      let none : ltb (m % 16) (get_or inputs (m / 16) (fresh_input 0)).queued
      ≡ false = ap (λ (x : InputVc). ltb (m % 16) x.queued) (channel_zero (m / 16) x).0 ∙ none_before (m % 16) in
      ap (λ (j : ℕ). get_or store j 0) (sym at) ∙ eqb-true (get_or store (16 * (m / 16) + m % 16) 0) 0
      (ap (λ (b : Bool). b || eqb (get_or store (16 * (m / 16) + m % 16) 0) 0) (sym none)
      ∙ every_at 16 (λ (k : ℕ). ltb k (get_or inputs (m / 16) (fresh_input 0)).queued || eqb (get_or store (16 * (m / 16) + k) 0) 0)
      (every_at 32 (λ (x : ℕ). every 16 (λ (k : ℕ). ltb k (get_or inputs x (fresh_input 0)).queued || eqb (get_or store (16 * x + k) 0) 0))
      f (m / 16) x) (m % 16) k))

-- an arbiter that is not in use
arbiter_zero : (places : ℕ) (a : Arbiter places) → arbiter_unused places a ≡ true → a ≡ arbiter_of 0 (replicate places 0)
unfolding blank_from
arbiter_zero places a e =
    let p = both (eqb (length a.rows) places) _ e in
    let q = both (eqb a.pointer 0) (blank_from 0 places a.rows) p.1 in
    let rows = all_one 0 0 places a.rows (eqb-true (length a.rows) places p.0)
    (λ i h. blank_at 0 places a.rows q.1 i zero-le h) in
    λ t. arbiter_of (eqb-true a.pointer 0 q.0 t) (rows t)

module _ (a : Arbiters) (e : arbiters_unused no_config a ≡ true) where
  port_zero : (i : ℕ) → i < 8 → (vc_arbiter a i ≡ (no_arbiter 32)) × (input_arbiter a i ≡ (no_arbiter 8)) × (output_arbiter a i ≡ (no_arbiter 8))
  unfolding arbiters_unused
  port_zero i h =
      let p = both (arbiter_unused 32 (vc_arbiter a i) && arbiter_unused 8 (input_arbiter a i))
      (arbiter_unused 8 (output_arbiter a i))
      (ap (λ (b : Bool). b || arbiter_unused 32 (vc_arbiter a i) && arbiter_unused 8 (input_arbiter a i)
      && arbiter_unused 8 (output_arbiter a i))
      (sym (none_before i))
      ∙ every_at 8 (λ (i : ℕ). ltb i 0 || arbiter_unused 32 (vc_arbiter a i) && arbiter_unused 8 (input_arbiter a i)
      && arbiter_unused 8 (output_arbiter a i)) e i h) in
      let q = both (arbiter_unused 32 (vc_arbiter a i)) (arbiter_unused 8 (input_arbiter a i)) p.0 in (
        arbiter_zero 32 (vc_arbiter a i) q.0,
        arbiter_zero 8 (input_arbiter a i) q.1,
        arbiter_zero 8 (output_arbiter a i) p.1,
      )

  arbiters_zero : arbiters_shaped a ≡ true → a ≡ fresh_arbiters no_config
  unfolding arbiters_shaped
  arbiters_zero l =
      let p = both (eqb (length a.vcs) 8) _ l in
      let q = both (eqb (length a.inputs) 8) (eqb (length a.outputs) 8) p.1 in
      let vcs = all_one past_arbiter (no_arbiter 32) 8 a.vcs (eqb-true (length a.vcs) 8 p.0) (λ i h. (port_zero i h).0) in
      let inputs = all_one past_arbiter (no_arbiter 8) 8 a.inputs (eqb-true (length a.inputs) 8 q.0) (λ i h. (port_zero i h).1) in
      let outputs = all_one past_arbiter (no_arbiter 8) 8 a.outputs (eqb-true (length a.outputs) 8 q.1) (λ i h. (port_zero i h).2) in
      λ t. with_vc_arbiters (vcs t) (with_input_arbiters (inputs t) (with_output_arbiters (outputs t) a))

-- the lengths that the struct has
record Shape (s : Router) : Type 0 where
  inputs : length s.inputs ≡ 32
  outputs : length s.outputs ≡ 32
  store : length s.store ≡ 512
  wire : length s.wire ≡ 64
  home : length s.home ≡ 64

shape_of : (s : Router) → shaped s ≡ true → Shape s
unfolding shaped
shape_of s e =
    let p0 = both _ (eqb (length s.home) 64) e in
    let p1 = both _ (eqb (length s.wire) 64) p0.0 in
    let p2 = both _ (eqb (length s.store) 512) p1.0 in
    let p3 = both (eqb (length s.inputs) 32) (eqb (length s.outputs) 32) p2.0 in
    record {
      inputs = eqb-true (length s.inputs) 32 p3.0;
      outputs = eqb-true (length s.outputs) 32 p3.1;
      store = eqb-true (length s.store) 512 p2.1;
      wire = eqb-true (length s.wire) 64 p1.1;
      home = eqb-true (length s.home) 64 p0.1;
    }

blank_fresh : (s : Router) → Blank s → s ≡ fresh_router no_config
unfolding fresh_router
blank_fresh s b =
    let l = shape_of s b.shape in
    let config = (no_sizes_exactly s.config).0 b.config in
    let cycle = eqb-true s.cycle 0 b.cycle in
    let inputs = all_one (fresh_input 0) (fresh_input 0) 32 s.inputs l.inputs
    (λ x h. (channel_zero s.inputs s.outputs b.channels x h).0) in
    let outputs = all_one (fresh_output 0) (fresh_output 0) 32 s.outputs l.outputs
    (λ x h. (channel_zero s.inputs s.outputs b.channels x h).1) in
    let store = store_zero s.inputs s.outputs b.channels s.store l.store b.slots in
    let wire = line_zero s.wire l.wire b.wire in
    let home = line_zero s.home l.home b.home in
    let arbiters = arbiters_zero s.arbiters b.arbiters b.rooms in
    λ t.
    with_config (config t) (with_cycle (cycle t) (with_inputs (inputs t) (with_outputs (outputs t) (with_store (store t) (with_wire (wire t)
    (with_home (home t) (with_arbiters (arbiters t) s)))))))

fresh_blank : blank (fresh_router no_config) ≡ true
unfolding fresh_router blank no_sizes line_unused every arbiters_unused channels_unused slots_empty shaped arbiters_shaped blank_from
fresh_blank = refl

-- one state is blank: the fresh router of no configuration
pub blank_exactly : (s : Router) → (blank s ≡ true) ↔ (s ≡ fresh_router no_config)
blank_exactly s = (λ e. blank_fresh s (blank_is s e), λ e. ap blank e ∙ fresh_blank)
