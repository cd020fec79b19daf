-- The sound test is exact: a clause that fails refutes soundness, and all clauses together are soundness.
-- Assumes nothing.
use mathlib.Core.Path.{◌≡◌, refl, sym, ap, ap₂, ◌∙◌}
use mathlib.Core.Bool.{Bool, true, false, ◌&&◌, and_assoc, false≢true}
use mathlib.Core.List.{List, [], ◌∷◌, ◌++◌, map}
use Rattle.std.specs.Prelude.{Some, None}
use Prim.Native.Nat.{ℕ, ◌≤◌, ◌<◌, zero-le}
use lib.Dec.{leb}
use lib.ListN.{length, length-map}
use borrow.Author.Tests.{lt-leb, le-leb, eq-eqb}
use Rattle.base.specs.declared.config.Config.{Config}
use Rattle.base.specs.Search.{every}
use Rattle.base.specs.Sizes.{Bounds, illegal_field, cycle_limit}
use Rattle.base.proofs.Search.{both, every_at, all_every}
use Rattle.base.proofs.Configurations.{legal_exact}
use Rattle.state.specs.declared.Router.{Router}
use Rattle.state.specs.Views.{input_at, output_at, queue_of, wire_of, flat}
use Rattle.state.specs.Sound
use Rattle.state.specs.Sound.{is_none, all, every_channel, passes, sound}
use Rattle.state.specs.Testing.{input_sound, names_sound, channel_sound}
use Rattle.state.proofs.Tests.{same_test}

-- the tests of two lists of clauses, one after the other
all_append : {A : Type 0} (test : A → Bool) (xs ys : List A) → all test (xs ++ ys) ≡ (all test xs && all test ys)
unfolding all
all_append test [] ys = refl
all_append test (x ∷ xs) ys = ap (λ (b : Bool). test x && b) (all_append test xs ys) ∙ sym (and_assoc (test x) (all test xs) (all test ys))

-- of each topic the record and the tests are the same, both ways
module _ (s : Router) where
  yes : {a b : Bool} → a ≡ true → b ≡ true → (a && b) ≡ true
  yes e f = ap₂ ◌&&◌ e f

  lines_pass : Sound.SizesAndLines s → all (passes s) Sound.sizes_and_lines ≡ true
  unfolding all
  lines_pass x =
      yes x.configuration (yes x.cycles (yes x.wire (yes x.home (yes x.wire_rest (yes x.home_rest (yes x.shape refl))))))

  lines_passed : all (passes s) Sound.sizes_and_lines ≡ true → Sound.SizesAndLines s
  unfolding all
  lines_passed e =
      let p0 = both (passes s Sound.the_configuration) _ e in
      let p1 = both (passes s Sound.the_cycles) _ p0.1 in
      let p2 = both (passes s Sound.the_wire) _ p1.1 in
      let p3 = both (passes s Sound.the_home) _ p2.1 in
      let p4 = both (passes s Sound.the_wire_rest) _ p3.1 in
      let p5 = both (passes s Sound.the_home_rest) _ p4.1 in
      let p6 = both (passes s Sound.the_shape) _ p5.1 in
      record {
        configuration = p0.0;
        cycles = p1.0;
        wire = p2.0;
        home = p3.0;
        wire_rest = p4.0;
        home_rest = p5.0;
        shape = p6.0;
      }

  queues_pass : Sound.CreditsAndQueues s → all (passes s) Sound.credits_and_queues ≡ true
  unfolding all
  queues_pass x = yes x.credits (yes x.queues (yes x.output_credits (yes x.channels (yes x.slots refl))))

  queues_passed : all (passes s) Sound.credits_and_queues ≡ true → Sound.CreditsAndQueues s
  unfolding all
  queues_passed e =
      let p0 = both (passes s Sound.the_credits) _ e in
      let p1 = both (passes s Sound.the_queues) _ p0.1 in
      let p2 = both (passes s Sound.the_output_credits) _ p1.1 in
      let p3 = both (passes s Sound.the_channels) _ p2.1 in
      let p4 = both (passes s Sound.the_slots) _ p3.1 in
      record { credits = p0.0; queues = p1.0; output_credits = p2.0; channels = p3.0; slots = p4.0 }

  packets_pass : Sound.NamesAndPackets s → all (passes s) Sound.names_and_packets ≡ true
  unfolding all
  packets_pass x = yes x.names (yes x.packets refl)

  packets_passed : all (passes s) Sound.names_and_packets ≡ true → Sound.NamesAndPackets s
  unfolding all
  packets_passed e =
      let p0 = both (passes s Sound.the_names) _ e in
      let p1 = both (passes s Sound.the_packets) _ p0.1 in
      record { names = p0.0; packets = p1.0 }

  arbiters_pass : Sound.ArbitersInOrder s → all (passes s) Sound.arbiters_in_order ≡ true
  unfolding all
  arbiters_pass x = yes x.arbiters (yes x.others refl)

  arbiters_passed : all (passes s) Sound.arbiters_in_order ≡ true → Sound.ArbitersInOrder s
  unfolding all
  arbiters_passed e =
      let p0 = both (passes s Sound.the_arbiters) _ e in
      let p1 = both (passes s Sound.the_other_arbiters) _ p0.1 in
      record { arbiters = p0.0; others = p1.0 }

  -- the whole test, topic by topic
  topics : sound s ≡ (all (passes s) Sound.sizes_and_lines && (all (passes s) Sound.credits_and_queues
      && (all (passes s) Sound.names_and_packets && all (passes s) Sound.arbiters_in_order)))
  unfolding sound
  topics =
      all_append (passes s) Sound.sizes_and_lines _
      ∙ ap (λ (b : Bool). all (passes s) Sound.sizes_and_lines && b)
      (all_append (passes s) Sound.credits_and_queues _
      ∙ ap (λ (b : Bool). all (passes s) Sound.credits_and_queues && b) (all_append (passes s) Sound.names_and_packets _))

  -- the record of the clauses and the test are the same, both ways
  pub sound_passes : Sound.Sound s → sound s ≡ true
  sound_passes x =
      topics ∙ yes (lines_pass x.sizes) (yes (queues_pass x.flow) (yes (packets_pass x.naming) (arbiters_pass x.arbitration)))

  pub passed_sound : sound s ≡ true → Sound.Sound s
  passed_sound e =
      let p0 = both (all (passes s) Sound.sizes_and_lines) _ (sym topics ∙ e) in
      let p1 = both (all (passes s) Sound.credits_and_queues) _ p0.1 in
      let p2 = both (all (passes s) Sound.names_and_packets) _ p1.1 in
      record {
        sizes = lines_passed p0.0;
        flow = queues_passed p1.0;
        naming = packets_passed p2.0;
        arbitration = arbiters_passed p2.1;
      }

-- a test that soundness passes and that fails refuses the state
pub refused : (s : Router) (test : Bool) → (Sound.Sound s → test ≡ true) → test ≡ false → false ≡ sound s
refused s test f e = same_test false (sound s) (λ p. absurd (false≢true p)) (λ p. sym e ∙ f (passed_sound s p))

pub legal_bounded : (c : Config) → illegal_field c ≡ None → Bounds 0 c
legal_bounded c e =
    let l = (legal_exact c).0 e in
    record {
      ports = (zero-le, l.ports.1);
      vcs = (zero-le, l.vcs.1);
      depth = (zero-le, l.depth.1);
      downstream = (zero-le, l.downstream.1);
      forward = (zero-le, l.forward.1);
      back = (zero-le, l.back.1);
      arbiter = (zero-le, l.arbiter.1);
    }

module _ (s : Router) where
  pub illegal_refused : (k : ℕ) → illegal_field s.config ≡ Some k → false ≡ sound s
  unfolding Sound.configuration_legal is_none
  illegal_refused k e = refused s (Sound.configuration_legal s.config) (λ x. x.sizes.configuration) (ap is_none e)

  pub late_refused : cycle_limit < s.cycle → false ≡ sound s
  unfolding Sound.cycles_fit
  late_refused h = refused s (Sound.cycles_fit s.cycle) (λ x. x.sizes.cycles) (lt-leb s.cycle cycle_limit h)

  -- the test of all channels, and the clauses that it holds
  abbrev pub channel_test : ℕ → ℕ → Bool
  channel_test = channel_sound s.config s.inputs s.outputs s.store s.wire s.home

  at : (test : ℕ → ℕ → Bool) → every_channel s.config test ≡ true → (i v : ℕ) → i < s.config.ports → v < s.config.vcs → test i v
      ≡ true
  at test e i v h g = every_at s.config.vcs (test i) (every_at s.config.ports
      (λ (i : ℕ). every s.config.vcs (test i)) e i h) v g

  all_at : (test : ℕ → ℕ → Bool) → ((i v : ℕ) → i < s.config.ports → v < s.config.vcs → test i v ≡ true)
      → every_channel s.config test ≡ true
  all_at test f = all_every s.config.ports (λ (i : ℕ). every s.config.vcs (test i)) (λ i h. all_every s.config.vcs (test i)
      (λ v g. f i v h g))

  pub sound_channels : Sound.Sound s → every_channel s.config channel_test ≡ true
  unfolding channel_sound names_sound input_sound Sound.credits_add_up Sound.queues_legal Sound.output_credits_fit Sound.names_agree
      Sound.packets_read
  sound_channels x =
      let n = both (every_channel s.config (λ i v. Sound.input_named s.config s.outputs i v
      (input_at s.config s.inputs i v).binding))
      (every_channel s.config (λ o w. Sound.output_named s.config s.inputs o w (output_at s.config s.outputs o w).holder))
      x.naming.names in
      all_at channel_test (λ i v h g.
      ap₂ ◌&&◌ (ap₂ ◌&&◌ (at _ x.flow.output_credits i v h g) (ap₂ ◌&&◌ (at _ n.0 i v h g) (at _ n.1 i v h g)))
      (ap₂ ◌&&◌ (at _ x.flow.credits i v h g) (ap₂ ◌&&◌ (at _ x.flow.queues i v h g) (at _ x.naming.packets i v h g))))

  module _ (e : every_channel s.config channel_test ≡ true) where
    names_at : (i v : ℕ) → i < s.config.ports → v < s.config.vcs → names_sound s.config s.inputs s.outputs i v ≡ true
    unfolding channel_sound
    names_at i v h g = (both (names_sound s.config s.inputs s.outputs i v) (input_sound s.config s.store s.wire s.home i v
        (input_at s.config s.inputs i v)) (at channel_test e i v h g)).0

    input_at-law : (i v : ℕ) → i < s.config.ports → v < s.config.vcs
        → input_sound s.config s.store s.wire s.home i v (input_at s.config s.inputs i v) ≡ true
    unfolding channel_sound
    input_at-law i v h g = (both (names_sound s.config s.inputs s.outputs i v) (input_sound s.config s.store s.wire s.home i v
        (input_at s.config s.inputs i v)) (at channel_test e i v h g)).1

    -- the three tests of an input VC
    abbrev credits_test : ℕ → ℕ → Bool
    credits_test i v = Sound.credits_whole s.config s.wire s.home i v (input_at s.config s.inputs i v)

    abbrev queue_test : ℕ → ℕ → Bool
    queue_test i v = Sound.all (Sound.legal_flit s.config) (queue_of s.config s.store i v
        (input_at s.config s.inputs i v).queued)

    abbrev packet_test : ℕ → ℕ → Bool
    packet_test i v =
        Sound.reads (queue_of s.config s.store i v (input_at s.config s.inputs i v).queued)
        (flat (wire_of s.config s.wire i v))
        (input_at s.config s.inputs i v).binding (input_at s.config s.inputs i v).opened

    three : (i v : ℕ) → i < s.config.ports → v < s.config.vcs → (credits_test i v ≡ true) × (queue_test i v ≡ true)
        × (packet_test i v ≡ true)
    unfolding input_sound
    three i v h g =
        let p = both (credits_test i v) (queue_test i v && packet_test i v) (input_at-law i v h g) in
        let q = both (queue_test i v) (packet_test i v) p.1 in
        (p.0, q.0, q.1)

    credits : Sound.credits_add_up s.config s.inputs s.wire s.home ≡ true
    unfolding Sound.credits_add_up
    credits = all_at credits_test (λ i v h g. (three i v h g).0)

    queues : Sound.queues_legal s.config s.inputs s.store ≡ true
    unfolding Sound.queues_legal
    queues = all_at queue_test (λ i v h g. (three i v h g).1)

    packets : Sound.packets_read s.config s.inputs s.store s.wire ≡ true
    unfolding Sound.packets_read
    packets = all_at packet_test (λ i v h g. (three i v h g).2)

    -- the three tests of the names
    abbrev output_test : ℕ → ℕ → Bool
    output_test o w = leb (output_at s.config s.outputs o w).credit s.config.downstream

    abbrev input_name_test : ℕ → ℕ → Bool
    input_name_test i v = Sound.input_named s.config s.outputs i v (input_at s.config s.inputs i v).binding

    abbrev output_name_test : ℕ → ℕ → Bool
    output_name_test o w = Sound.output_named s.config s.inputs o w (output_at s.config s.outputs o w).holder

    three_names : (i v : ℕ) → i < s.config.ports → v < s.config.vcs
        → (output_test i v ≡ true) × (input_name_test i v ≡ true) × (output_name_test i v ≡ true)
    unfolding names_sound
    three_names i v h g =
        let p = both (output_test i v) (input_name_test i v && output_name_test i v) (names_at i v h g) in
        let q = both (input_name_test i v) (output_name_test i v) p.1 in
        (p.0, q.0, q.1)

    outputs : Sound.output_credits_fit s.config s.outputs ≡ true
    unfolding Sound.output_credits_fit
    outputs = all_at output_test (λ o w h g. (three_names o w h g).0)

    names : Sound.names_agree s.config s.inputs s.outputs ≡ true
    unfolding Sound.names_agree
    names = ap₂ ◌&&◌ (all_at input_name_test (λ i v h g. (three_names i v h g).1)) (all_at output_name_test (λ o w h g. (three_names o w h g).2))

  -- a line's two clauses
  pub sound_wire : Sound.Sound s → (Sound.wire_legal s.config s.wire && Sound.line_unused s.config.forward s.config.ports
      s.wire) ≡ true
  sound_wire x = ap₂ ◌&&◌ x.sizes.wire x.sizes.wire_rest

  pub sound_home : Sound.Sound s → (Sound.home_legal s.config s.home
      && Sound.line_unused s.config.back s.config.ports s.home) ≡ true
  sound_home x = ap₂ ◌&&◌ x.sizes.home x.sizes.home_rest

  -- all tests together
  pub all_sound : illegal_field s.config ≡ None → s.cycle ≤ cycle_limit
      → (Sound.wire_legal s.config s.wire && Sound.line_unused s.config.forward s.config.ports s.wire) ≡ true
      → (Sound.home_legal s.config s.home && Sound.line_unused s.config.back s.config.ports s.home) ≡ true
      → Sound.arbiters_sound s.config s.arbiters ≡ true
      → Sound.arbiters_unused s.config s.arbiters ≡ true
      → Sound.channels_unused s.config s.inputs s.outputs ≡ true
      → Sound.slots_empty s.inputs s.store ≡ true
      → Sound.shaped s ≡ true
      → every_channel s.config channel_test ≡ true
      → Sound.Sound s
  unfolding Sound.configuration_legal is_none Sound.cycles_fit
  all_sound legal late wire home arbiters others channels slots shape e =
      let w = both (Sound.wire_legal s.config s.wire) (Sound.line_unused s.config.forward s.config.ports s.wire) wire in
      let h = both (Sound.home_legal s.config s.home) (Sound.line_unused s.config.back s.config.ports s.home) home in
      record {
        sizes =
            record {
              configuration = ap is_none legal;
              cycles = le-leb s.cycle cycle_limit late;
              wire = w.0;
              home = h.0;
              wire_rest = w.1;
              home_rest = h.1;
              shape = shape;
            };
        flow =
            record {
              credits = credits e;
              queues = queues e;
              output_credits = outputs e;
              channels = channels;
              slots = slots;
            };
        naming =
            record {
              names = names e;
              packets = packets e;
            };
        arbitration =
            record {
              arbiters = arbiters;
              others = others;
            };
      }

  -- the last test decides
  pub exact : (last : Bool) → last ≡ every_channel s.config channel_test → (every_channel
      s.config channel_test ≡ true → Sound.Sound s) → last ≡ sound s
  exact last e f = same_test last (sound s) (λ p. sound_passes s (f (sym e ∙ p))) (λ p. e ∙ sound_channels (passed_sound s p))

-- the arrays of a struct are as long as they are declared
pub shape_is : (s : Router) → length s.inputs ≡ 32 → length s.outputs ≡ 32 → length s.store ≡ 512 → length s.wire ≡ 64
    → length s.home ≡ 64 → Sound.shaped s ≡ true
unfolding Sound.shaped
shape_is s a b d e f =
    ap₂ ◌&&◌ (ap₂ ◌&&◌ (ap₂ ◌&&◌ (ap₂ ◌&&◌ (eq-eqb (length s.inputs) 32 a) (eq-eqb (length s.outputs) 32 b)) (eq-eqb (length
    s.store) 512 d)) (eq-eqb (length s.wire) 64 e)) (eq-eqb (length s.home) 64 f)

-- a list is as long as what is made of it
pub length_any : {A B : Type 0} (f : A → B) (l : List A) {n : ℕ} → length (map f l) ≡ n → length l ≡ n
length_any f l e = sym (length-map l f) ∙ e
