-- The reply of an accepted cycle is within the writer's ranges: its lines are never refused with 12, they have at most 376 bytes, and F
-- lines at most as many as ports. Only that the cycle is accepted is asked: then the router was sound, and the run not full.
-- Assumes nothing.
use Rattle.std.specs.Prelude.{Ok}
use mathlib.Core.Path.{◌≡◌, refl, sym, ap, ap₂, subst, ◌∙◌}
use mathlib.Core.Bool.{Bool, true, false, ◌&&◌}
use mathlib.Core.List.{List, [], ◌∷◌, ◌++◌}
use Rattle.std.specs.Prelude.{Option, Some, None}
use Rattle.std.proofs.lemmas.Option.{none-some}
use Prim.Native.Nat.{ℕ, zero, suc, ◌+◌, ◌^◌, ◌≤◌, ◌<◌, zero-le}
use native.Mathlib.Omega.{arith}
use lib.Dec.{leb, ltb}
use lib.ListN.{length, get_or}
use borrow.Author.Tests.{leb-true, ltb-true, ltb-false}
use Rattle.base.specs.declared.config.Config.{Config}
use Rattle.base.specs.declared.flit.Flit.{Flit}
use Rattle.base.specs.declared.reply.Departure.{Departure}
use Rattle.base.specs.declared.reply.Reply.{Reply}
use Rattle.base.specs.Flit.{kind_of, head, single}
use Rattle.base.specs.Numbers.{room}
use Rattle.base.specs.Sizes.{cycle_limit}
use Rattle.base.proofs.Configurations.{Legal, in_range-law}
use Rattle.base.proofs.Search.{both}
use Rattle.listing.specs.Lines.{Line, credit, flit, values_of, all_in_range, printable, text, by_port, credit_line, flit_line, cycle_lines}
use Rattle.listing.specs.Lines.{flit_lines}
use Rattle.listing.proofs.Counting.{flit_lines_append, flit_none, flit_most, flits_most, cycle_flit_lines}
use Rattle.listing.proofs.Lengths.{cycle_length-law}
use Rattle.listing.proofs.Ports.{printable_append, no_credit, one_credit, no_flit, one_flit, cycle_printable}
use Rattle.listing.proofs.Ranges.{FlitIn}
use Rattle.state.specs.declared.Router.{Router}
use Rattle.state.specs.Sound.{Sound, legal_flit}
use Rattle.state.specs.Views.{home_place}
use Rattle.trace.specs.Bytes.{AreBytes}
use Rattle.rules.specs.declared.Stepped.{Stepped}
use Rattle.rules.specs.Allocation.{allocated}
use Rattle.rules.specs.Intake.{reported, credits_reached, credits_returned, landed, offers_taken}
use Rattle.rules.specs.Step.{taken_in, reply_of, step_of}
use Rattle.rules.proofs.Accepted.{none_early, readied, accepted_none, accepted_before, accepted_steps, readied_sound}
use Rattle.rules.proofs.Departed.{LeavesBy, reported_exits}
use Rattle.rules.proofs.Exits.{exit_is}
use Rattle.rules.proofs.Facts.{sound_legal, home_at}
use Rattle.rules.proofs.LeftNames.{exit_named}
use Rattle.rules.proofs.Named.{named_there}
use Rattle.rules.proofs.Reported.{reported_at, reported_past}
use Rattle.history.proofs.Written.{front_legal}

-- a line whose values are in their ranges prints
credit_prints : (cycle i v : ℕ) → cycle < cycle_limit → i < 8 → v < 4 → printable (credit cycle i v ∷ []) ≡ true
unfolding printable values_of all_in_range
credit_prints cycle i v early port vc =
    rw (in_range-law cycle 0 999999999 zero-le (omega arith), in_range-law i 0 7 zero-le (omega arith), in_range-law v 0 3 zero-le (omega arith))

flit_prints : (cycle o : ℕ) (d : Departure) → FlitIn cycle o d → printable (flit cycle o d ∷ []) ≡ true
unfolding printable values_of all_in_range
flit_prints cycle o d is =
    let when = in_range-law cycle 0 999999999 zero-le (omega arith) in
    let output = in_range-law o 0 7 zero-le (omega arith) in
    let by = in_range-law d.out_vc 0 3 zero-le (omega arith) in
    let input = in_range-law d.input 0 7 zero-le (omega arith) in
    let vc = in_range-law d.vc 0 3 zero-le (omega arith) in
    let kind = in_range-law d.kind 1 4 is.kind_least is.kind_most in
    λ t. (when t && (output t && (by t && (input t && (vc t && (kind t && true)))))) && true

module _ (f : ℕ → List Line) where
  -- where each port's lines print, all do
  ports_print : (n : ℕ) → ((i : ℕ) → i < n → printable (f i) ≡ true) → printable (by_port f n) ≡ true
  unfolding by_port printable
  ports_print zero each = refl
  ports_print (suc n) each =
      printable_append (by_port f n) (f n) ∙ ap₂ ◌&&◌ (ports_print n (λ i h. each i (omega arith))) (each n (omega arith))

-- the kind of a legal flit
legal_kind : (c : Config) (f : Flit) → legal_flit c f ≡ true → (1 ≤ kind_of f) × (kind_of f ≤ 4)
unfolding legal_flit
legal_kind c f e =
    let p = both _ (ltb f.word (2 ^ 38)) e in
    let q = both (leb head (kind_of f) && leb (kind_of f) single) _ p.0 in
    let r = both (leb head (kind_of f)) (leb (kind_of f) single) q.0 in
    (leb-true head (kind_of f) r.0, leb-true (kind_of f) single r.1)

module _ (s : Router) (part : List ℕ) (bytes : AreBytes part) (accepted : (step_of s part).verdict ≡ Ok tt) where
  abbrev c : Config
  c = s.config

  -- the router before phase 6
  abbrev mid : Router
  mid = readied part s

  abbrev reply : Reply
  reply = (step_of s part).reply

  before : Sound s
  before = accepted_before s part bytes accepted

  legal : Legal c
  legal = sound_legal s before

  early : s.cycle < cycle_limit
  early = none_early s part (accepted_none s part bytes accepted)

  -- a credit is reported at a port that there is, for a VC that there is
  reached_there : (i v : ℕ) → i < 8 → (get_or reply.senders i None) ≡ Some v → v < c.vcs
  unfolding reply_of
  reached_there i v h e = go (ltb i c.ports) refl
    where
      said : (get_or (reported c s.home) i None) ≡ Some v
      said = ap (λ (x : Stepped). (get_or x.reply.senders i None)) (sym (accepted_steps s part bytes accepted)) ∙ e

      go : (b : Bool) → ltb i c.ports ≡ b → v < c.vcs
      go true t =
          let port = ltb-true i c.ports t in
          named_there (home_place s.home 0 i) c.vcs v (home_at s before 0 i legal.back.0 port)
          (sym (reported_at c s.home i port legal.ports.1) ∙ said)
      go false t =
          absurd (none-some v (sym (reported_past c s.home i (ltb-false i c.ports t) h) ∙ said))

  -- a flit is reported at an output that there is
  pub left_there : (o : ℕ) (d : Departure) → LeavesBy reply o d → o < c.ports
  unfolding allocated taken_in offers_taken landed credits_returned credits_reached
  left_there o d l =
      let a = reported_exits s part bytes accepted o d l in
      (exit_named mid (readied_sound s part bytes accepted) o a.0 a.1).0

  -- and in its ranges
  left_in : (o : ℕ) (d : Departure) → LeavesBy reply o d → FlitIn s.cycle o d
  unfolding allocated taken_in offers_taken landed credits_returned credits_reached
  left_in o d l =
      let a = reported_exits s part bytes accepted o d l in
      let sound = readied_sound s part bytes accepted in
      let named = exit_named mid sound o a.0 a.1 in
      let wins = (exit_is mid o a.0 a.1).wins in
      let kind = legal_kind c a.0.flit (front_legal mid sound o a.0 named.0 a.1) in
      let ports = legal.ports.1 in
      let vcs = legal.vcs.1 in
      subst (FlitIn s.cycle o) a.2 (record {
        cycle_in = early;
        output_in = omega arith;
        out_vc_in = omega arith;
        input_in = omega arith;
        vc_in = omega arith;
        kind_least = kind.0;
        kind_most = kind.1;
      })

  credit_lines_print : (i : ℕ) → i < 8 → printable (credit_line s.cycle reply i) ≡ true
  unfolding printable
  credit_lines_print i h = go (get_or reply.senders i None) refl
    where
      go : (r : Option ℕ) → (get_or reply.senders i None) ≡ r → printable (credit_line s.cycle reply i) ≡ true
      go None e = ap printable (no_credit s.cycle reply i e)
      go (Some v) e =
          let there = reached_there i v h e in
          let vcs = legal.vcs.1 in
          ap printable (one_credit s.cycle reply i v e) ∙ credit_prints s.cycle i v early h (omega arith)

  flit_lines_print : (o : ℕ) → o < 8 → printable (flit_line s.cycle reply o) ≡ true
  unfolding printable
  flit_lines_print o h = go (get_or reply.outputs o None) refl
    where
      go : (r : Option Departure) → (get_or reply.outputs o None) ≡ r → printable (flit_line s.cycle reply o) ≡ true
      go None e = ap printable (no_flit s.cycle reply o e)
      go (Some d) e = ap printable (one_flit s.cycle reply o d e) ∙ flit_prints s.cycle o d (left_in o d e)

  -- "Range: kind 1..4; cycle below 10^9 in C and F lines, ..; ports 0..7, VCs 0..3": of every line of an accepted cycle
  pub reply_printable : printable (cycle_lines s.cycle reply) ≡ true
  reply_printable =
      cycle_printable s.cycle reply
      ∙ ap₂ ◌&&◌ (ports_print (credit_line s.cycle reply) 8 credit_lines_print)
      (ports_print (flit_line s.cycle reply) 8 flit_lines_print)

  -- "Longest cycle: .. 376 bytes."
  pub reply_fits : length (text (cycle_lines s.cycle reply)) ≤ room
  reply_fits = cycle_length-law s.cycle reply reply_printable

  -- an output that there is not has no F line
  past_none : (o : ℕ) → c.ports ≤ o → flit_lines (flit_line s.cycle reply o) ≡ 0
  past_none o past = go (get_or reply.outputs o None) refl
    where
      go : (r : Option Departure) → (get_or reply.outputs o None) ≡ r → flit_lines (flit_line s.cycle reply o) ≡ 0
      go None e = flit_none s.cycle reply o e
      go (Some d) e = let there = left_there o d e in absurd (omega (arith, there, past))

  flits_few : (n : ℕ) → flit_lines (by_port (flit_line s.cycle reply) n) ≤ c.ports
  unfolding by_port flit_lines
  flits_few zero = zero-le
  flits_few (suc n) = go (ltb n c.ports) refl (flits_few n)
    where
      more : flit_lines (by_port (flit_line s.cycle reply) n ++ flit_line s.cycle reply n)
          ≡ flit_lines (by_port (flit_line s.cycle reply) n) + flit_lines (flit_line s.cycle reply n)
      more = flit_lines_append (by_port (flit_line s.cycle reply) n) (flit_line s.cycle reply n)

      go : (b : Bool) → ltb n c.ports ≡ b → flit_lines (by_port (flit_line s.cycle reply) n) ≤ c.ports
          → flit_lines (by_port (flit_line s.cycle reply) n ++ flit_line s.cycle reply n) ≤ c.ports
      go true e before = omega (arith, more, flit_most s.cycle reply n, flits_most s.cycle reply n, ltb-true n c.ports e)
      go false e before = omega (arith, more, past_none n (ltb-false n c.ports e))

  -- at most one flit leaves each output, so k accepted cycles have at most k·P F lines
  pub flits_at_most_ports : flit_lines (cycle_lines s.cycle reply) ≤ c.ports
  flits_at_most_ports = subst (λ (n : ℕ). n ≤ c.ports) (sym (cycle_flit_lines s.cycle reply)) (flits_few 8)
