-- No departure is lost on the way into the history, and none doubled: the entry of an accepted cycle has of each output what the reply
-- reports there, as many departures as the list has F lines of the cycle, and as many credits that reached their sender as C lines. Only
-- that the cycle is accepted is asked.
-- Assumes nothing.
use Rattle.std.specs.Prelude.{Option, Ok}
use mathlib.Core.Path.{◌≡◌, refl, sym, ap, ◌∙◌}
use mathlib.Core.Bool.{Bool, cond}
use mathlib.Core.List.{List, [], ◌++◌}
use Rattle.std.specs.Prelude.{Some, None}
use Prim.Native.Nat.{ℕ, zero, suc, ◌≤◌, ◌<◌}
use native.Mathlib.Decide.{ℕ_discrete}
use native.Mathlib.Omega.{arith}
use lib.Dec.{eqb}
use lib.ListN.{length, length-append, get_or}
use borrow.Author.Tests.{eq-eqb, ne_eqb}
use Rattle.base.specs.declared.config.Config.{Config}
use Rattle.base.specs.declared.flit.Flit.{Flit}
use Rattle.base.specs.declared.reply.Reply.{Reply}
use Rattle.base.specs.Sizes.{most_ports}
use Rattle.listing.specs.Lines.{Line, by_port, credit_line, flit_line, cycle_lines, flit_lines}
use Rattle.listing.proofs.Counting.{flit_lines_append, cycle_flit_lines}
use Rattle.listing.proofs.Ports.{no_credit, one_credit, no_flit, one_flit}
use Rattle.base.specs.declared.reply.Departure as reply
use Rattle.model.specs.History.{Departure}
use Rattle.model.specs.Lists.{keep, each}
use Rattle.state.specs.declared.Router.{Router}
use Rattle.trace.specs.Bytes.{AreBytes}
use Rattle.rules.specs.declared.Stepped.{Stepped}
use Rattle.rules.specs.Step.{reply_of, step_of}
use Rattle.rules.proofs.Accepted.{accepted_before, accepted_steps}
use Rattle.rules.proofs.Facts.{sound_legal}
use Rattle.rules.proofs.Reported.{reported_past}
use Rattle.history.specs.Run.{departure_in, reached_in, entry_of}
use Rattle.history.proofs.Told.{told_at}
use Rattle.history.proofs.Printable.{left_there}

module _ {A : Type 0} (f : ℕ → List A) (lines : ℕ → List Line) where
  -- where each port has as many lines, all ports have
  ports_each : (n : ℕ) → ((i : ℕ) → i < n → length (f i) ≡ length (lines i)) → length (each n f) ≡ length (by_port lines n)
  unfolding by_port
  ports_each zero same = refl
  ports_each (suc n) same =
      omega (
        arith,
        length-append (each n f) (f n),
        length-append (by_port lines n) (lines n),
        ports_each n
            (λ i l. same i (omega arith)),
        same n (omega arith),
      )

  -- also if more ports follow that have none
  ports_past : (p n : ℕ) → p ≤ n → ((i : ℕ) → i < p → length (f i) ≡ length (lines i)) → ((i : ℕ) → p ≤ i → i < n → lines i ≡ [])
      → length (each p f) ≡ length (by_port lines n)
  unfolding by_port
  ports_past p zero past same empty = let e : p ≡ 0 = omega (arith, past) in ap (λ (k : ℕ). length (each k f)) e
  ports_past p (suc n) past same empty = go (ℕ_discrete p (suc n)) (λ few. ports_past p n few same (λ i a b. empty i a (omega arith)))
    where
      go : Dec (p ≡ suc n) → (p ≤ n → length (each p f) ≡ length (by_port lines n)) → length (each p f) ≡ length (by_port lines n ++ lines n)
      go (yes e) before =
          ap (λ (k : ℕ). length (each k f)) e
          ∙ ports_each (suc n) (λ i l. same i (omega (arith, l, e)))
      go (no ne) before =
          let few : p ≤ n = omega (arith, past, ne) in
          omega (arith, length-append (by_port lines n) (lines n), before few, ap length (empty n few (omega arith)))

module _ (s : Router) (part : List ℕ) (bytes : AreBytes part) (accepted : (step_of s part).verdict ≡ Ok tt) where
  abbrev c : Config
  c = s.config

  abbrev told : Reply
  told = (step_of s part).reply

  abbrev left_at : ℕ → Option reply.Departure
  left_at o = (get_or told.outputs o None)

  abbrev reached_at : ℕ → Option ℕ
  reached_at i = (get_or told.senders i None)

  few : c.ports ≤ 8
  few = (sound_legal s (accepted_before s part bytes accepted)).ports.1

  -- an output has one F line for its departure, and one that there is not has none
  flit_each : (o : ℕ) → length (departure_in o (left_at o)) ≡ length (flit_line s.cycle told o)
  flit_each o = go (left_at o) refl
    where
      go : (l : Option reply.Departure) → left_at o ≡ l → length (departure_in o l) ≡ length (flit_line s.cycle told o)
      go None q = ap length (sym (no_flit s.cycle told o q))
      go (Some d) q = ap length (sym (one_flit s.cycle told o d q))

  flit_past : (o : ℕ) → c.ports ≤ o → flit_line s.cycle told o ≡ []
  flit_past o past = go (left_at o) refl
    where
      go : (l : Option reply.Departure) → left_at o ≡ l → flit_line s.cycle told o ≡ []
      go None q = no_flit s.cycle told o q
      go (Some d) q = absurd (omega (arith, left_there s part bytes accepted o d q, past))

  -- an input has one C line for the credit that reached its sender, and one that there is not has none
  credit_each : (i : ℕ) → length (reached_in i (reached_at i)) ≡ length (credit_line s.cycle told i)
  credit_each i = go (reached_at i) refl
    where
      go : (r : Option ℕ) → reached_at i ≡ r → length (reached_in i r) ≡ length (credit_line s.cycle told i)
      go None q = ap length (sym (no_credit s.cycle told i q))
      go (Some v) q = ap length (sym (one_credit s.cycle told i v q))

  credit_past : (i : ℕ) → c.ports ≤ i → i < 8 → credit_line s.cycle told i ≡ []
  unfolding reply_of
  credit_past i past l =
      no_credit s.cycle told i
      (ap (λ (x : Stepped). (get_or x.reply.senders i None)) (accepted_steps s part bytes accepted)
      ∙ (reported_past c s.home i past l))

  -- the lines of the outputs are F lines
  flit_lines_each : (n : ℕ) → length (by_port (flit_line s.cycle told) n) ≡ flit_lines (by_port (flit_line s.cycle told) n)
  unfolding by_port flit_lines
  flit_lines_each zero = refl
  flit_lines_each (suc n) =
      let lines = flit_line s.cycle told in
      omega (
        arith,
        length-append (by_port lines n) (lines n),
        flit_lines_append (by_port lines n) (lines n),
        flit_lines_each n,
        one
            (left_at n) refl,
      )
    where
      one : (l : Option reply.Departure) → left_at n ≡ l → length (flit_line s.cycle told n) ≡ flit_lines (flit_line s.cycle told n)
      one None q = rw (no_flit s.cycle told n q)
      one (Some d) q = rw (one_flit s.cycle told n d q)

  -- What the entry has of output o is what the reply reports there, and nothing else.
  pub departures_told : (o : ℕ) → keep (λ (d : Departure Flit). eqb d.output o) (entry_of c s.cycle part told).departures
      ≡ departure_in o (left_at o)
  unfolding entry_of
  departures_told o =
      told_at s part bytes accepted (λ (d : Departure Flit). eqb d.output o) o (λ d ne. ne_eqb d.output o ne) ∙ own (left_at o)
    where
      own : (l : Option reply.Departure) → keep (λ (d : Departure Flit). eqb d.output o) (departure_in o l) ≡ departure_in o l
      own None = refl
      own (Some d) = ap (λ (b : Bool). cond b (departure_in o (Some d)) []) (eq-eqb o o refl)

  -- No departure that the reply reports is lost, and none is doubled: the entry has one for each F line.
  pub departures_all : length (entry_of c s.cycle part told).departures ≡ flit_lines (cycle_lines s.cycle told)
  unfolding entry_of
  departures_all =
      ports_past (λ o. departure_in o (left_at o)) (flit_line s.cycle told) c.ports 8 few (λ o l. flit_each o)
      (λ o past l. flit_past o past)
      ∙ flit_lines_each 8
      ∙ sym (cycle_flit_lines s.cycle told)

  -- Nor is a credit that reached its sender: the entry has one for each C line.
  pub reached_all : length (entry_of c s.cycle part told).reached ≡ length (by_port (credit_line s.cycle told) most_ports)
  unfolding entry_of
  reached_all =
      ports_past (λ i. reached_in i (reached_at i)) (credit_line s.cycle told) c.ports 8 few
      (λ i l. credit_each i) credit_past
