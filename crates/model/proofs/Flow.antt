-- One channel's numbers and order, as the history gives them. The send rule plays no part here.
-- Assumes nothing.
use mathlib.Core.Path.{◌≡◌, refl, sym, ap, ◌∙◌}
use mathlib.Core.List.{List, [], ◌∷◌, ◌++◌, map, map-append, append_assoc}
use Prim.Native.Nat.{ℕ, zero, suc, ◌+◌, ◌≤◌}
use native.Mathlib.Omega.{arith}
use lib.Seq.{drop-nil}
use lib.ListN.{length, length-append, length-map, take, drop, replicate}
use Rattle.model.specs.Lists.{flat, total}
use Rattle.model.specs.Line.{out, shift}
use Rattle.model.specs.Sizes.{Config, Delayed}
use Rattle.model.specs.Channel.{Channel, fresh_channel, reaching, queue_now, after_cycle, on_wire, going_home}
use Rattle.model.specs.History.{Entry, History, Offer, Departure, offers_on, departures_from, accepted, left_from, flits}
use Rattle.model.proofs.Lists.{total_lengths}
use Rattle.model.proofs.Lines.{line_of, line_fresh, line_shift, line_flat, gather_out, gather_out_le, gather_split}

-- the flits accepted on VC v of input i in one cycle
abbrev pub offers_in : {Flit : Type 0} → ℕ → ℕ → Entry Flit → List Flit
offers_in i v e = map (λ (o : Offer _). o.flit) (offers_on i v e)

pub record Flow {Flit : Type 0} (c : Config) (ch : Channel Flit) (h : History Flit) (i v : ℕ) : Type 0 where
  pub wire : ch.wire ≡ line_of (offers_in i v) c.forward h
  pub home : ch.home ≡ map length (line_of (departures_from i v) c.back h)
  pub order : flits (left_from i v h) ++ ch.queue ≡ accepted i v (drop c.forward h)
  pub taken : ch.taken + length (left_from i v (drop c.back h)) ≡ length (accepted i v h)

-- lengths along a line
empty_lengths : (A : Type 0) (n : ℕ) → replicate n 0 ≡ map {A = List A} length (replicate n [])
empty_lengths A zero = refl
empty_lengths A (suc n) = ap (λ (w : List ℕ). 0 ∷ w) (empty_lengths A n)

module _ {A : Type 0} where
  out_lengths : (w : List (List A)) → out 0 (map length w) ≡ length (out [] w)
  out_lengths [] = refl
  out_lengths (x ∷ w) = refl

  shift_lengths : (w : List (List A)) (x : List A) → shift (map length w) (length x) ≡ map length (shift w x)
  shift_lengths [] x = refl
  shift_lengths (y ∷ w) x = sym (map-append length w (x ∷ []))

pub flow_fresh : {Flit : Type 0} (c : Config) (i v : ℕ) → Flow {Flit = Flit} c (fresh_channel c) [] i v
flow_fresh {Flit} c i v =
    record {
      wire = line_fresh (offers_in i v) c.forward;
      home = empty_lengths (Departure Flit) c.back ∙ ap (map length) (line_fresh (departures_from i v) c.back);
      order = rw (drop-nil c.forward);
      taken = rw (drop-nil c.back);
    }

module _ {Flit : Type 0} (c : Config) (delayed : Delayed c) (ch : Channel Flit) (h : History Flit) (i v : ℕ) (flow : Flow c ch h i v) where
  -- What reaches the sender is what left B cycles ago.
  pub reaching_is : reaching ch ≡ length (out [] (line_of (departures_from i v) c.back h))
  reaching_is = rw flow.home (out_lengths (line_of (departures_from i v) c.back h))

  -- what has left with its credit back, one cycle on
  reached_more : (e : Entry Flit) → length (left_from i v (drop c.back (e ∷ h))) ≡ length (left_from i v (drop c.back h)) + reaching ch
  reached_more e =
      rw (gather_out (departures_from i v) c.back delayed.on_the_way_home e h, length-append, reaching_is)

  -- A credit that reaches its sender is of a slot that is taken.
  pub reaching_taken : Entry Flit → reaching ch ≤ ch.taken
  reaching_taken e =
      let left : length (left_from i v h) + length ch.queue
      ≡ length (accepted i v (drop c.forward h)) = simp (length-append, length-map) at
      (ap length flow.order) in
      let split : length (accepted i v h) ≡ length (accepted i v (drop c.forward h)) + length
      (accepted i v (take c.forward h)) = simp length-append at
      (ap length (gather_split (offers_in i v) c.forward h)) in
      omega (arith, reached_more e, gather_out_le (departures_from i v) c.back delayed.on_the_way_home e h, flow.taken)

  -- What is in the queue was accepted.
  pub queue_now_le : Entry Flit → length (queue_now ch) ≤ length (accepted i v h)
  queue_now_le e =
      let all : flits (left_from i v h) ++ queue_now ch ≡ accepted i v (drop c.forward (e ∷ h)) =
      rw (← append_assoc (flits (left_from i v h)), flow.order, flow.wire)
      (sym (gather_out (offers_in i v) c.forward delayed.on_the_way e h)) in
      simp length-append (omega (
        arith,
        simp length-append at (ap length all),
        gather_out_le (offers_in i v) c.forward
            delayed.on_the_way e h,
      ))

  -- The flow is kept by a cycle that takes from the front of the queue what it lets leave.
  pub flow_step : (e : Entry Flit) (n : ℕ) → length (departures_from i v e) ≡ n → flits (departures_from i v e) ++ drop n (queue_now ch)
      ≡ queue_now ch →
      Flow c (after_cycle ch (offers_in i v e) n) (e ∷ h) i v
  flow_step e n left moved =
      record {
        wire = rw flow.wire (line_shift (offers_in i v) c.forward delayed.on_the_way e h);
        home = rw (flow.home, ← left, shift_lengths (line_of (departures_from i v) c.back h) (departures_from i v e))
            (ap (map length) (line_shift (departures_from i v) c.back delayed.on_the_way_home e h));
        order =
            rw (
              map-append (λ (d : Departure Flit). d.flit) (left_from i v h) (departures_from i v e),
              append_assoc (flits (left_from i v h)),
              moved,
              ←
                  append_assoc (flits (left_from i v h)),
              flow.order,
              flow.wire,
            )
            (sym (gather_out (offers_in i v) c.forward delayed.on_the_way e h));
        taken = rw length-append (omega (arith, reached_more e, reaching_taken e, flow.taken));
      }

  -- the numbers of demand 3, over the newest and the older entries
  pub wire_newest : on_wire ch ≡ accepted i v (take c.forward h)
  wire_newest = ap flat flow.wire ∙ line_flat (offers_in i v) c.forward h

  pub home_newest : going_home ch ≡ length (left_from i v (take c.back h))
  home_newest = ap total flow.home ∙ total_lengths (line_of (departures_from i v) c.back h)
      ∙ ap length (line_flat (departures_from i v) c.back h)

  pub queue_older : length ch.queue + length (left_from i v h) ≡ length (accepted i v (drop c.forward h))
  queue_older = omega (arith, simp (length-append, length-map) at (ap length flow.order))

  -- "taken equals wire + queue + home"
  pub taken_is : ch.taken ≡ length (on_wire ch) + length ch.queue + going_home ch
  taken_is =
      let offers : length (accepted i v h) ≡ length (accepted i v (drop c.forward h)) + length
      (accepted i v (take c.forward h)) = simp length-append
      at (ap length (gather_split (offers_in i v) c.forward h)) in
      let lefts : length (left_from i v h) ≡ length (left_from i v (drop c.back h)) + length
      (left_from i v (take c.back h)) = simp length-append at
      (ap length (gather_split (departures_from i v) c.back h)) in
      omega (arith, ap length wire_newest, home_newest, queue_older, flow.taken)

  -- "The flits that left from that channel, then those buffered, then those on the wire, are exactly the flits accepted on it, in order."
  pub all_in_order : flits (left_from i v h) ++ ch.queue ++ on_wire ch ≡ accepted i v h
  all_in_order = rw (flow.order, wire_newest) (sym (gather_split (offers_in i v) c.forward h))
