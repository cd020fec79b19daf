-- What follows about times: no flit leaves before its cycle + F, and a credit is home B cycles after its flit left.
-- Assumes nothing.
use mathlib.Core.Path.{◌≡◌, refl, ap, ◌∙◌}
use mathlib.Core.Bool.{Bool, true, false, cond}
use mathlib.Core.List.{List, [], ◌∷◌, ◌++◌, map, map-append, append-nil}
use Prim.Native.Nat.{ℕ, zero, suc, ◌+◌, ◌≤◌, ◌<◌}
use native.Mathlib.Nat.{add-suc, suc-add, zero-add}
use native.Mathlib.Omega.{arith}
use lib.Dec.{leb, leb→le}
use lib.Seq.{append_snoc, drop-nil}
use lib.ListN.{length, length-append, length-map, take, drop, replicate}
use Rattle.model.specs.Lists.{All}
use Rattle.model.specs.Line.{out}
use Rattle.model.specs.Sizes.{Config, Delayed}
use Rattle.model.specs.Flit.{Look}
use Rattle.model.specs.Channel.{reaching}
use Rattle.model.specs.Router.{Router, InVc}
use Rattle.model.specs.Cycle.{Event, Choice}
use Rattle.model.specs.History.{Entry, History, Offer, Departure, Numbered, up_to, offers_on, departures_from, accepted, left_from}
use Rattle.model.specs.Step.{entry, step}
use Rattle.model.specs.Run.{Run, start, accept}
use Rattle.model.specs.Times.{Later, reached_for, accepted_in, left_in, reached_in}
use Rattle.model.proofs.Lists.{all_append}
use Rattle.model.proofs.Lines.{line_of, back, line_out, gather_out, gather_split}
use Rattle.model.proofs.Numbers.{up_to_older}
use Rattle.model.proofs.Entries.{entry_reached}
use Rattle.model.proofs.Flow.{queue_older, reaching_is, reaching_taken}
use Rattle.model.proofs.Invariant.{Inv, inv_run}

-- Laws of `Later`: with more first times, with second times from now, with fewer second times, with all second times m later.
later_more : (n : ℕ) (firsts seconds more : List ℕ) → Later n firsts seconds → Later n (firsts ++ more) seconds
later_more n fs [] more l = tt
later_more n [] (b ∷ bs) more l = absurd l
later_more n (a ∷ fs) (b ∷ bs) more l = (l.0, later_more n fs bs more l.1)

later_next : (n now : ℕ) (firsts more seconds : List ℕ) → Later n (firsts ++ more) seconds → length seconds < length firsts
    → All (λ a. a + n ≤ now) firsts →
    Later n (firsts ++ more) (seconds ++ (now ∷ []))
later_next n now [] more bs l k q = absurd (omega arith)
later_next n now (a ∷ fs) more [] l k q = (q.0, tt)
later_next n now (a ∷ fs) more (b ∷ bs) l k q = (l.0, later_next n now fs more bs l.1 (omega arith) q.1)

later_now : {A : Type 0} (n now : ℕ) (firsts more seconds : List ℕ) (xs : List A) → Later n (firsts ++ more) seconds →
    length seconds + length xs ≤ length firsts → All (λ a. a + n ≤ now) firsts
    → Later n (firsts ++ more) (seconds ++ map (λ (x : A). now) xs)
later_now n now fs more bs [] l k q = rw (append-nil bs) l
later_now n now fs more bs (x ∷ xs) l k q =
    rw (← append_snoc bs now (map (λ (y : _). now) xs))
    (later_now n now fs more (bs ++ (now ∷ [])) xs (later_next n now fs more bs l (omega arith) q) (simp length-append (omega arith)) q)

later_fewer : (n : ℕ) (firsts seconds more : List ℕ) → Later n firsts (seconds ++ more) → Later n firsts seconds
later_fewer n fs [] more l = tt
later_fewer n [] (b ∷ bs) more l = absurd l
later_fewer n (a ∷ fs) (b ∷ bs) more l = (l.0, later_fewer n fs bs more l.1)

later_still : (n m : ℕ) (firsts seconds : List ℕ) → Later n firsts seconds → Later (n + m) firsts (map (λ (b : ℕ). b + m) seconds)
later_still n m fs [] l = tt
later_still n m [] (b ∷ bs) l = absurd l
later_still n m (a ∷ fs) (b ∷ bs) l = (omega arith, later_still n m fs bs l.1)

module _ {Flit : Type 0} (i v : ℕ) where
  -- one time for each flit
  accepted_in_length : (h : History Flit) → length (accepted_in i v h) ≡ length (accepted i v h)
  accepted_in_length [] = refl
  accepted_in_length (e ∷ h) = simp (length-append, length-map, accepted_in_length h)

  left_in_length : (h : History Flit) → length (left_in i v h) ≡ length (left_from i v h)
  left_in_length [] = refl
  left_in_length (e ∷ h) = simp (length-append, length-map, left_in_length h)

  -- what was accepted up to t−n was accepted at least n before t
  accepted_early : (t n : ℕ) (h : History Flit) → All (λ a. a + n ≤ t) (accepted_in i v (up_to t n h))
  accepted_early t n [] = tt
  accepted_early t n (e ∷ h) = go (leb (e.cycle + n) t) refl (accepted_early t n h)
    where
      here : e.cycle + n ≤ t → (os : List (Offer Flit)) → All (λ a. a + n ≤ t) (map (λ (o : Offer Flit). e.cycle) os)
      here l [] = tt
      here l (o ∷ os) = (l, here l os)

      go : (b : Bool) → leb (e.cycle + n) t ≡ b → All (λ a. a + n ≤ t) (accepted_in i v (up_to t n h)) →
          All (λ a. a + n ≤ t) (accepted_in i v (cond b (e ∷ up_to t n h) (up_to t n h)))
      go true q ih = all_append (λ a. a + n ≤ t) (accepted_in i v (up_to t n h)) (map (λ (o : Offer Flit). e.cycle) (offers_on i v e)) ih
          (here (leb→le (e.cycle + n) t (rw q tt)) (offers_on i v e))
      go false q ih = ih

-- a list of one time for each of some things
same_times : {A : Type 0} (n m : ℕ) (xs : List A) → map (λ (a : ℕ). a + m) (map (λ (x : A). n) xs) ≡ replicate (length xs) (n + m)
same_times n m [] = refl
same_times n m (x ∷ xs) = ap (λ (r : List ℕ). (n + m) ∷ r) (same_times n m xs)

times_alike : {A : Type 0} (n m : ℕ) (x : A) → map (λ (y : A). n) (replicate m x) ≡ replicate m n
times_alike n zero x = refl
times_alike n (suc m) x = ap (λ (r : List ℕ). n ∷ r) (times_alike n m x)

module _ {Flit : Type 0} (i v : ℕ) where
  abbrev left_at : Entry Flit → List ℕ
  left_at e = map (λ (d : Departure Flit). e.cycle) (departures_from i v e)

  -- what lies m cycles back before cycle n left m + 1 cycles before it
  back_times : (m k j n : ℕ) (h : History Flit) → Numbered k h → k + j ≡ n →
      map (λ (a : ℕ). a + (j + suc m)) (back left_at m h) ≡ replicate (length (back (departures_from i v) m h)) n
  back_times m k j n [] q l = refl
  back_times zero k j n (e ∷ h) q l = same_times e.cycle (j + 1) (departures_from i v e) ∙ ap (replicate (length (departures_from i v e)))
      (let r : e.cycle + (j + 1) ≡ n = omega arith in r)
  back_times (suc m) k j n (e ∷ h) q l = rw (add-suc j (suc m), ← suc-add j (suc m))
      (back_times m e.cycle (suc j) n h q.1 (omega arith))

  -- what comes out of a line of B places in cycle n left in cycle n − B
  out_times : (B n : ℕ) (h : History Flit) → 1 ≤ B → Numbered n h →
      map (λ (a : ℕ). a + B) (out [] (line_of left_at B h)) ≡ replicate (length (out [] (line_of (departures_from i v) B h))) n
  out_times zero n h l q = absurd (omega arith)
  out_times (suc m) n h l q = rw (line_out left_at m h, line_out (departures_from i v) m h)
      (rw (zero-add (suc m)) at (back_times m n 0 n h q (omega arith)))

module _ {Flit : Type 0} (look : Look Flit) (c : Config) (delayed : Delayed c) (i v : ℕ) where
  -- One cycle on: what left now is no more than what was accepted at least F ago.
  left_now : (s : Router Flit) (now : Entry Flit) (h : History Flit) → Inv look c s (now ∷ h)
      → Later c.forward (accepted_in i v h) (left_in i v h) →
      Later c.forward (accepted_in i v (now ∷ h)) (left_in i v (now ∷ h))
  left_now s now h inv before =
      let F = c.forward in
      let all = now ∷ h in
      let split : accepted_in i v all ≡ accepted_in i v (drop F all) ++ accepted_in i v (take F all) = gather_split
      (λ (e : Entry Flit). map (λ (o : Offer Flit). e.cycle) (offers_on i v e)) F all in
      let older : up_to now.cycle F all ≡ drop F all = up_to_older now.cycle F all (refl, inv.numbered.1) in
      let more = later_more F (accepted_in i v h) (left_in i v h) (map (λ (o : Offer Flit). now.cycle) (offers_on i v now)) before in
      let room : length (left_in i v h) + length (departures_from i v now) ≤ length (accepted_in i v (drop F all)) =
      omega (
        arith,
        queue_older c delayed (s.channel i v) all i v (inv.flow i v),
        accepted_in_length i v (drop F all),
        left_in_length i v h,
        length-append
            (left_from i v h) (departures_from i v now),
      ) in
      rw split (later_now F now.cycle (accepted_in i v (drop F all)) (accepted_in i v (take F all)) (left_in i v h) (departures_from i v now)
      (rw split at more) room (rw older at (accepted_early i v now.cycle F all)))

  -- "So a flit accepted in cycle t leaves in t+F at the earliest": the cycles in which a channel's flits left, against those in which
  -- they were accepted.
  pub leaves_after_f : {s : Router Flit} {h : History Flit} → Run look c s h → Later c.forward (accepted_in i v h) (left_in i v h)
  leaves_after_f start = tt
  leaves_after_f (accept {s = s} {h = h} run e k legal) =
      left_now (step look c s e k) (entry c s e k) h (inv_run look c delayed (accept run e k legal)) (leaves_after_f run)

  -- One cycle on: the credits that reach the sender now are of the flits that left B ago.
  reached_now : (s : Router Flit) (h : History Flit) → Inv look c s h → (e : Event Flit) (k : Choice) →
      reached_in i v h ≡ map (λ (a : ℕ). a + c.back) (left_in i v (drop c.back h)) →
      reached_in i v (entry c s e k ∷ h) ≡ map (λ (a : ℕ). a + c.back) (left_in i v (drop c.back (entry c s e k ∷ h)))
  reached_now s h inv e k before =
      let now = entry c s e k in
      let flow = inv.flow i v in
      let none_beyond : ¬ ((i < c.ports) × (v < c.vcs)) →
      reaching (s.channel i v) ≡ 0 = λ out. omega
      (arith, reaching_taken c delayed (s.channel i v) h i v flow now, flow.taken, ap length (inv.beyond i v out)) in
      let reached : reached_for i v now ≡ replicate (reaching (s.channel i v))
      (record { input = i; vc = v }) = entry_reached c s e k i v none_beyond in
      rw (
        before,
        gather_out (left_at i v) c.back delayed.on_the_way_home now h,
        map-append (λ (a : ℕ). a + c.back) (left_in i v (drop c.back h)),
        out_times i v c.back s.cycle h delayed.on_the_way_home inv.numbered,
        ← reaching_is c delayed (s.channel i v) h i v flow,
        reached,
        times_alike {A = InVc} s.cycle (reaching (s.channel i v)) (record { input = i; vc = v }),
      )

  reached_older : {s : Router Flit} {h : History Flit} → Run look c s h → reached_in i v h
      ≡ map (λ (a : ℕ). a + c.back) (left_in i v (drop c.back h))
  reached_older start = rw (drop-nil c.back)
  reached_older (accept {s = s} {h = h} run e k legal) = reached_now s h (inv_run look c delayed run) e k (reached_older run)

  -- A credit of a channel reaches its sender in cycle t exactly when a flit left the channel in t−B: the cycles in which its credits
  -- reached the sender, up to
  -- cycle t, are those in which its flits left, up to t−B, each B later.
  pub reaches_after_b : {s : Router Flit} {h : History Flit} {now : Entry Flit} → Run look c s (now ∷ h) →
      reached_in i v (now ∷ h) ≡ map (λ (a : ℕ). a + c.back) (left_in i v (up_to now.cycle c.back (now ∷ h)))
  reaches_after_b {h = h} {now = now} run = rw (up_to_older now.cycle c.back (now ∷ h) (refl, (inv_run look c delayed run).numbered.1))
      (reached_older run)

  -- ".. and its credit serves again in t+F+B": the cycles in which a channel's credits reached the sender, against those in which their
  -- flits were accepted.
  pub serves_after_f_and_b : {s : Router Flit} {h : History Flit} → Run look c s h
      → Later (c.forward + c.back) (accepted_in i v h) (reached_in i v h)
  serves_after_f_and_b {h = h} run =
      rw (reached_older run)
      (later_still c.forward c.back (accepted_in i v h) (left_in i v (drop c.back h))
      (later_fewer c.forward (accepted_in i v h) (left_in i v (drop c.back h)) (left_in i v (take c.back h))
      (rw (gather_split (left_at i v) c.back h) at (leaves_after_f run))))
