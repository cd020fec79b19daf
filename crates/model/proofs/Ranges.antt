-- What follows about ports and VCs: nothing is ever held beyond the ranges, and no binding or departure names anything beyond them.
-- Assumes nothing.
use mathlib.Core.Path.{◌≡◌, refl, ap, ◌∙◌}
use mathlib.Core.Logic.{◌≢◌}
use mathlib.Core.Bool.{true}
use Rattle.std.specs.Prelude.{Option, None, Some}
use Rattle.std.proofs.lemmas.Option.{none-some}
use mathlib.Core.List.{List, [], ◌∷◌, ◌++◌, append_assoc}
use Prim.Native.Nat.{ℕ, ◌<◌}
use native.Mathlib.Omega.{arith}
use lib.ListN.{length, drop}
use Rattle.model.specs.Lists.{All, flat}
use Rattle.model.specs.Sizes.{Config, Delayed}
use Rattle.model.specs.Flit.{Look}
use Rattle.model.specs.Channel.{queue_now, on_wire}
use Rattle.model.specs.Router.{Router, OutVc}
use Rattle.model.specs.Cycle.{Event, Choice}
use Rattle.model.specs.History.{History, Departure, departures_on, accepted, left_from, left_on, flits}
use Rattle.model.specs.Phases.{offered, granted, bound_now}
use Rattle.model.specs.Step.{entry}
use Rattle.model.specs.Legal.{Legal, Asks}
use Rattle.model.specs.Run.{Run, start, accept}
use Rattle.model.specs.Limits.{InRange}
use Rattle.model.proofs.Lists.{all_append, all_left, all_right}
use Rattle.model.proofs.Cases.{offered_cases}
use Rattle.model.proofs.Entries.{entry_source}
use Rattle.model.proofs.Flow.{queue_now_le, all_in_order}
use Rattle.model.proofs.Invariant.{Inv, inv_run, still_held, now_offers, bound_before}

asks_none : {Flit : Type 0} (look : Look Flit) (q : List Flit) (o : ℕ) → length q ≡ 0 → ¬ Asks look q o
asks_none look [] o e a = a
asks_none look (f ∷ q) o e a = absurd (omega arith)

module _ {Flit : Type 0} (look : Look Flit) (c : Config) (delayed : Delayed c) where
  -- Beyond the ports and VCs no slot is ever taken, so that no flit is on the wire or queued there and no credit on its way.
  pub nothing_beyond : {s : Router Flit} {h : History Flit} → Run look c s h → (i v : ℕ) → ¬ InRange c i v → (s.channel i v).taken ≡ 0
  nothing_beyond run i v out = let inv = inv_run look c delayed run in omega (arith, (inv.flow i v).taken, ap length (inv.beyond i v out))

  -- Nothing beyond them is ever bound: there is no flit to ask for it.
  granted_inside : {s : Router Flit} {h : History Flit} → Run look c s h → (e : Event Flit) (k : Choice) → Legal look c s e k
      → (i v : ℕ) (b : OutVc) →
      ¬ InRange c i v → s.bound i v ≢ Some b → bound_now s k i v ≢ Some b
  granted_inside {s = s} {h = h} run e k legal i v b out before = go (k.grant i v) refl
    where
      inv : Inv look c s h
      inv = inv_run look c delayed run

      empty : length (queue_now (s.channel i v)) ≡ 0
      empty = let l = queue_now_le c delayed (s.channel i v) h i v (inv.flow i v) (entry c s e k) in
          omega (arith, ap length (inv.beyond i v out))

      go : (g : Option OutVc) → k.grant i v ≡ g → granted g (s.bound i v) ≢ Some b
      go None q p = before p
      go (Some a) q p = asks_none look (queue_now (s.channel i v)) a.output empty (legal.binds_front i v a q)

  pub bound_inside : {s : Router Flit} {h : History Flit} → Run look c s h → (i v : ℕ) (b : OutVc) → ¬ InRange c i v → s.bound i v ≢ Some b
  bound_inside start i v b out p = none-some b p
  bound_inside (accept {s = s} {h = h} run e k legal) i v b out p =
      granted_inside run e k legal i v b out (λ q. bound_inside run i v b out q)
      (bound_before look c delayed s h (inv_run look c delayed run) e k legal i v b p)

  -- the destination of a head that was accepted is a port
  abbrev Routed : Flit → Type 0
  Routed f = look.starts f ≡ true → look.port f < c.ports

  offered_routed : (s : Router Flit) (e : Event Flit) (k : Choice) → Legal look c s e k → (i v : ℕ) → All Routed (offered e i v)
  offered_routed s e k legal i v = offered_cases i v e (All Routed) tt (λ b q w. (legal.offer_destination i b q, tt))

  accepted_routed : {s : Router Flit} {h : History Flit} → Run look c s h → (i v : ℕ) → All Routed (accepted i v h)
  accepted_routed start i v = tt
  accepted_routed (accept {s = s} {h = h} run e k legal) i v =
      rw (now_offers look c delayed s h (inv_run look c delayed run) e k legal i v)
      (all_append Routed (accepted i v h) (offered e i v) (accepted_routed run i v) (offered_routed s e k legal i v))

  queue_routed : {s : Router Flit} {h : History Flit} → Run look c s h → (i v : ℕ) → All Routed (queue_now (s.channel i v))
  queue_routed {s = s} {h = h} run i v =
      let ch = s.channel i v in
      let all : flits (left_from i v h) ++ (queue_now ch ++ flat (drop 1 ch.wire)) ≡ accepted i v h = rw
      (← still_held ch, ← append_assoc (flits (left_from i v h)) ch.queue (on_wire ch))
      (all_in_order c delayed ch h i v ((inv_run look c delayed run).flow i v)) in
      all_left Routed (queue_now ch) (flat (drop 1 ch.wire))
      (all_right Routed (flits (left_from i v h)) (queue_now ch ++ flat (drop 1 ch.wire)) (rw all (accepted_routed run i v)))

  asks_port : (q : List Flit) (o : ℕ) → All Routed q → Asks look q o → o < c.ports
  asks_port [] o r a = absurd a
  asks_port (f ∷ q) o r a = rw a.1 at (r.0 a.0)

  -- What an input VC is bound to is in range, before the cycle and after phase 5.
  bound_now_in_range : {s : Router Flit} {h : History Flit} → Run look c s h → (e : Event Flit) (k : Choice) → Legal look c s e k
      → (i v : ℕ) (b : OutVc) →
      (s.bound i v ≡ Some b → InRange c b.output b.vc) → bound_now s k i v ≡ Some b → InRange c b.output b.vc
  bound_now_in_range {s = s} {h = h} run e k legal i v b before = go (k.grant i v) refl
    where
      go : (g : Option OutVc) → k.grant i v ≡ g → granted g (s.bound i v) ≡ Some b → InRange c b.output b.vc
      go None q p = before p
      go (Some a) q p =
          let r = q ∙ p in
          (asks_port (queue_now (s.channel i v)) b.output (queue_routed run i v) (legal.binds_front i v b r), legal.binds_vc i v b r)

  pub bound_in_range : {s : Router Flit} {h : History Flit} → Run look c s h → (i v : ℕ) (b : OutVc) → s.bound i v ≡ Some b
      → InRange c b.output b.vc
  bound_in_range start i v b p = absurd (none-some b p)
  bound_in_range (accept {s = s} {h = h} run e k legal) i v b p =
      bound_now_in_range run e k legal i v b (λ q. bound_in_range run i v b q)
      (bound_before look c delayed s h (inv_run look c delayed run) e k legal i v b p)

  pub binds_in_range : {s : Router Flit} {h : History Flit} → Run look c s h → (e : Event Flit) (k : Choice) → Legal look c s e k
      → (i v : ℕ) (b : OutVc) →
      bound_now s k i v ≡ Some b → InRange c b.output b.vc
  binds_in_range run e k legal i v b = bound_now_in_range run e k legal i v b (bound_in_range run i v b)

  -- Nothing leaves on an output VC beyond the ranges.
  pub nothing_left_beyond : {s : Router Flit} {h : History Flit} → Run look c s h → (o w : ℕ) → ¬ InRange c o w → left_on o w h ≡ []
  nothing_left_beyond start o w out = refl
  nothing_left_beyond (accept {s = s} {h = h} run e k legal) o w out = rw (nothing_left_beyond run o w out)
      (go (departures_on o w (entry c s e k)) refl)
    where
      go : (ds : List (Departure Flit)) → departures_on o w (entry c s e k) ≡ ds → departures_on o w (entry c s e k) ≡ []
      go [] q = q
      go (d ∷ ds) q =
          let r = entry_source c s e k (record { output = o; vc = w }) d ds q in
          absurd (out (binds_in_range run e k legal r.0 r.1 (record { output = o; vc = w }) r.3))
