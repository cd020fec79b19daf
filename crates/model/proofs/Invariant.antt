-- What holds of every router and history that a run leads to, and that a cycle within the limits keeps it.
-- Assumes nothing.
use mathlib.Core.Path.{◌≡◌, refl, sym, ap, ◌∙◌}
use mathlib.Core.Bool.{Bool, true, false, cond, ◌&&◌}
use Rattle.std.specs.Prelude.{Option, None, Some}
use Rattle.std.proofs.lemmas.Option.{none-some}
use mathlib.Core.List.{List, [], ◌∷◌, ◌++◌, append_assoc, append-nil}
use Prim.Native.Nat.{ℕ}
use native.Mathlib.Omega.{arith}
use lib.Seq.{take-nil}
use lib.ListN.{length, drop}
use Rattle.model.specs.Lists.{flat}
use Rattle.model.specs.Line.{out, shift}
use Rattle.model.specs.Sizes.{Config, Delayed}
use Rattle.model.specs.Flit.{Look}
use Rattle.model.specs.Channel.{Channel, fresh_channel, queue_now, on_wire}
use Rattle.model.specs.Router.{Router, OutVc, fresh}
use Rattle.model.specs.Cycle.{Event, Choice}
use Rattle.model.specs.History.{Entry, History, Departure, Numbered, accepted, left_from, left_on, departures_from, departures_on}
use Rattle.model.specs.Phases.{offered, granted, bound_now, departure}
use Rattle.model.specs.Step.{entry, step, open_after, ends_packet}
use Rattle.model.specs.Legal.{Legal, Free}
use Rattle.model.specs.Run.{Run, start, accept}
use Rattle.model.specs.Packets.{Whole, Packets, nothing, finished}
use Rattle.model.specs.Limits.{InRange}
use Rattle.model.specs.Demand3.{FromOneSource}
use Rattle.model.proofs.Lists.{flat_append}
use Rattle.model.proofs.Lines.{line_flat}
use Rattle.model.proofs.Cases.{in_range?, not_otherwise, offered_cases}
use Rattle.model.proofs.Entries.{LeavesInside, entry_offers, entry_from, entry_on, entry_source}
use Rattle.model.proofs.Flow.{Flow, offers_in, flow_fresh, flow_step, queue_now_le}
use Rattle.model.proofs.Reading.{Reads, reads_append, is_open}
use Rattle.model.proofs.Place.{Place, goes_append, place_bind, leaving_front, place_cycle, output_cycle}

-- what has left on an output VC
abbrev pub on_out_vc : {Flit : Type 0} → History Flit → OutVc → List (Departure Flit)
on_out_vc h b = left_on b.output b.vc h

module _ {Flit : Type 0} (look : Look Flit) (c : Config) where
  pub record Inv (s : Router Flit) (h : History Flit) : Type 0 where
    pub numbered : Numbered s.cycle h
    pub flow : (i v : ℕ) → Flow c (s.channel i v) h i v
    pub place : (i v : ℕ) → Place look i v (s.bound i v) (s.channel i v).queue (on_wire (s.channel i v)) (s.opened i v)
        (left_from i v h) (on_out_vc h)
    pub alone : (i v j u : ℕ) (b : OutVc) → s.bound i v ≡ Some b → s.bound j u ≡ Some b → (i ≡ j) × (v ≡ u)
    pub outputs : (b : OutVc) → Packets look FromOneSource (on_out_vc h b)
    pub idle : (b : OutVc) → Free s b → Whole look FromOneSource (on_out_vc h b)
    pub beyond : (i v : ℕ) → ¬ InRange c i v → accepted i v h ≡ []

  pub inv_fresh : Inv (fresh c) []
  inv_fresh =
      record {
        numbered = refl;
        flow = flow_fresh c;
        place = λ i v. record {
          inside = None;
          goes = tt;
          reads = rw (empty i v) refl;
          left = nothing;
          on_output = λ a e. absurd (none-some a e);
        };
        alone = λ i v j u b p q. absurd (none-some b p);
        outputs = λ b. finished nothing;
        idle = λ b f. nothing;
        beyond = λ i v out. refl;
      }
    where
      empty : (i v : ℕ) → on_wire (fresh_channel {Flit = Flit} c) ≡ []
      empty i v = ap flat (flow_fresh c i v).wire ∙ line_flat (offers_in i v) c.forward [] ∙ ap (accepted i v) (take-nil c.forward)

-- a channel's flits, as a cycle moves them
module _ {Flit : Type 0} (ch : Channel Flit) where
  wire_front : (w : List (List Flit)) → flat w ≡ out [] w ++ flat (drop 1 w)
  wire_front [] = refl
  wire_front (x ∷ w) = refl

  -- the flits held are in the queue after phase 3, or still on the wire
  pub still_held : ch.queue ++ on_wire ch ≡ queue_now ch ++ flat (drop 1 ch.wire)
  still_held = rw (wire_front ch.wire) (sym (append_assoc ch.queue (out [] ch.wire) (flat (drop 1 ch.wire))))

  -- with the offered ones behind them, they are in the queue after phase 3, or on the wire after the cycle
  held : (offered : List Flit) → ch.queue ++ on_wire ch ++ offered ≡ queue_now ch ++ flat (shift ch.wire offered)
  held offered = rw (flat_append (drop 1 ch.wire) (offered ∷ []), append-nil offered, still_held)
      (append_assoc (queue_now ch) (flat (drop 1 ch.wire)) offered)

module _ {Flit : Type 0} (look : Look Flit) (c : Config) (delayed : Delayed c) (s : Router Flit) (h : History Flit)
    (inv : Inv look c s h) (e : Event Flit)
    (k : Choice) (legal : Legal look c s e k) where
  abbrev now : Entry Flit
  now = entry c s e k

  abbrev after : Router Flit
  after = step look c s e k

  -- Nothing beyond the ports and VCs leaves: nothing was ever accepted there.
  pub leaves_inside : LeavesInside c s e k
  leaves_inside i v l =
      not_otherwise (in_range? c i v)
      (λ out.
      let q = queue_now_le c delayed (s.channel i v) h i v (inv.flow i v) now in
      let z : length (accepted i v h) ≡ 0 = ap length (inv.beyond i v out) in
      omega (arith, legal.leaves_flit i v l))

  -- the entry's offers and departures are what the step takes and lets leave
  pub now_offers : (i v : ℕ) → offers_in i v now ≡ offered e i v
  now_offers i v = entry_offers c s e k legal.offer_port i v

  pub now_from : (i v : ℕ) → departures_from i v now ≡ departure s k i v
  now_from i v = entry_from c s e k leaves_inside i v

  -- After phase 5 no two input VCs are bound to the same output VC.
  pub alone_now : (i v j u : ℕ) (b : OutVc) → bound_now s k i v ≡ Some b → bound_now s k j u ≡ Some b → (i ≡ j) × (v ≡ u)
  alone_now i v j u b p q = go (k.grant i v) refl (k.grant j u) refl p q
    where
      go : (g : Option OutVc) → k.grant i v ≡ g → (f : Option OutVc) → k.grant j u ≡ f → granted g (s.bound i v) ≡ Some b →
          granted f (s.bound j u) ≡ Some b → (i ≡ j) × (v ≡ u)
      go None p None q m n = inv.alone i v j u b m n
      go None p (Some d) q m n = absurd (legal.binds_free j u d q i v (m ∙ sym n))
      go (Some a) p None q m n = absurd (legal.binds_free i v a p j u (n ∙ sym m))
      go (Some a) p (Some d) q m n = legal.binds_once i v j u a d p q (cc)

  pub now_on : (i v : ℕ) (b : OutVc) → bound_now s k i v ≡ Some b → departures_on b.output b.vc now ≡ departure s k i v
  now_on i v b q = entry_on c s e k leaves_inside i v b q (λ j u p. alone_now j u i v b p q)

  -- The kinds that a sender offers are in order.
  kinds_in_order : (i v : ℕ) → Reads look (s.opened i v) (offered e i v) (open_after look (s.opened i v) (offered e i v))
  kinds_in_order i v =
      offered_cases i v e (λ fs. Reads look (s.opened i v) fs (open_after look (s.opened i v) fs)) refl
      (λ b q w. (rw w at (legal.kinds i b q), refl))

  -- One flit leaves from an input VC that is to leave, none from another.
  pub one_leaves : (i v : ℕ) → length (departure s k i v) ≡ cond (k.leaves i v) 1 0
  one_leaves i v = (leaving_front look i v (k.leaves i v) (bound_now s k i v) (queue_now (s.channel i v)) (legal.leaves_bound i v)
      (legal.leaves_flit i v)).0

  -- Each input VC's place after phases 1 to 4, then after phase 5, then after the cycle.
  place_taken : (i v : ℕ) → Place look i v (s.bound i v) (queue_now (s.channel i v)) (on_wire (after.channel i v)) (after.opened i v)
      (left_from i v h)
      (on_out_vc h)
  place_taken i v =
      let p = inv.place i v in
      record {
        inside = p.inside;
        goes = goes_append look i v (s.bound i v) p.inside (s.channel i v).queue (out [] (s.channel i v).wire) p.goes;
        reads = rw (← held (s.channel i v) (offered e i v))
            (reads_append look (is_open p.inside) ((s.channel i v).queue ++ on_wire (s.channel i v)) (offered e i v) (s.opened i v)
            (after.opened i v)
            p.reads (kinds_in_order i v));
        left = p.left;
        on_output = p.on_output;
      }

  place_bound : (i v : ℕ) → Place look i v (bound_now s k i v) (queue_now (s.channel i v)) (on_wire (after.channel i v))
      (after.opened i v) (left_from i v h)
      (on_out_vc h)
  place_bound i v = go (k.grant i v) refl
    where
      go : (g : Option OutVc) → k.grant i v ≡ g →
          Place look i v (granted g (s.bound i v)) (queue_now (s.channel i v)) (on_wire (after.channel i v)) (after.opened i v)
          (left_from i v h) (on_out_vc h)
      go None q = place_taken i v
      go (Some b) q = place_bind look i v b (rw (legal.binds_unbound i v b q) at (place_taken i v)) (legal.binds_front i v b q)
          (inv.idle b (legal.binds_free i v b q))

  place_after : (i v : ℕ) → Place look i v (after.bound i v) (after.channel i v).queue (on_wire (after.channel i v)) (after.opened i v)
      (left_from i v (now ∷ h)) (on_out_vc (now ∷ h))
  place_after i v =
      rw (now_from i v)
      (place_cycle look i v (k.leaves i v) (bound_now s k i v) (queue_now (s.channel i v)) (legal.leaves_bound i v)
      (legal.leaves_flit i v) (place_bound i v)
      (on_out_vc (now ∷ h)) (λ a q. ap (λ (ds : List (Departure Flit)). on_out_vc h a ++ ds) (now_on i v a q)))

  flow_after : (i v : ℕ) → Flow c (after.channel i v) (now ∷ h) i v
  flow_after i v =
      let front = leaving_front look i v (k.leaves i v) (bound_now s k i v) (queue_now (s.channel i v)) (legal.leaves_bound i v)
      (legal.leaves_flit i v) in
      rw (now_offers i v) at (flow_step c delayed (s.channel i v) h i v (inv.flow i v) now (cond (k.leaves i v) 1 0)
      (rw (now_from i v) front.0)
      (rw (now_from i v) front.1))

  -- A binding after the cycle was there after phase 5, and one before the cycle still is.
  pub bound_before : (i v : ℕ) (b : OutVc) → after.bound i v ≡ Some b → bound_now s k i v ≡ Some b
  bound_before i v b = go (k.leaves i v && ends_packet look (queue_now (s.channel i v))) (bound_now s k i v)
    where
      go : (t : Bool) (x : Option OutVc) → cond t None x ≡ Some b → x ≡ Some b
      go true x q = absurd (none-some b q)
      go false x q = q

  pub bound_still : (i v : ℕ) (b : OutVc) → s.bound i v ≡ Some b → bound_now s k i v ≡ Some b
  bound_still i v b p = go (k.grant i v) refl
    where
      go : (g : Option OutVc) → k.grant i v ≡ g → granted g (s.bound i v) ≡ Some b
      go None q = p
      go (Some a) q = absurd (none-some b (sym (legal.binds_unbound i v a q) ∙ p))

  -- What is free after the cycle, and on which nothing left, was free before: only a flit that leaves unbinds.
  free_before : (b : OutVc) → departures_on b.output b.vc now ≡ [] → Free after b → Free s b
  free_before b none_left free i v p = go (k.leaves i v) refl
    where
      bound : bound_now s k i v ≡ Some b
      bound = bound_still i v b p

      go : (l : Bool) → k.leaves i v ≡ l → ⊥
      go false l = free i v (rw l bound)
      go true l = let z : ◌≡◌ {A = ℕ} 0 1 = ap length (sym none_left ∙ now_on i v b bound) ∙ one_leaves i v
          ∙ ap (λ (x : Bool). cond x 1 0) l in omega arith

  -- Packets on an output VC: nothing left on it, or the front flit of the one input VC that is bound to it.
  output_after : (b : OutVc) → Packets look FromOneSource (on_out_vc (now ∷ h) b)
      × (Free after b → Whole look FromOneSource (on_out_vc (now ∷ h) b))
  output_after b = go (departures_on b.output b.vc now) refl
    where
      go : (ds : List (Departure Flit)) → departures_on b.output b.vc now ≡ ds →
          Packets look FromOneSource (on_out_vc (now ∷ h) b) × (Free after b → Whole look FromOneSource (on_out_vc (now ∷ h) b))
      go [] q = rw (q, append-nil (on_out_vc h b)) (inv.outputs b, λ free. inv.idle b (free_before b q free))
      go (d ∷ ds) q =
          let from = entry_source c s e k b d ds q in
          let i = from.0 in
          let v = from.1 in
          let l = from.2 in
          let r = output_cycle look i v (bound_now s k i v) (queue_now (s.channel i v)) b from.3 (legal.leaves_flit i v l)
          (place_bound i v) in
          rw (now_on i v b from.3, l) (r.0, λ free. r.1 (rw l at (free i v)))

  -- Nothing is accepted beyond the ports and VCs.
  beyond_after : (i v : ℕ) → ¬ InRange c i v → accepted i v (now ∷ h) ≡ []
  beyond_after i v out =
      rw (now_offers i v, inv.beyond i v out)
      (offered_cases i v e (λ fs. fs ≡ []) refl (λ b q w. absurd (out (legal.offer_port i b q, rw w at (legal.offer_vc i b q)))))

  pub inv_step : Inv look c after (now ∷ h)
  inv_step =
      record {
        numbered = (refl, inv.numbered);
        flow = flow_after;
        place = place_after;
        alone = λ i v j u b p q. alone_now i v j u b (bound_before i v b p) (bound_before j u b q);
        outputs = λ b. (output_after b).0;
        idle = λ b. (output_after b).1;
        beyond = beyond_after;
      }

-- Every run keeps it.
pub inv_run : {Flit : Type 0} (look : Look Flit) (c : Config) (delayed : Delayed c) {s : Router Flit} {h : History Flit}
    → Run look c s h → Inv look c s h
inv_run look c delayed start = inv_fresh look c
inv_run look c delayed (accept {s = s} {h = h} run e k legal) = inv_step look c delayed s h (inv_run look c delayed run) e k legal
