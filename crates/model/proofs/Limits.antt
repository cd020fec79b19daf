-- What follows about a cycle's limits: at most one flit leaves each input and each output, each output binds at most one, and every
-- name is in range.
-- Assumes nothing.
use mathlib.Core.Path.{◌≡◌, refl, sym, ap, ◌∙◌}
use mathlib.Core.Bool.{Bool, true, false, cond, ◌&&◌}
use Rattle.std.specs.Prelude.{Option, None, Some}
use Rattle.std.proofs.lemmas.Option.{none-some}
use mathlib.Core.List.{List, [], ◌∷◌, ◌++◌}
use Prim.Native.Nat.{ℕ, zero, suc, ◌≤◌, ◌<◌}
use native.Mathlib.Omega.{arith}
use lib.Dec.{eqb}
use lib.ListN.{length, drop, replicate}
use Rattle.model.specs.Lists.{keep, each, flat, All}
use Rattle.model.specs.Sizes.{Config, Delayed}
use Rattle.model.specs.Flit.{Look}
use Rattle.model.specs.Channel.{reaching, queue_now}
use Rattle.model.specs.Router.{Router, OutVc, InVc}
use Rattle.model.specs.Cycle.{Event, Choice, Brought}
use Rattle.model.specs.History.{History, Offer, Departure}
use Rattle.model.specs.Phases.{granted, bound_now, leaving, departure}
use Rattle.model.specs.Step.{entry, offers_at, credits_at, ends_packet, bound_after, step}
use Rattle.model.specs.Legal.{Legal}
use Rattle.model.specs.Run.{Run, start, accept}
use Rattle.model.specs.Limits.{InRange, NamesInRange, OncePerPort}
use Rattle.model.proofs.Lists.{eqb-true, keep_grid, grid_le_one, all_each}
use Rattle.model.proofs.Cases.{gone, leaving_cases}
use Rattle.model.proofs.Reading.{Reads, is_open}
use Rattle.model.proofs.Place.{Goes}
use Rattle.model.proofs.Invariant.{inv_run, still_held, alone_now, bound_still}
use Rattle.model.proofs.Ranges.{binds_in_range}
use Rattle.model.proofs.OutCredits.{output_credits-law, credit_in_range}

module _ {Flit : Type 0} where
  -- at most one flit leaves from an input VC
  kept_le_one : (p : Departure Flit → Bool) (i v : ℕ) (l : Bool) (b : Option OutVc) (q : List Flit)
      → length (keep p (leaving i v l b q)) ≤ 1
  kept_le_one p i v l b q = leaving_cases i v (λ ds. length (keep p ds) ≤ 1) l b q (omega arith) (λ a f x y. go (p (gone i v a f)) a f)
    where
      go : (t : Bool) (a : OutVc) (f : Flit) → length (cond t (gone i v a f ∷ []) []) ≤ 1
      go true a f = omega arith
      go false a f = omega arith

  -- what is kept of it left from an input VC that is to leave, by what that is bound to
  kept_left : (p : ℕ → ℕ → Bool) (i v : ℕ) (l : Bool) (b : Option OutVc) (q : List Flit) →
      0 < length (keep (λ (d : Departure Flit). p d.input d.output) (leaving i v l b q)) →
      (l ≡ true) × (a : OutVc) × (b ≡ Some a) × (p i a.output ≡ true)
  kept_left p i v l b q =
      leaving_cases i v (λ ds. 0 < length (keep (λ (d : Departure Flit). p d.input d.output) ds) →
      (l ≡ true) × (a : OutVc) × (b ≡ Some a) × (p i a.output ≡ true)) l b q (λ k. absurd (omega arith))
      (λ a f x y k. (x, a, y, go (p i a.output) a f k))
    where
      go : (t : Bool) (a : OutVc) (f : Flit) → 0 < length (cond t (gone i v a f ∷ []) []) → t ≡ true
      go true a f k = refl
      go false a f k = absurd (omega arith)

module _ {Flit : Type 0} (look : Look Flit) (c : Config) where
  module _ (s : Router Flit) (e : Event Flit) (k : Choice) (legal : Legal look c s e k) where
    -- A test of input and output that two departures of the cycle pass only if they are one keeps at most one.
    kept_once : (p : ℕ → ℕ → Bool) →
        ((i v j u : ℕ) (a b : OutVc) → k.leaves i v ≡ true → k.leaves j u ≡ true → bound_now s k i v ≡ Some a → bound_now s k j u ≡ Some b →
        p i a.output ≡ true → p j b.output ≡ true → (i ≡ j) × (v ≡ u)) →
        length (keep (λ (d : Departure Flit). p d.input d.output) (entry c s e k).departures) ≤ 1
    kept_once p alone =
        rw (keep_grid test c.ports c.vcs (departure s k))
        (grid_le_one c.ports c.vcs (λ i v. keep test (departure s k i v))
        (λ i v. kept_le_one test i v (k.leaves i v) (bound_now s k i v) (queue_now (s.channel i v)))
        (λ i v j u x y. both (found i v x) (found j u y)))
      where
        test : Departure Flit → Bool
        test d = p d.input d.output

        Found : ℕ → ℕ → Type 0
        Found i v = (k.leaves i v ≡ true) × (a : OutVc) × (bound_now s k i v ≡ Some a) × (p i a.output ≡ true)

        found : (i v : ℕ) → 0 < length (keep test (departure s k i v)) → Found i v
        found i v x = kept_left p i v (k.leaves i v) (bound_now s k i v) (queue_now (s.channel i v)) x

        both : {i v j u : ℕ} → Found i v → Found j u → (i ≡ j) × (v ≡ u)
        both {i} {v} {j} {u} x y = alone i v j u x.1 y.1 x.0 y.0 x.2 y.2 x.3 y.3

    -- "each output binds at most one per cycle"
    pub binds_once-law : (i v j u : ℕ) (a b : OutVc) → s.bound i v ≡ None → s.bound j u ≡ None → bound_now s k i v ≡ Some a
        → bound_now s k j u ≡ Some b →
        a.output ≡ b.output → (i ≡ j) × (v ≡ u)
    binds_once-law i v j u a b p q x y = legal.binds_once i v j u a b (just i v a p x) (just j u b q y)
      where
        just : (i v : ℕ) (a : OutVc) → s.bound i v ≡ None → bound_now s k i v ≡ Some a → k.grant i v ≡ Some a
        just i v a p x = go (k.grant i v) x
          where
            go : (g : Option OutVc) → granted g (s.bound i v) ≡ Some a → g ≡ Some a
            go None x = absurd (none-some a (sym p ∙ x))
            go (Some b) x = x

    -- at most one flit leaves each input and each output
    once_now : OncePerPort (entry c s e k)
    once_now =
        record {
          inputs = λ n. kept_once (λ i o. eqb i n) (λ i v j u a b x y p q f g. one_input n i v j u x y (eqb-true i n f) (eqb-true j n g));
          outputs = λ n. kept_once (λ i o. eqb o n)
              (λ i v j u a b x y p q f g. legal.output_once i v j u a b x y p q
              (eqb-true a.output n f ∙ sym (eqb-true b.output n g)));
        }
      where
        one_input : (n i v j u : ℕ) → k.leaves i v ≡ true → k.leaves j u ≡ true → i ≡ n → j ≡ n → (i ≡ j) × (v ≡ u)
        one_input n i v j u x y p q = let e : i ≡ j = p ∙ sym q in (e, legal.input_once i v u x (rw e y))

  -- In every cycle of every run.
  pub once_per_port : {s : Router Flit} {h : History Flit} → Run look c s h → All OncePerPort h
  once_per_port start = tt
  once_per_port (accept {s = s} run e k legal) = (once_now s e k legal, once_per_port run)

  module _ (delayed : Delayed c) where
    -- After phase 5 an output VC is held by at most one input VC: "T or S .. frees the output VC, usable from the next cycle".
    pub one_holder : {s : Router Flit} {h : History Flit} → Run look c s h → (e : Event Flit) (k : Choice) → Legal look c s e k
        → (i v j u : ℕ) (b : OutVc) →
        bound_now s k i v ≡ Some b → bound_now s k j u ≡ Some b → (i ≡ j) × (v ≡ u)
    one_holder {s = s} {h = h} run e k legal = alone_now look c delayed s h (inv_run look c delayed run) e k legal

    -- A binding stays what it is until T or S leaves.
    pub stays_bound : {s : Router Flit} {h : History Flit} → Run look c s h → (e : Event Flit) (k : Choice) → Legal look c s e k
        → (i v : ℕ) (b : OutVc) →
        s.bound i v ≡ Some b → (step look c s e k).bound i v ≡ cond (k.leaves i v && ends_packet look (queue_now (s.channel i v))) None
        (Some b)
    stays_bound {s = s} {h = h} run e k legal i v b p =
        ap (bound_after look (k.leaves i v) (queue_now (s.channel i v)))
        (bound_still look c delayed s h (inv_run look c delayed run) e k legal i v b p)

    -- The front flit of an unbound input VC is H or S, so that no B or T ever asks.
    pub front_starts : {s : Router Flit} {h : History Flit} → Run look c s h → (i v : ℕ) (f : Flit) (q : List Flit) → s.bound i v ≡ None →
        queue_now (s.channel i v) ≡ f ∷ q → look.starts f ≡ true
    front_starts {s = s} {h = h} run i v f q unbound front =
        let place = (inv_run look c delayed run).place i v in
        let reads : Reads look (is_open place.inside) (f ∷ (q ++ flat (drop 1 (s.channel i v).wire))) (s.opened i v) = rw
        (still_held (s.channel i v), front) at place.reads in
        rw (between (s.bound i v) place.inside unbound place.goes) at reads.0
      where
        between : (b : Option OutVc) (d : Option (Departure Flit)) → b ≡ None → Goes look i v b d (s.channel i v).queue → is_open d ≡ false
        between b None p g = refl
        between None (Some d) p g = absurd g
        between (Some b) (Some d) p g = absurd (none-some b (sym p))

    module _ {s : Router Flit} {h : History Flit} (run : Run look c s h) (e : Event Flit) (k : Choice) (legal : Legal look c s e k) where
      names_now : NamesInRange c (entry c s e k)
      names_now =
          record {
            offers = all_each _ c.ports (λ i. offers_at i (e.offer i)) (λ i l. offer i l (e.offer i) refl);
            sources = all_each _ c.ports (λ i. each c.vcs (departure s k i))
                (λ i l. all_each _ c.vcs (departure s k i) (λ v m. source i v l m));
            outputs = all_each _ c.ports (λ i. each c.vcs (departure s k i))
                (λ i l. all_each _ c.vcs (departure s k i) (λ v m. output i v));
            reached = all_each _ c.ports (λ i. each c.vcs (λ v. replicate (reaching (s.channel i v)) (record { input = i; vc = v })))
                (λ i l. all_each _ c.vcs (λ v. replicate (reaching (s.channel i v)) (record { input = i; vc = v }))
                (λ v m. home i v l m (reaching (s.channel i v))));
            credits = all_each _ c.ports (λ o. credits_at o (e.credit o)) (λ o l. credit o (e.credit o) refl);
          }
        where
          offer : (i : ℕ) → i < c.ports → (b : Option (Brought Flit)) → e.offer i ≡ b →
              All (λ (o : Offer Flit). InRange c o.input o.vc) (offers_at i b)
          offer i l None q = tt
          offer i l (Some b) q = ((l, legal.offer_vc i b q), tt)

          source : (i v : ℕ) → i < c.ports → v < c.vcs → All (λ (d : Departure Flit). InRange c d.input d.vc) (departure s k i v)
          source i v l m = leaving_cases i v (All (λ (d : Departure Flit). InRange c d.input d.vc)) (k.leaves i v) (bound_now s k i v)
              (queue_now (s.channel i v)) tt (λ a f x y. ((l, m), tt))

          output : (i v : ℕ) → All (λ (d : Departure Flit). InRange c d.output d.out_vc) (departure s k i v)
          output i v = leaving_cases i v (All (λ (d : Departure Flit). InRange c d.output d.out_vc)) (k.leaves i v) (bound_now s k i v)
              (queue_now (s.channel i v)) tt (λ a f x y. (binds_in_range look c delayed run e k legal i v a y, tt))

          home : (i v : ℕ) → i < c.ports → v < c.vcs → (n : ℕ) →
              All (λ (r : InVc). InRange c r.input r.vc) (replicate n (record { input = i; vc = v }))
          home i v l m zero = tt
          home i v l m (suc n) = ((l, m), home i v l m n)

          credit : (o : ℕ) (w : Option ℕ) → e.credit o ≡ w → All (λ (r : OutVc). InRange c r.output r.vc) (credits_at o w)
          credit o None q = tt
          credit o (Some w) q = (credit_in_range look c delayed run e k legal (output_credits-law look c delayed run) o w q, tt)

    pub names_in_range : {s : Router Flit} {h : History Flit} → Run look c s h → All (NamesInRange c) h
    names_in_range start = tt
    names_in_range (accept run e k legal) = (names_now run e k legal, names_in_range run)
