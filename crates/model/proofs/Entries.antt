-- The cycle's entry, read for one input VC or one output VC, is what the step does there.
-- Assumes nothing.
use mathlib.Core.Path.{◌≡◌, refl, sym, ap, ◌∙◌}
use mathlib.Core.Logic.{◌≢◌}
use mathlib.Core.Bool.{Bool, true, false, cond, ◌&&◌, false≢true}
use Rattle.std.specs.Prelude.{Option, None, Some}
use Rattle.std.proofs.lemmas.Option.{same_Some}
use mathlib.Core.List.{List, [], ◌∷◌, map, nil≢cons}
use Prim.Native.Nat.{ℕ, ◌<◌}
use native.Mathlib.Decide.{ℕ_discrete}
use lib.Dec.{eqb}
use lib.ListN.{length, replicate}
use Rattle.model.specs.Lists.{keep}
use Rattle.model.specs.Sizes.{Config}
use Rattle.model.specs.Channel.{reaching, queue_now}
use Rattle.model.specs.Router.{Router, OutVc, InVc}
use Rattle.model.specs.Cycle.{Event, Choice, Brought}
use Rattle.model.specs.History.{Offer, Departure, same, offers_on, departures_from, departures_on}
use Rattle.model.specs.Phases.{credit_for, on_vc, offered, bound_now, leaving, departure}
use Rattle.model.specs.Step.{offers_at, credits_at, entry}
use Rattle.model.specs.Times.{reached_for}
use Rattle.model.specs.Limits.{InRange, credits_for}
use Rattle.model.proofs.Cases.{gone, leaving_cases}
use Rattle.model.proofs.Lists.{eqb_same, eqb_other, eqb-true, keep_replicate, keep_one, keep_grid, keep_grid_one, grid_found}

-- the same VC of the same port, and another
pub same_own : (i v : ℕ) → same i v i v ≡ true
same_own i v = rw (eqb_same i, eqb_same v)

pub same_other : (i v j u : ℕ) → ¬ ((i ≡ j) × (v ≡ u)) → same i v j u ≡ false
same_other i v j u ne = go (ℕ_discrete i j) (ℕ_discrete v u)
  where
    go : Dec (i ≡ j) → Dec (v ≡ u) → same i v j u ≡ false
    go (yes p) (yes q) = absurd (ne (p, q))
    go (yes p) (no q) = rw (p, eqb_same j, eqb_other q)
    go (no p) d = rw (eqb_other p)

and_both : (a b : Bool) → (a && b) ≡ true → (a ≡ true) × (b ≡ true)
and_both true b t = (refl, t)
and_both false b t = absurd (false≢true t)

pub same_true : (i v j u : ℕ) → same i v j u ≡ true → (i ≡ j) × (v ≡ u)
same_true i v j u t = let r = and_both (eqb i j) (eqb v u) t in (eqb-true i j r.0, eqb-true v u r.1)

-- an output VC is its output and its VC
pub out_vc_path : (b : OutVc) (o w : ℕ) → b.output ≡ o → b.vc ≡ w → b ≡ record { output = o; vc = w }
out_vc_path b o w p q = λ x. record { output = p x; vc = q x }

module _ (i v : ℕ) where
  -- the tests of the readings for VC v of port i
  abbrev comes_home_to : InVc → Bool
  comes_home_to r = same r.input r.vc i v

  abbrev comes_back_to : OutVc → Bool
  comes_back_to r = same r.output r.vc i v

  module _ {Flit : Type 0} where
    abbrev offered_to : Offer Flit → Bool
    offered_to o = same o.input o.vc i v

    abbrev comes_from : Departure Flit → Bool
    comes_from d = same d.input d.vc i v

    abbrev goes_by : Departure Flit → Bool
    goes_by d = same d.output d.out_vc i v

    -- the offer of input j
    offers_other : (j : ℕ) (b : Option (Brought Flit)) → j ≢ i → keep offered_to (offers_at j b) ≡ []
    offers_other j None ne = refl
    offers_other j (Some b) ne = rw (same_other j b.vc i v (λ q. ne q.0))

    offers_own : (b : Option (Brought Flit)) → map (λ (o : Offer Flit). o.flit) (keep offered_to (offers_at i b)) ≡ on_vc v b
    offers_own None = refl
    offers_own (Some b) = rw (eqb_same i) (go (eqb b.vc v))
      where
        go : (t : Bool) → map (λ (o : Offer Flit). o.flit) (cond t (record { input = i; vc = b.vc; flit = b.flit } ∷ []) [])
            ≡ cond t (b.flit ∷ []) []
        go true = refl
        go false = refl

    -- what leaves from VC u of input j, read by its source
    leaving_other : (j u : ℕ) (l : Bool) (b : Option OutVc) (q : List Flit) → ¬ ((j ≡ i) × (u ≡ v)) → keep comes_from (leaving j u l b q)
        ≡ []
    leaving_other j u l b q ne = leaving_cases j u (λ ds. keep comes_from ds ≡ []) l b q refl (λ a f x y. rw (same_other j u i v ne))

    leaving_own : (l : Bool) (b : Option OutVc) (q : List Flit) → keep comes_from (leaving i v l b q) ≡ leaving i v l b q
    leaving_own l b q = leaving_cases i v (λ ds. keep comes_from ds ≡ ds) l b q refl (λ a f x y. rw (same_own i v))

    -- the same, read by its output VC
    leaving_by : (j u : ℕ) (l : Bool) (b : Option OutVc) (q : List Flit) → b ≡ Some (record { output = i; vc = v }) →
        keep goes_by (leaving j u l b q) ≡ leaving j u l b q
    leaving_by j u l b q e =
        leaving_cases j u (λ ds. keep goes_by ds ≡ ds) l b q refl
        (λ a f x y. rw (same_Some a (record { output = i; vc = v }) (sym y ∙ e), same_own i v))

    leaving_past : (j u : ℕ) (l : Bool) (b : Option OutVc) (q : List Flit) → b ≢ Some (record { output = i; vc = v })
        → keep goes_by (leaving j u l b q) ≡ []
    leaving_past j u l b q ne = leaving_cases j u (λ ds. keep goes_by ds ≡ []) l b q refl
        (λ a f x y. rw (same_other a.output a.vc i v (λ e. ne (y ∙ ap {B = Option OutVc} Some (out_vc_path a i v e.0 e.1)))))

    leaving_found : (j u : ℕ) (l : Bool) (b : Option OutVc) (q : List Flit) (d : Departure Flit) (ds : List (Departure Flit)) →
        keep goes_by (leaving j u l b q) ≡ d ∷ ds → (l ≡ true) × (b ≡ Some (record { output = i; vc = v }))
    leaving_found j u l b q d ds =
        leaving_cases j u (λ x. keep goes_by x ≡ d ∷ ds → (l ≡ true) × (b ≡ Some (record { output = i; vc = v }))) l b q
        (λ e. absurd (nil≢cons e))
        (λ a f x y. go a f x y (same a.output a.vc i v) refl)
      where
        go : (a : OutVc) (f : Flit) → l ≡ true → b ≡ Some a → (t : Bool) → same a.output a.vc i v ≡ t
            → cond t (gone j u a f ∷ []) [] ≡ d ∷ ds →
            (l ≡ true) × (b ≡ Some (record { output = i; vc = v }))
        go a f x y true t e = let r = same_true a.output a.vc i v t in
            (x, y ∙ ap {B = Option OutVc} Some (out_vc_path a i v r.0 r.1))
        go a f x y false t e = absurd (nil≢cons e)

  -- the credit of output j
  credits_other : (j : ℕ) (w : Option ℕ) → j ≢ i → keep comes_back_to (credits_at j w) ≡ []
  credits_other j None ne = refl
  credits_other j (Some w) ne = rw (same_other j w i v (λ q. ne q.0))

  credits_own : (w : Option ℕ) → length (keep comes_back_to (credits_at i w)) ≡ credit_for v w
  credits_own None = refl
  credits_own (Some w) = rw (eqb_same i) (go (eqb w v))
    where
      go : (t : Bool) → length {A = OutVc} (cond t (record { output = i; vc = w } ∷ []) []) ≡ cond t 1 0
      go true = refl
      go false = refl

  -- n credits of VC u of input j
  reached_other : (j u n : ℕ) → ¬ ((j ≡ i) × (u ≡ v)) → keep comes_home_to (replicate n (record { input = j; vc = u })) ≡ []
  reached_other j u n ne = rw (keep_replicate comes_home_to n (record { input = j; vc = u }), same_other j u i v ne)

  reached_own : (n : ℕ) → keep comes_home_to (replicate n (record { input = i; vc = v })) ≡ replicate n (record { input = i; vc = v })
  reached_own n = rw (keep_replicate comes_home_to n (record { input = i; vc = v }), same_own i v)

module _ {Flit : Type 0} (c : Config) (s : Router Flit) (e : Event Flit) (k : Choice) where
  -- The offers of the entry on an input VC are what the step takes on it, if no port beyond the last brings one.
  pub entry_offers : ((i : ℕ) (b : Brought Flit) → e.offer i ≡ Some b → i < c.ports) → (i v : ℕ) →
      map (λ (o : Offer Flit). o.flit) (offers_on i v (entry c s e k)) ≡ offered e i v
  entry_offers inside i v =
      ap (map (λ (o : Offer Flit). o.flit))
      (keep_one (offered_to i v) c.ports (λ j. offers_at j (e.offer j)) i (λ j ne. offers_other i v j (e.offer j) ne)
      (λ out. none_beyond out (e.offer i) refl)) ∙ offers_own i v (e.offer i)
    where
      none_beyond : ¬ (i < c.ports) → (b : Option (Brought Flit)) → e.offer i ≡ b → keep (offered_to i v) (offers_at i b) ≡ []
      none_beyond out None q = refl
      none_beyond out (Some b) q = absurd (out (inside i b q))

  -- The credits of the entry for an output VC are what the step adds to it, if no port beyond the last brings one.
  pub entry_credits : ((o w : ℕ) → e.credit o ≡ Some w → o < c.ports) → (o w : ℕ) → length (credits_for o w (entry c s e k))
      ≡ credit_for w (e.credit o)
  entry_credits inside o w =
      ap length (keep_one (comes_back_to o w) c.ports (λ j. credits_at j (e.credit j)) o (λ j ne. credits_other o w j (e.credit j) ne)
      (λ out. none_beyond out (e.credit o) refl)) ∙ credits_own o w (e.credit o)
    where
      none_beyond : ¬ (o < c.ports) → (b : Option ℕ) → e.credit o ≡ b → keep (comes_back_to o w) (credits_at o b) ≡ []
      none_beyond out None q = refl
      none_beyond out (Some b) q = absurd (out (inside o b q))

  -- what is beyond the ports and VCs does not leave, so that the entry misses no departure
  abbrev pub LeavesInside : Type 0
  LeavesInside = (i v : ℕ) → k.leaves i v ≡ true → InRange c i v

  stays : LeavesInside → (i v : ℕ) → ¬ InRange c i v → departure s k i v ≡ []
  stays inside i v out = go (k.leaves i v) refl
    where
      go : (l : Bool) → k.leaves i v ≡ l → departure s k i v ≡ []
      go true q = absurd (out (inside i v q))
      go false q = rw q

  -- The departures of the entry from an input VC are what leaves there.
  pub entry_from : LeavesInside → (i v : ℕ) → departures_from i v (entry c s e k) ≡ departure s k i v
  entry_from inside i v =
      keep_grid_one (comes_from i v) c.ports c.vcs (departure s k) i v
      (λ j u ne. leaving_other i v j u (k.leaves j u) (bound_now s k j u) (queue_now (s.channel j u)) ne)
      (λ out. own ∙ stays inside i v out) ∙ own
    where
      own : keep (comes_from i v) (departure s k i v) ≡ departure s k i v
      own = leaving_own i v (k.leaves i v) (bound_now s k i v) (queue_now (s.channel i v))

  -- The departures of the entry on an output VC are what leaves from the one input VC that is bound to it ..
  pub entry_on : LeavesInside → (i v : ℕ) (b : OutVc) → bound_now s k i v ≡ Some b
      → ((j u : ℕ) → bound_now s k j u ≡ Some b → (j ≡ i) × (u ≡ v)) →
      departures_on b.output b.vc (entry c s e k) ≡ departure s k i v
  entry_on inside i v b q alone =
      keep_grid_one (goes_by b.output b.vc) c.ports c.vcs (departure s k) i v
      (λ j u ne. leaving_past b.output b.vc j u (k.leaves j u) (bound_now s k j u) (queue_now (s.channel j u))
      (λ p. ne (alone j u p)))
      (λ out. own ∙ stays inside i v out) ∙ own
    where
      own : keep (goes_by b.output b.vc) (departure s k i v) ≡ departure s k i v
      own = leaving_by b.output b.vc i v (k.leaves i v) (bound_now s k i v) (queue_now (s.channel i v)) q

  -- .. and whatever left on an output VC left from an input VC that is bound to it.
  pub entry_source : (b : OutVc) (d : Departure Flit) (ds : List (Departure Flit)) → departures_on b.output b.vc (entry c s e k)
      ≡ d ∷ ds →
      (i : ℕ) × (v : ℕ) × (k.leaves i v ≡ true) × (bound_now s k i v ≡ Some b)
  entry_source b d ds q =
      let r = grid_found c.ports c.vcs (λ j u. keep (goes_by b.output b.vc) (departure s k j u)) d ds
      (sym (keep_grid (goes_by b.output b.vc) c.ports c.vcs (departure s k)) ∙ q) in
      let found = leaving_found b.output b.vc r.0 r.1 (k.leaves r.0 r.1) (bound_now s k r.0 r.1)
      (queue_now (s.channel r.0 r.1)) r.2 r.3 r.4 in
      (r.0, r.1, found.0, found.1)

  -- The credits of the entry that reached the sender of an input VC are those that reach it, if none is beyond the ports and VCs.
  pub entry_reached : (i v : ℕ) → (¬ InRange c i v → reaching (s.channel i v) ≡ 0) →
      reached_for i v (entry c s e k) ≡ replicate (reaching (s.channel i v)) (record { input = i; vc = v })
  entry_reached i v none_beyond =
      keep_grid_one (comes_home_to i v) c.ports c.vcs (λ j u. replicate (reaching (s.channel j u)) (record { input = j; vc = u })) i v
      (λ j u ne. reached_other i v j u (reaching (s.channel j u)) ne) (λ out. rw (none_beyond out))
      ∙ reached_own i v (reaching (s.channel i v))
