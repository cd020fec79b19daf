-- A test of `Legal` that computes, for cycles given by value.
-- Assumes nothing.
use mathlib.Core.Path.{◌≡◌, refl, ap, subst, subst₂}
use mathlib.Core.Logic.{◌≢◌}
use mathlib.Core.Bool.{Bool, true, false, cond, not, ◌&&◌, beq}
use Rattle.std.specs.Prelude.{Option, None, Some}
use Rattle.std.proofs.lemmas.Option.{none-some, same_Some}
use Rattle.std.specs.Prelude.{IsSome, is_some, option_map}
use mathlib.Core.List.{List, [], ◌∷◌}
use Prim.Native.Nat.{ℕ, zero, suc, ◌<◌}
use native.Mathlib.Decide.{ℕ_discrete}
use native.Mathlib.Omega.{arith}
use lib.Dec.{T, ltb, ltb→lt, eqb}
use lib.ListN.{length, get_or}
use Rattle.model.specs.Sizes.{Config, Delayed}
use Rattle.model.specs.Flit.{Look}
use Rattle.model.specs.Channel.{taken_now, queue_now}
use Rattle.model.specs.Router.{Router, OutVc, InVc}
use Rattle.model.specs.Cycle.{Event, Choice, Brought}
use Rattle.model.specs.History.{History, Offer, same}
use Rattle.model.specs.Phases.{bound_now, out_credit_now}
use Rattle.model.specs.Step.{step, entry}
use Rattle.model.specs.Legal.{Legal, Asks, Free}
use Rattle.model.specs.Run.{Run, accept}
use Rattle.model.specs.Limits.{InRange}
use Rattle.model.proofs.Lists.{passed, eqb-true, eqb_same}
use Rattle.model.proofs.Cases.{in_range?}
use Rattle.model.proofs.Entries.{same_own, same_true}
use Rattle.model.proofs.Ranges.{bound_inside}
use Rattle.model.proofs.Given.{Given, Bind, find, event_of, choice_of, router_after, history_after}

-- tests put together
and_left : (a b : Bool) → T (a && b) → T a
and_left true b t = tt
and_left false b t = absurd t

and_right : (a b : Bool) → T (a && b) → T b
and_right true b t = t
and_right false b t = absurd t

abbrev pub implies : Bool → Bool → Bool
implies true b = b
implies false b = true

implied : (a b : Bool) → T (implies a b) → a ≡ true → T b
implied true b t e = t
implied false b t e = absurd (subst (λ (x : Bool). T (not x)) e tt)

-- every x of a list, and every number below n
abbrev pub every : {A : Type 0} → (A → Bool) → List A → Bool
every p [] = true
every p (x ∷ xs) = p x && every p xs

abbrev pub below : ℕ → (ℕ → Bool) → Bool
below zero p = true
below (suc n) p = below n p && p n

below_at : (n : ℕ) (p : ℕ → Bool) → T (below n p) → (i : ℕ) → i < n → T (p i)
below_at zero p t i l = absurd (omega arith)
below_at (suc n) p t i l = go (ℕ_discrete i n) (below_at n p (and_left (below n p) (p n) t) i)
  where
    go : Dec (i ≡ n) → (i < n → T (p i)) → T (p i)
    go (yes e) ih = rw e (and_right (below n p) (p n) t)
    go (no ne) ih = ih (omega arith)

-- the n-th of some tests that all pass
nth : (ts : List Bool) → T (every (λ t. t) ts) → (n : ℕ) → T (get_or ts n true)
nth [] t n = tt
nth (b ∷ ts) t zero = and_left b (every (λ t. t) ts) t
nth (b ∷ ts) t (suc n) = nth ts (and_right b (every (λ t. t) ts) t) n

-- What is found in a list has the key and passes what every entry passes.
module _ {A B : Type 0} (key test : A → Bool) (get : A → B) where
  found : (xs : List A) → T (every test xs) → (b : B) → option_map get (find key xs) ≡ Some b → (x : A) × (key x ≡ true) × (get x ≡ b)
      × T (test x)
  found [] t b q = absurd (none-some b q)
  found (x ∷ xs) t b q = go (key x) refl q (found xs (and_right (test x) (every test xs) t) b)
    where
      go : (k : Bool) → key x ≡ k → option_map get (cond k (Some x) (find key xs)) ≡ Some b →
          (option_map get (find key xs) ≡ Some b → (x : A) × (key x ≡ true) × (get x ≡ b) × T (test x)) → (x : A) × (key x ≡ true)
          × (get x ≡ b) × T (test x)
      go true e q ih = (x, e, same_Some (get x) b q, and_left (test x) (every test xs) t)
      go false e q ih = ih q

is_some-law : {A : Type 0} (o : Option A) → is_some o ≡ true → (x : A) × (o ≡ Some x)
is_some-law None q = absurd (subst (λ (x : Bool). T (not x)) q tt)
is_some-law (Some x) q = (x, refl)

-- the tests of one binding and of one output VC
abbrev pub asks? : {Flit : Type 0} → Look Flit → List Flit → ℕ → Bool
asks? look [] o = false
asks? look (f ∷ q) o = look.starts f && eqb (look.port f) o

asked : {Flit : Type 0} (look : Look Flit) (q : List Flit) (o : ℕ) → T (asks? look q o) → Asks look q o
asked look [] o t = t
asked look (f ∷ q) o t = (
  passed (look.starts f) (and_left (look.starts f) (eqb (look.port f) o) t),
  eqb-true (look.port f) o
      (passed (eqb (look.port f) o) (and_right (look.starts f) (eqb (look.port f) o) t)),
)

abbrev pub elsewhere : Option OutVc → OutVc → Bool
elsewhere None b = true
elsewhere (Some a) b = not (same a.output a.vc b.output b.vc)

is_elsewhere : (o : Option OutVc) (b : OutVc) → T (elsewhere o b) → o ≢ Some b
is_elsewhere None b t q = none-some b q
is_elsewhere (Some a) b t q = rw (← same_Some a b q, same_own a.output a.vc) at t

abbrev pub same_output : Option OutVc → Option OutVc → Bool
same_output None b = false
same_output (Some a) None = false
same_output (Some a) (Some b) = eqb a.output b.output

unbound_is : (o : Option OutVc) → T (not (is_some o)) → o ≡ None
unbound_is None t = refl
unbound_is (Some b) t = absurd t

bound_is : (o : Option OutVc) → T (is_some o) → IsSome o
bound_is None t = absurd t
bound_is (Some b) t = refl

beq_is : (a b : Bool) → T (beq a b) → a ≡ b
beq_is true true t = refl
beq_is true false t = absurd t
beq_is false true t = absurd t
beq_is false false t = refl

eqb_is : {m n : ℕ} → m ≡ n → eqb m n ≡ true
eqb_is {m} q = rw (← q) (eqb_same m)

-- What a given cycle names passes what every entry of its list passes.
module _ {Flit : Type 0} (g : Given Flit) where
  abbrev pub e : Event Flit
  e = event_of g

  abbrev pub k : Choice
  k = choice_of g

  offers_pass : (p : ℕ → ℕ → Flit → Bool) → T (every (λ (o : Offer Flit). p o.input o.vc o.flit) g.offers)
      → (i : ℕ) (b : Brought Flit) →
      e.offer i ≡ Some b → T (p i b.vc b.flit)
  offers_pass p t i b q =
      let r = found (λ (o : Offer Flit). eqb o.input i) (λ (o : Offer Flit). p o.input o.vc o.flit)
      (λ (o : Offer Flit). record { vc = o.vc; flit = o.flit }) g.offers t b q in
      subst (λ (x : Brought Flit). T (p i x.vc x.flit)) r.2
      (subst (λ (j : ℕ). T (p j r.0.vc r.0.flit)) (eqb-true r.0.input i r.1) r.3)

  credits_pass : (p : ℕ → ℕ → Bool) → T (every (λ (r : OutVc). p r.output r.vc) g.credits) → (o w : ℕ) → e.credit o ≡ Some w
      → T (p o w)
  credits_pass p t o w q =
      let r = found (λ (r : OutVc). eqb r.output o) (λ (r : OutVc). p r.output r.vc) (λ (r : OutVc). r.vc) g.credits t w q in
      subst (λ (u : ℕ). T (p o u)) r.2 (subst (λ (j : ℕ). T (p j r.0.vc)) (eqb-true r.0.output o r.1) r.3)

  binds_pass : (p : ℕ → ℕ → OutVc → Bool) → T (every (λ (x : Bind). p x.input x.vc x.to) g.binds) → (i v : ℕ) (b : OutVc) →
      k.grant i v ≡ Some b → T (p i v b)
  binds_pass p t i v b q =
      let r = found (λ (x : Bind). same x.input x.vc i v) (λ (x : Bind). p x.input x.vc x.to) (λ (x : Bind). x.to)
      g.binds t b q in
      let here = same_true r.0.input r.0.vc i v r.1 in
      subst (λ (x : OutVc). T (p i v x)) r.2 (subst₂ (λ (j u : ℕ). T (p j u r.0.to)) here.0 here.1 r.3)

  leaves_pass : (p : ℕ → ℕ → Bool) → T (every (λ (x : InVc). p x.input x.vc) g.leaves) → (i v : ℕ) → k.leaves i v ≡ true
      → T (p i v)
  leaves_pass p t i v q =
      let x = is_some-law (find (λ (x : InVc). same x.input x.vc i v) g.leaves) q in
      let r = found (λ (x : InVc). same x.input x.vc i v) (λ (x : InVc). p x.input x.vc) (λ (x : InVc). x) g.leaves t x.0
      (ap (option_map (λ (x : InVc). x)) x.1) in
      let here = same_true r.0.input r.0.vc i v r.1 in
      subst₂ (λ (j u : ℕ). T (p j u)) here.0 here.1 r.3

module _ {Flit : Type 0} (look : Look Flit) (c : Config) (s : Router Flit) (g : Given Flit) where
  abbrev pub paid? : Option OutVc → Bool
  paid? None = true
  paid? (Some b) = ltb 0 (out_credit_now s (e g) b.output b.vc)

  abbrev pub bound? : ℕ → ℕ → Option OutVc
  bound? i v = bound_now s (k g) i v

  -- a test for each fact of `Legal`, in its order
  abbrev pub tests : List Bool
  tests =
      every (λ (o : Offer Flit). ltb o.input c.ports) g.offers ∷
      every (λ (o : Offer Flit). ltb o.vc c.vcs) g.offers ∷
      every (λ (o : Offer Flit). implies (look.starts o.flit) (ltb (look.port o.flit) c.ports)) g.offers ∷
      every (λ (r : OutVc). ltb (s.out_credit r.output r.vc) c.downstream) g.credits ∷
      every (λ (o : Offer Flit). beq (look.starts o.flit) (not (s.opened o.input o.vc))) g.offers ∷
      every (λ (o : Offer Flit). ltb (taken_now (s.channel o.input o.vc)) c.depth) g.offers ∷
      every (λ (x : Bind). not (is_some (s.bound x.input x.vc))) g.binds ∷
      every (λ (x : Bind). asks? look (queue_now (s.channel x.input x.vc)) x.to.output) g.binds ∷
      every (λ (x : Bind). below c.ports (λ i. below c.vcs (λ v. elsewhere (s.bound i v) x.to))) g.binds ∷
      every (λ (x : Bind). ltb x.to.vc c.vcs) g.binds ∷
      every (λ (x : Bind). every (λ (y : Bind). implies (eqb x.to.output y.to.output)
      (same x.input x.vc y.input y.vc)) g.binds)
      g.binds ∷
      every (λ (x : InVc). is_some (bound? x.input x.vc)) g.leaves ∷
      every (λ (x : InVc). ltb 0 (length (queue_now (s.channel x.input x.vc)))) g.leaves ∷
      every (λ (x : InVc). paid? (bound? x.input x.vc)) g.leaves ∷
      every (λ (x : InVc). every (λ (y : InVc). implies (eqb x.input y.input) (eqb x.vc y.vc)) g.leaves) g.leaves ∷
      every (λ (x : InVc). every (λ (y : InVc). implies (same_output (bound? x.input x.vc) (bound? y.input y.vc))
      (same x.input x.vc y.input y.vc)) g.leaves) g.leaves ∷
      []

  abbrev pub legal? : Bool
  legal? = every (λ t. t) tests

  -- no input VC in range is bound to an output VC that passes, and none beyond is bound
  free_all : Delayed c → {h : History Flit} → Run look c s h → (b : OutVc)
      → T (below c.ports (λ i. below c.vcs (λ v. elsewhere (s.bound i v) b))) →
      Free s b
  free_all delayed run b t i v = go (in_range? c i v)
    where
      go : Dec (InRange c i v) → s.bound i v ≢ Some b
      go (yes r) = is_elsewhere (s.bound i v) b
          (below_at c.vcs (λ u. elsewhere (s.bound i u) b)
          (below_at c.ports (λ j. below c.vcs (λ u. elsewhere (s.bound j u) b)) t i r.0) v
          r.1)
      go (no out) = bound_inside look c delayed run i v b out

  -- of two that are named, both at one output, or both from one input
  binds_one : T legal? → (i v j u : ℕ) (a b : OutVc) → (k g).grant i v ≡ Some a → (k g).grant j u ≡ Some b → a.output ≡ b.output
      → (i ≡ j) × (v ≡ u)
  binds_one t i v j u a b p q o =
      let one = binds_pass g (λ i v a. every (λ (y : Bind). implies (eqb a.output y.to.output) (same i v y.input y.vc))
      g.binds)
      (nth tests t 10) i v a p in
      let both = binds_pass g (λ j u b. implies (eqb a.output b.output) (same i v j u)) one j u b q in
      same_true i v j u (passed (same i v j u) (implied (eqb a.output b.output) (same i v j u) both (eqb_is o)))

  input_one : T legal? → (i v u : ℕ) → (k g).leaves i v ≡ true → (k g).leaves i u ≡ true → v ≡ u
  input_one t i v u p q =
      let one = leaves_pass g (λ i v. every (λ (y : InVc). implies (eqb i y.input) (eqb v y.vc)) g.leaves)
      (nth tests t 14) i v p in
      let both = leaves_pass g (λ j u. implies (eqb i j) (eqb v u)) one i u q in
      eqb-true v u (passed (eqb v u) (implied (eqb i i) (eqb v u) both (eqb_same i)))

  output_one : T legal? → (i v j u : ℕ) (a b : OutVc) → (k g).leaves i v ≡ true → (k g).leaves j u ≡ true → bound? i v ≡ Some a
      → bound? j u ≡ Some b →
      a.output ≡ b.output → (i ≡ j) × (v ≡ u)
  output_one t i v j u a b p q x y o =
      let one = leaves_pass g (λ i v. every (λ (y : InVc). implies (same_output (bound? i v) (bound? y.input y.vc))
      (same i v y.input y.vc))
      g.leaves) (nth tests t 15) i v p in
      let both = leaves_pass g (λ j u. implies (same_output (bound? i v) (bound? j u)) (same i v j u)) one j u q in
      same_true i v j u (passed (same i v j u) (implied (same_output (bound? i v) (bound? j u)) (same i v j u) both (rw (x, y) (eqb_is o))))

  -- A cycle that passes, after a run, is within the limits.
  pub legal_of : Delayed c → {h : History Flit} → Run look c s h → T legal? → Legal look c s (e g) (k g)
  legal_of delayed run t =
      record {
        offer_port = λ i b q. omega (arith, ltb→lt i c.ports (offers_pass g (λ i v f. ltb i c.ports) (nth tests t 0) i b q));
        offer_vc = λ i b q. omega (arith, ltb→lt b.vc c.vcs (offers_pass g (λ i v f. ltb v c.vcs) (nth tests t 1) i b q));
        offer_destination = λ i b q starts. omega (
          arith,
          ltb→lt (look.port b.flit) c.ports
              (implied (look.starts b.flit) (ltb (look.port b.flit) c.ports)
              (offers_pass g (λ i v f. implies (look.starts f) (ltb (look.port f) c.ports)) (nth tests t 2) i b q) starts),
        );
        room = λ o w q. omega (
          arith,
          ltb→lt (s.out_credit o w) c.downstream
              (credits_pass g (λ o w. ltb (s.out_credit o w) c.downstream) (nth tests t 3) o w q),
        );
        kinds = λ i b q. beq_is (look.starts b.flit) (not (s.opened i b.vc))
            (offers_pass g (λ i v f. beq (look.starts f) (not (s.opened i v))) (nth tests t 4) i b q);
        paid = λ i b q. omega (
          arith,
          ltb→lt (taken_now (s.channel i b.vc)) c.depth
              (offers_pass g (λ i v f. ltb (taken_now (s.channel i v)) c.depth) (nth tests t 5) i b q),
        );
        binds_unbound = λ i v b q. unbound_is (s.bound i v) (binds_pass g (λ i v b. not (is_some (s.bound i v))) (nth tests t 6) i v b q);
        binds_front = λ i v b q. asked look (queue_now (s.channel i v)) b.output
            (binds_pass g (λ i v b. asks? look (queue_now (s.channel i v)) b.output) (nth tests t 7) i v b q);
        binds_free = λ i v b q. free_all delayed run b
            (binds_pass g (λ i v b. below c.ports (λ j. below c.vcs (λ u. elsewhere (s.bound j u) b))) (nth tests t 8) i v b q);
        binds_vc = λ i v b q. omega (arith, ltb→lt b.vc c.vcs (binds_pass g (λ i v b. ltb b.vc c.vcs) (nth tests t 9) i v b q));
        binds_once = λ i v j u a b p q o. let one = binds_one t i v j u a b p q (cc) in (omega (arith, one), omega (arith, one));
        leaves_bound = λ i v q. bound_is (bound? i v) (leaves_pass g (λ i v. is_some (bound? i v)) (nth tests t 11) i v q);
        leaves_flit = λ i v q. omega (
          arith,
          ltb→lt 0 (length (queue_now (s.channel i v)))
              (leaves_pass g (λ i v. ltb 0 (length (queue_now (s.channel i v)))) (nth tests t 12) i v q),
        );
        leaves_credit = λ i v b q bound. omega (
          arith,
          ltb→lt 0 (out_credit_now s (e g) b.output b.vc)
              (rw bound at (leaves_pass g (λ i v. paid? (bound? i v)) (nth tests t 13) i v q)),
        );
        input_once = λ i v u p q. omega (arith, input_one t i v u p q);
        output_once = λ i v j u a b p q x y o. let one = output_one t i v j u a b p q x y o in (omega (arith, one), omega (arith, one));
      }

-- Cycles that pass one after another, from a router after a run, make a run.
module _ {Flit : Type 0} (look : Look Flit) (c : Config) where
  abbrev pub legals? : Router Flit → List (Given Flit) → Bool
  legals? s [] = true
  legals? s (g ∷ gs) = legal? look c s g && legals? (step look c s (event_of g) (choice_of g)) gs

  pub run_of : Delayed c → (s : Router Flit) (h : History Flit) → Run look c s h → (gs : List (Given Flit)) → T (legals? s gs) →
      Run look c (router_after look c s gs) (history_after look c s h gs)
  run_of delayed s h run [] t = run
  run_of delayed s h run (g ∷ gs) t =
      run_of delayed (step look c s (event_of g) (choice_of g)) (entry c s (event_of g) (choice_of g) ∷ h)
      (accept run (event_of g) (choice_of g)
      (legal_of look c s g delayed run (and_left (legal? look c s g) (legals? (step look c s (event_of g) (choice_of g)) gs) t))) gs
      (and_right (legal? look c s g) (legals? (step look c s (event_of g) (choice_of g)) gs) t)
