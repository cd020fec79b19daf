-- What is told by one of two histories that are alike, the other tells too: demand 3, the times and the limits.
-- Assumes nothing.
use mathlib.Core.Path.{◌≡◌, refl, sym, ap, ap₂, subst, subst₂, ◌∙◌}
use mathlib.Core.Bool.{Bool, true, false, cond, true≢false, false≢true}
use mathlib.Core.List.{List, [], ◌∷◌, ◌++◌, map}
use Prim.Native.Nat.{ℕ, suc, ◌+◌, ◌≤◌}
use native.Mathlib.Omega.{arith}
use lib.Dec.{leb, ltb}
use lib.ListN.{length}
use Rattle.model.specs.Lists.{keep, All}
use Rattle.model.specs.Sizes.{Config}
use Rattle.model.specs.Flit.{Look}
use Rattle.model.specs.Channel.{Channel, on_wire}
use Rattle.model.specs.Router.{Router, InVc, OutVc}
use Rattle.model.specs.History.{Offer, Departure, Entry, History, Numbered, gather, up_to, after, accepted, left_from, left_on, flits}
use Rattle.model.specs.History.{departures_from, departures_on, same}
use Rattle.model.specs.Limits.{InRange, NamesInRange, OncePerPort, credits_for, credits_on}
use Rattle.model.specs.Times.{accepted_in, left_in, reached_in}
use Rattle.model.specs.Packets.{Packets}
use Rattle.model.specs.Demand3.{ByHeadsPort, LeftByDestination, FromOneSource, InputDemand, Demand3}
use Rattle.model.specs.Alike.{SameCycle, Alike}
use Rattle.model.proofs.Cases.{in_range?}

module _ {Flit : Type 0} where
  pub length_alike : (h g : History Flit) → Alike h g → length h ≡ length g
  length_alike [] [] a = refl
  length_alike [] (y ∷ g) a = absurd a
  length_alike (x ∷ h) [] a = absurd a
  length_alike (x ∷ h) (y ∷ g) a = ap suc (length_alike h g a.1)

  numbered_alike : (n : ℕ) (h g : History Flit) → Alike h g → Numbered n h → Numbered n g
  numbered_alike n [] [] a q = q
  numbered_alike n [] (y ∷ g) a q = absurd a
  numbered_alike n (x ∷ h) [] a q = absurd a
  numbered_alike n (x ∷ h) (y ∷ g) a q =
      let cycle = a.0.cycle in
      (q.0 ∙ ap suc cycle, subst (λ (k : ℕ). Numbered k g) cycle (numbered_alike x.cycle h g a.1 q.1))

  -- what is gathered of cycles that are the same
  gather_alike : {A : Type 0} (of : Entry Flit → List A) → ((x y : Entry Flit) → SameCycle x y → of x ≡ of y) → (h g : History Flit)
      → Alike h g → gather of h ≡ gather of g
  gather_alike of each [] [] a = refl
  gather_alike of each [] (y ∷ g) a = absurd a
  gather_alike of each (x ∷ h) [] a = absurd a
  gather_alike {A} of each (x ∷ h) (y ∷ g) a = ap₂ (λ (l r : List A). l ++ r) (gather_alike of each h g a.1) (each x y a.0)

  -- the cycles whose numbers pass a test
  keep_alike : (p : ℕ → Bool) (h g : History Flit) → Alike h g
      → Alike (keep (λ (e : Entry Flit). p e.cycle) h) (keep (λ (e : Entry Flit). p e.cycle) g)
  keep_alike p [] [] a = tt
  keep_alike p [] (y ∷ g) a = absurd a
  keep_alike p (x ∷ h) [] a = absurd a
  keep_alike p (x ∷ h) (y ∷ g) a = go (p x.cycle) (p y.cycle) (ap p a.0.cycle) _ _ (keep_alike p h g a.1)
    where
      go : (b d : Bool) → b ≡ d → (k l : History Flit) → Alike k l → Alike (cond b (x ∷ k) k) (cond d (y ∷ l) l)
      go true true e k l r = (a.0, r)
      go true false e k l r = absurd (true≢false e)
      go false true e k l r = absurd (false≢true e)
      go false false e k l r = r

  module _ (h g : History Flit) (a : Alike h g) (i v : ℕ) where
    -- the flits accepted on an input VC, what left from it, and when; its credits' times; what left on an output VC and came back for it
    pub accepted_alike : accepted i v h ≡ accepted i v g
    accepted_alike =
        gather_alike _ (λ x y s. ap (λ (os : List (Offer Flit)). map (λ (o : Offer Flit). o.flit)
        (keep (λ (o : Offer Flit). same o.input o.vc i v) os)) s.offers) h g a

    pub left_alike : left_from i v h ≡ left_from i v g
    left_alike = gather_alike (departures_from i v) (λ x y s. s.from i v) h g a

    pub left_on_alike : left_on i v h ≡ left_on i v g
    left_on_alike = gather_alike (departures_on i v) (λ x y s. s.on i v) h g a

    pub credits_alike : credits_on i v h ≡ credits_on i v g
    credits_alike =
        gather_alike (credits_for i v) (λ x y s. ap (keep (λ (r : OutVc). same r.output r.vc i v)) s.credits) h g a

    pub accepted_in_alike : accepted_in i v h ≡ accepted_in i v g
    accepted_in_alike =
        gather_alike _ (λ x y s. λ t. map (λ (o : Offer Flit). s.cycle t)
        (keep (λ (o : Offer Flit). same o.input o.vc i v) (s.offers t))) h g a

    pub left_in_alike : left_in i v h ≡ left_in i v g
    left_in_alike = gather_alike _ (λ x y s. λ t. map (λ (d : Departure Flit). s.cycle t) (s.from i v t)) h g a

    pub reached_in_alike : reached_in i v h ≡ reached_in i v g
    reached_in_alike =
        gather_alike _ (λ x y s. λ t. map (λ (r : InVc). s.cycle t)
        (keep (λ (r : InVc). same r.input r.vc i v) (s.reached t))) h g a

  pub up_to_alike : (t n : ℕ) (h g : History Flit) → Alike h g → Alike (up_to t n h) (up_to t n g)
  up_to_alike t n = keep_alike (λ (k : ℕ). leb (k + n) t)

  after_alike : (t n : ℕ) (h g : History Flit) → Alike h g → Alike (after t n h) (after t n g)
  after_alike t n = keep_alike (λ (k : ℕ). ltb t (k + n))

-- what can be decided and holds of each of some, holds of each of others of whom every question is true of as many
module _ {A : Type 0} (P : A → Type 0) (decide : (x : A) → Dec (P x)) where
  abbrev fails : {x : A} → Dec (P x) → Bool
  fails (yes p) = false
  fails (no p) = true

  abbrev fails? : A → Bool
  fails? x = fails (decide x)

  none_fails : (xs : List A) → All P xs → length (keep fails? xs) ≡ 0
  none_fails [] all = refl
  none_fails (x ∷ xs) all = go (decide x) (none_fails xs all.1)
    where
      go : (d : Dec (P x)) → length (keep fails? xs) ≡ 0 → length (cond (fails d) (x ∷ keep fails? xs) (keep fails? xs)) ≡ 0
      go (yes p) rest = rest
      go (no p) rest = absurd (p all.0)

  all_hold : (xs : List A) → length (keep fails? xs) ≡ 0 → All P xs
  all_hold [] e = tt
  all_hold (x ∷ xs) e = go (decide x) e (all_hold xs)
    where
      go : (d : Dec (P x)) → length (cond (fails d) (x ∷ keep fails? xs) (keep fails? xs)) ≡ 0 → (length (keep fails? xs) ≡ 0 → All P xs)
          → P x × All P xs
      go (yes p) e rest = (p, rest e)
      go (no p) e rest = absurd (omega arith)

  all_many : (xs ys : List A) → ((p : A → Bool) → length (keep p xs) ≡ length (keep p ys)) → All P xs → All P ys
  all_many xs ys many all = all_hold ys (sym (many fails?) ∙ none_fails xs all)

module _ {Flit : Type 0} where
  names_same : (c : Config) (x y : Entry Flit) → SameCycle x y → NamesInRange c x → NamesInRange c y
  names_same c x y s names =
      record {
        offers = subst (All (λ (o : Offer Flit). InRange c o.input o.vc)) s.offers names.offers;
        sources = all_many _ (λ (d : Departure Flit). in_range? c d.input d.vc) x.departures y.departures s.many
            names.sources;
        outputs = all_many _ (λ (d : Departure Flit). in_range? c d.output d.out_vc) x.departures y.departures s.many
            names.outputs;
        reached = subst (All (λ (r : InVc). InRange c r.input r.vc)) s.reached names.reached;
        credits = subst (All (λ (r : OutVc). InRange c r.output r.vc)) s.credits names.credits;
      }

  once_same : (x y : Entry Flit) → SameCycle x y → OncePerPort x → OncePerPort y
  once_same x y s once =
      record {
        inputs = λ i. subst (λ (n : ℕ). n ≤ 1) (s.many _) (once.inputs i);
        outputs = λ o. subst (λ (n : ℕ). n ≤ 1) (s.many _) (once.outputs o);
      }

  -- what holds of each cycle and of those that are the same
  all_alike : (P : Entry Flit → Type 0) → ((x y : Entry Flit) → SameCycle x y → P x → P y) → (h g : History Flit) → Alike h g → All P h
      → All P g
  all_alike P same [] [] a all = tt
  all_alike P same [] (y ∷ g) a all = absurd a
  all_alike P same (x ∷ h) [] a all = absurd a
  all_alike P same (x ∷ h) (y ∷ g) a all = (same x y a.0 all.0, all_alike P same h g a.1 all.1)

  pub once_alike : (h g : History Flit) → Alike h g → All OncePerPort h → All OncePerPort g
  once_alike = all_alike OncePerPort once_same

module _ {Flit : Type 0} (look : Look Flit) (c : Config) (h g : History Flit) (a : Alike h g) (t : ℕ) where
  taken_up_to : (n i v : ℕ) → length (accepted i v (up_to t n h)) ≡ length (accepted i v (up_to t n g))
  taken_up_to n i v = ap length (accepted_alike (up_to t n h) (up_to t n g) (up_to_alike t n h g a) i v)

  taken_after : (n i v : ℕ) → length (accepted i v (after t n h)) ≡ length (accepted i v (after t n g))
  taken_after n i v = ap length (accepted_alike (after t n h) (after t n g) (after_alike t n h g a) i v)

  left_up_to : (n i v : ℕ) → length (left_from i v (up_to t n h)) ≡ length (left_from i v (up_to t n g))
  left_up_to n i v = ap length (left_alike (up_to t n h) (up_to t n g) (up_to_alike t n h g a) i v)

  left_after : (n i v : ℕ) → length (left_from i v (after t n h)) ≡ length (left_from i v (after t n g))
  left_after n i v = ap length (left_alike (after t n h) (after t n g) (after_alike t n h g a) i v)

  input_alike : (ch : Channel Flit) (i v : ℕ) → InputDemand look c ch h t i v → InputDemand look c ch g t i v
  input_alike ch i v d =
      let taken = accepted_alike h g a i v in
      let left = left_alike h g a i v in
      record {
        wire = d.wire ∙ taken_after c.forward i v;
        buffered = omega (arith, d.buffered, left_up_to 0 i v, taken_up_to c.forward i v);
        home = d.home ∙ left_after c.back i v;
        credits = omega (arith, d.credits, taken_up_to 0 i v, left_up_to c.back i v);
        slots = d.slots;
        depth = d.depth;
        order = ap (λ (ds : List (Departure Flit)). flits ds ++ ch.queue ++ on_wire ch) (sym left) ∙ d.order ∙ taken;
        ports = subst (Packets look (ByHeadsPort look)) left d.ports;
        destinations = subst₂ (LeftByDestination look) left taken d.destinations;
      }

  -- Demand 3 does not look at the order in which the departures of a cycle are listed.
  pub demand_alike : (s : Router Flit) → Demand3 look c s h t → Demand3 look c s g t
  demand_alike s d =
      record {
        cycles = numbered_alike (suc t) h g a d.cycles;
        names = all_alike (NamesInRange c) (names_same c) h g a d.names;
        inputs = λ i v p q. input_alike (s.channel i v) i v (d.inputs i v p q);
        outputs = λ o w p q. subst (Packets look FromOneSource) (left_on_alike h g a o w) (d.outputs o w p q);
      }
