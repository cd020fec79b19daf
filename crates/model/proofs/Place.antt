-- Where an input VC stands: inside a packet or between two, bound or not, and how that changes in a cycle.
-- Assumes nothing.
use mathlib.Core.Path.{◌≡◌, refl, sym, subst}
use mathlib.Core.Logic.{◌≢◌}
use mathlib.Core.Bool.{Bool, true, false, cond, not, false≢true}
use Rattle.std.specs.Prelude.{Option, None, Some}
use Rattle.std.proofs.lemmas.Option.{none-some, same_Some}
use Rattle.std.specs.Prelude.{IsSome}
use mathlib.Core.List.{List, [], ◌∷◌, ◌++◌, append-nil}
use Prim.Native.Nat.{ℕ, ◌<◌}
use native.Mathlib.Omega.{arith}
use lib.ListN.{length, drop}
use Rattle.model.specs.Flit.{Look}
use Rattle.model.specs.Router.{OutVc}
use Rattle.model.specs.History.{Departure, flits}
use Rattle.model.specs.Phases.{leaving}
use Rattle.model.specs.Step.{bound_after}
use Rattle.model.specs.Legal.{Asks}
use Rattle.model.specs.Packets.{Whole, Packets}
use Rattle.model.specs.Demand3.{ByHeadsPort, FromOneSource}
use Rattle.model.proofs.Cases.{gone}
use Rattle.model.proofs.Reading.{Reads, is_open, head_of, Reading, read_on, reading_packets}

module _ {Flit : Type 0} (look : Look Flit) (i v : ℕ) where
  -- An input VC that is unbound stands between packets. One that is bound stands in front of a head for that output, or inside a packet
  -- for it.
  abbrev pub Goes : Option OutVc → Option (Departure Flit) → List Flit → Type 0
  Goes None None q = Unit {0}
  Goes None (Some h) q = ⊥
  Goes (Some b) None q = Asks look q b.output
  Goes (Some b) (Some h) q = (look.port h.flit ≡ b.output) × (h.input ≡ i) × (h.vc ≡ v)

  -- bound to b, with the flits q in the queue and `later` behind them, from which `from` has left, and on each output VC `on`
  pub record Place (b : Option OutVc) (q later : List Flit) (opened : Bool) (from : List (Departure Flit))
      (on : OutVc → List (Departure Flit)) : Type 0 where
    pub inside : Option (Departure Flit)
    pub goes : Goes b inside q
    pub reads : Reads look (is_open inside) (q ++ later) opened
    pub left : Reading look (ByHeadsPort look) inside from
    pub on_output : (a : OutVc) → b ≡ Some a → Reading look FromOneSource inside (on a)

  -- More flits behind the queue change nothing.
  asks_append : (q r : List Flit) (o : ℕ) → Asks look q o → Asks look (q ++ r) o
  asks_append [] r o a = absurd a
  asks_append (f ∷ q) r o a = a

  pub goes_append : (b : Option OutVc) (h : Option (Departure Flit)) (q r : List Flit) → Goes b h q → Goes b h (q ++ r)
  goes_append None None q r g = g
  goes_append None (Some h) q r g = absurd g
  goes_append (Some b) None q r g = asks_append q r b.output g
  goes_append (Some b) (Some h) q r g = g

  -- An unbound input VC with a head for an output in front is bound to an output VC on which nothing is unfinished.
  pub place_bind : {q later : List Flit} {opened : Bool} {from : List (Departure Flit)} {on : OutVc → List (Departure Flit)} (b : OutVc) →
      Place None q later opened from on → Asks look q b.output → Whole look FromOneSource (on b) → Place (Some b) q later opened from on
  place_bind {q} {later} {opened} {from} {on} b p asks idle = go p.inside p.goes p.reads p.left
    where
      go : (h : Option (Departure Flit)) → Goes None h q → Reads look (is_open h) (q ++ later) opened
          → Reading look (ByHeadsPort look) h from →
          Place (Some b) q later opened from on
      go None g r l =
          record {
            inside = None;
            goes = asks;
            reads = r;
            left = l;
            on_output = λ a e. subst (λ (x : OutVc). Whole look FromOneSource (on x)) (same_Some b a e) idle;
          }
      go (Some h) g r l = absurd g

  module _ (b : OutVc) (f : Flit) where
    -- the front flit as it leaves by b
    abbrev front : Departure Flit
    front = gone i v b f

    -- it belongs to a packet whose head named that output and came from here
    front_fits : (h : Option (Departure Flit)) (q : List Flit) → Goes (Some b) h (f ∷ q) →
        (look.port (head_of h front).flit ≡ b.output) × ((head_of h front).input ≡ i) × ((head_of h front).vc ≡ v)
    front_fits None q g = (g.1, refl, refl)
    front_fits (Some h) q g = g

    -- The front flit of a bound input VC leaves: the VC's packets and the output VC's packets go on alike ..
    module _ {q later : List Flit} {opened : Bool} {from : List (Departure Flit)} {on : OutVc → List (Departure Flit)}
        (p : Place (Some b) (f ∷ q) later opened from on) where
      abbrev pub inside_after : Option (Departure Flit)
      inside_after = cond (look.ends f) None (Some (head_of p.inside front))

      pub output_reads : Reading look FromOneSource inside_after (on b ++ (front ∷ []))
      output_reads =
          let fits = front_fits p.inside q p.goes in
          read_on look FromOneSource p.inside (on b) front (p.on_output b refl) p.reads.0 (sym fits.1, sym fits.2)

      -- .. and its tail unbinds.
      pub place_leave : (after : OutVc → List (Departure Flit)) → after b ≡ on b ++ (front ∷ []) →
          Place (cond (look.ends f) None (Some b)) q later opened (from ++ (front ∷ [])) after
      place_leave after e =
          record {
            inside = inside_after;
            goes = goes (look.ends f) p.inside (front_fits p.inside q p.goes);
            reads = reads (look.ends f) p.inside p.reads.1;
            left = read_on look (ByHeadsPort look) p.inside from front p.left p.reads.0
                (sym (front_fits p.inside q p.goes).0);
            on_output = λ a r. out a (look.ends f) r output_reads;
          }
        where
          goes : (t : Bool) (h : Option (Departure Flit)) →
              (look.port (head_of h front).flit ≡ b.output) × ((head_of h front).input ≡ i) × ((head_of h front).vc ≡ v) →
              Goes (cond t None (Some b)) (cond t None (Some (head_of h front))) q
          goes true h g = tt
          goes false h g = g

          reads : (t : Bool) (h : Option (Departure Flit)) → Reads look (not t) (q ++ later) opened →
              Reads look (is_open (cond t None (Some (head_of h front)))) (q ++ later) opened
          reads true h r = r
          reads false h r = r

          out : (a : OutVc) (t : Bool) → cond t None (Some b) ≡ Some a → Reading look FromOneSource inside_after (on b ++ (front ∷ [])) →
              Reading look FromOneSource inside_after (after a)
          out a true r w = absurd (none-some a r)
          out a false r w = rw (← same_Some b a r, e) w

  -- What leaves, if anything is to, is the front of the queue.
  pub leaving_front : (l : Bool) (b : Option OutVc) (q : List Flit) → (l ≡ true → IsSome b) → (l ≡ true → 0 < length q) →
      (length (leaving i v l b q) ≡ cond l 1 0) × (flits (leaving i v l b q) ++ drop (cond l 1 0) q ≡ q)
  leaving_front false b q bound flit = (refl, refl)
  leaving_front true None q bound flit = absurd (false≢true (bound refl))
  leaving_front true (Some b) [] bound flit = let l = flit refl in absurd (omega arith)
  leaving_front true (Some b) (f ∷ q) bound flit = (refl, refl)

  module _ {later : List Flit} {opened : Bool} {from : List (Departure Flit)} {on : OutVc → List (Departure Flit)} where
    -- An input VC's place after the cycle, in which it lets its front flit leave or not ..
    pub place_cycle : (l : Bool) (b : Option OutVc) (q : List Flit) → (l ≡ true → IsSome b) → (l ≡ true → 0 < length q)
        → Place b q later opened from on →
        (after : OutVc → List (Departure Flit)) → ((a : OutVc) → b ≡ Some a → after a ≡ on a ++ leaving i v l b q) →
        Place (bound_after look l q b) (drop (cond l 1 0) q) later opened (from ++ leaving i v l b q) after
    place_cycle false b q bound flit p after e =
        record {
          inside = p.inside;
          goes = p.goes;
          reads = p.reads;
          left = rw (append-nil from) p.left;
          on_output = λ a r. rw (e a r, append-nil (on a)) (p.on_output a r);
        }
    place_cycle true None q bound flit p after e = absurd (false≢true (bound refl))
    place_cycle true (Some b) [] bound flit p after e = let l = flit refl in absurd (omega arith)
    place_cycle true (Some b) (f ∷ q) bound flit p after e = place_leave b f p after (e b refl)

    -- .. and the packets on the output VC by which it leaves.
    pub output_cycle : (b : Option OutVc) (q : List Flit) (a : OutVc) → b ≡ Some a → 0 < length q → Place b q later opened from on →
        Packets look FromOneSource (on a ++ leaving i v true b q) ×
        (bound_after look true q b ≢ Some a → Whole look FromOneSource (on a ++ leaving i v true b q))
    output_cycle None q a e flit p = absurd (none-some a e)
    output_cycle (Some b) [] a e flit p = absurd (omega arith)
    output_cycle (Some b) (f ∷ q) a e flit p =
        rw (← same_Some b a e) (
          reading_packets look FromOneSource (inside_after b f p) (on b ++ (gone i v b f ∷ [])) (output_reads b f p),
          λ ne. go (look.ends f) ne
              (output_reads b f p),
        )
      where
        go : (t : Bool) → cond t None (Some b) ≢ Some b →
            Reading look FromOneSource (cond t None (Some (head_of p.inside (gone i v b f)))) (on b ++ (gone i v b f ∷ [])) →
            Whole look FromOneSource (on b ++ (gone i v b f ∷ []))
        go true ne w = w
        go false ne w = absurd (ne refl)
