-- What follows about output credits: what left on an output VC is at most E ahead of the credits that came back for it.
-- Assumes nothing.
use mathlib.Core.Path.{◌≡◌, refl, ap, ◌∙◌}
use mathlib.Core.Bool.{Bool, true, false, cond}
use Rattle.std.specs.Prelude.{Option, None, Some}
use mathlib.Core.List.{List, [], ◌∷◌}
use Prim.Native.Nat.{ℕ, ◌+◌, ◌≤◌, ◌<◌}
use native.Mathlib.Omega.{arith}
use lib.Dec.{eqb}
use lib.ListN.{length, length-append}
use Rattle.model.specs.Sizes.{Config, Delayed}
use Rattle.model.specs.Flit.{Look}
use Rattle.model.specs.Router.{Router, OutVc}
use Rattle.model.specs.Cycle.{Event, Choice}
use Rattle.model.specs.History.{History, Departure, departures_on, left_on}
use Rattle.model.specs.Phases.{credit_for, out_credit_now}
use Rattle.model.specs.Step.{entry, step}
use Rattle.model.specs.Legal.{Legal}
use Rattle.model.specs.Run.{Run, start, accept}
use Rattle.model.specs.Limits.{InRange, OutputCredits, credits_for, credits_on}
use Rattle.model.proofs.Lists.{eqb-true}
use Rattle.model.proofs.Cases.{in_range?, not_otherwise}
use Rattle.model.proofs.Entries.{entry_source, entry_credits}
use Rattle.model.proofs.Invariant.{inv_run, now_on, one_leaves}
use Rattle.model.proofs.Ranges.{nothing_left_beyond}

module _ {Flit : Type 0} (look : Look Flit) (c : Config) (delayed : Delayed c) where
  module _ {s : Router Flit} {h : History Flit} (run : Run look c s h) (e : Event Flit) (k : Choice) (legal : Legal look c s e k) where
    -- What leaves on an output VC in a cycle has a credit there.
    left_paid : (o w : ℕ) → length (departures_on o w (entry c s e k)) ≤ out_credit_now s e o w
    left_paid o w = go (departures_on o w (entry c s e k)) refl
      where
        go : (ds : List (Departure Flit)) → departures_on o w (entry c s e k) ≡ ds
            → length (departures_on o w (entry c s e k)) ≤ out_credit_now s e o w
        go [] q = rw q (omega arith)
        go (d ∷ ds) q =
            let b : OutVc = record { output = o; vc = w } in
            let inv = inv_run look c delayed run in
            let r = entry_source c s e k b d ds q in
            let one : length (departures_on o w (entry c s e k))
            ≡ 1 = ap length (now_on look c delayed s h inv e k legal r.0 r.1 b r.3) ∙ one_leaves
            look c delayed s h inv e k legal r.0 r.1 ∙ ap (λ (x : Bool). cond x 1 0) r.2 in
            omega (arith, legal.leaves_credit r.0 r.1 b r.2 r.3)

    -- A credit comes back only for an output VC that something has left on, so only for one in range.
    pub credit_in_range : ((o w : ℕ) → OutputCredits c s h o w) → (o w : ℕ) → e.credit o ≡ Some w → InRange c o w
    credit_in_range before o w q =
        not_otherwise (in_range? c o w) (λ out. omega (
          arith,
          legal.room o w q,
          (before o w).sum,
          ap length
              (nothing_left_beyond look c delayed run o w out),
        ))

    credit_fits : (o w : ℕ) → s.out_credit o w ≤ c.downstream → out_credit_now s e o w ≤ c.downstream
    credit_fits o w fits = go (e.credit o) refl
      where
        go : (b : Option ℕ) → e.credit o ≡ b → s.out_credit o w + credit_for w b ≤ c.downstream
        go None q = omega arith
        go (Some u) q = test (eqb u w) refl
          where
            test : (t : Bool) → eqb u w ≡ t → s.out_credit o w + cond t 1 0 ≤ c.downstream
            test true t = let room : s.out_credit o w < c.downstream = rw (eqb-true u w t) at (legal.room o u q) in omega arith
            test false t = omega arith

    out_step : ((o w : ℕ) → OutputCredits c s h o w) → (o w : ℕ) → OutputCredits c (step look c s e k) (entry c s e k ∷ h) o w
    out_step before o w =
        let b = before o w in
        let credits = entry_credits c s e k (λ p u q. (credit_in_range before p u q).0) o w in
        record {
          sum = rw (
            length-append (left_on o w h) (departures_on o w (entry c s e k)),
            length-append (credits_on o w h)
                (credits_for o w (entry c s e k)),
          )
              (omega (arith, left_paid o w, b.sum, credits));
          fits = omega (arith, credit_fits o w b.fits);
        }

  pub output_credits-law : {s : Router Flit} {h : History Flit} → Run look c s h → (o w : ℕ) → OutputCredits c s h o w
  output_credits-law start o w = record { sum = refl; fits = omega arith }
  output_credits-law (accept run e k legal) o w = out_step run e k legal (λ p u. output_credits-law run p u) o w
