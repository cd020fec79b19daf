-- What becomes of a run does not depend on the buffer that its lines go to, nor on the place in it.
-- Assumes nothing.
use Rattle.std.specs.Prelude.{Result}
use Rattle.trace.specs.declared.place.Place.{Place}
use Rattle.std.specs.Prelude.{Ok, Err}
use mathlib.Core.Path.{◌≡◌, refl, sym, ap, subst, ◌∙◌}
use mathlib.Core.Bool.{Bool, true, false, cond}
use mathlib.Core.List.{List, []}
use Prim.Native.Nat.{ℕ, zero, suc, ◌+◌}
use native.Mathlib.Omega.{arith}
use Rattle.trace.specs.Bytes.{AreBytes}
use Rattle.trace.specs.declared.judging.Answer.{Answer}
use Rattle.trace.specs.declared.judging.Found.{Found}
use Rattle.base.specs.declared.refusal.Refusal.{Refusal}
use Rattle.trace.specs.declared.judging.Found.TheVariants as found
use Rattle.trace.specs.Judged.{judged}
use Rattle.trace.specs.Blocks.{part_at}
use Rattle.base.specs.Refusal.{Verdict}
use Rattle.rules.specs.Step.{step_of}
use Rattle.runs.specs.declared.Run.{Run}
use Rattle.router.specs.Running.{Writing, wrote, with_place, on_run, ended_by, by_verdict, cycled, cycles_from, by_found, block_taken}
use Rattle.router.specs.Inside.{Within, GoesOn}
use Rattle.router.proofs.Going.{cycled_goes_on}

-- a run that writes nowhere
abbrev pub anywhere : Run → Writing
anywhere n = record { run = n; at = 0; buffer = [] }

pub nowhere : Within 0 []
nowhere = record { inside = omega arith; short = omega arith }

cycled_run : (part : List ℕ) (w : Writing) → (cycled part w).run ≡ (cycled part (anywhere w.run)).run
unfolding cycled ended_by wrote
cycled_run part w = go (step_of w.run.router part).verdict
  where
    go : (v : Verdict) → (by_verdict v (step_of w.run.router part) w).run
        ≡ (by_verdict v (step_of w.run.router part) (anywhere w.run)).run
    go (Ok _) = refl
    go (Err r) = refl

cycles_run : (block : List ℕ) (n k : ℕ) (w : Writing) → (cycles_from block k n w).run ≡ (cycles_from block k n (anywhere w.run)).run
unfolding cycles_from
cycles_run block zero k w = refl
cycles_run block (suc n) k w =
    go w.run.over
    (cycles_run block n (k + 1) (cycled part w) ∙ ap (λ (m : Run). (cycles_from block (k + 1) n (anywhere m)).run) (cycled_run part w)
    ∙ sym (cycles_run block n (k + 1) (cycled part (anywhere w.run))))
  where
    part : List ℕ
    part = part_at block k

    go : (o : Bool) → (cycles_from block (k + 1) n (cycled (part_at block k) w)).run
        ≡ (cycles_from block (k + 1) n (cycled (part_at block k) (anywhere w.run))).run
        → (cond o w (cycles_from block (k + 1) n (cycled (part_at block k) w))).run
        ≡ (cond o (anywhere w.run) (cycles_from block (k + 1) n (cycled (part_at block k) (anywhere w.run)))).run
    go true e = refl
    go false e = e

pub block_run : (block : List ℕ) (w : Writing) → (block_taken block w).run ≡ (block_taken block (anywhere w.run)).run
unfolding block_taken ended_by wrote
block_run block w = go (judged w.run.place w.run.router.cycle block)
  where
    go : (o : Answer) → (by_found o.found o.place block w).run ≡ (by_found o.found o.place block (anywhere w.run)).run
    go o = which o.found o.place
      where
        which : (r : Result Found Refusal) (q : Place) → (by_found r q block w).run ≡ (by_found r q block (anywhere w.run)).run
        which (Err r) q = refl
        which (Ok (found.Configuration c)) q = refl
        which (Ok (found.Cycles n)) q = cycles_run block n 0 (on_run (with_place q) w)
        which (Ok found.End) q = refl
        which (Ok found.Done) q = refl

-- a run that goes on, wherever it writes
abbrev pub Goes : Run → Type 0
Goes n = GoesOn (anywhere n)

pub goes_anywhere : (w : Writing) → GoesOn w → Goes w.run
goes_anywhere w g = record { sound = g.sound; few = g.few; room = nowhere }

pub cycled_goes : (part : List ℕ) → AreBytes part → (w : Writing) → Goes w.run → Goes (cycled part w).run
cycled_goes part bytes w g =
    subst Goes (sym (cycled_run part w)) (goes_anywhere (cycled part (anywhere w.run))
    (cycled_goes_on part bytes (anywhere w.run) g))
