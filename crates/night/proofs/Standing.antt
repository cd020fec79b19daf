-- The cycles of a block, one after another: where the run stands when all are accepted, and where it stops at one that is refused.
-- Assumes nothing.
use Rattle.std.specs.Prelude.{Ok, Err}
use mathlib.Core.Path.{◌≡◌, refl, sym, ap, ap₂, subst, ◌∙◌}
use mathlib.Core.Bool.{Bool, true, false, cond}
use mathlib.Core.List.{List}
use Prim.Native.Nat.{ℕ, zero, suc, ◌+◌, ◌*◌, ◌≤◌}
use native.Mathlib.Nat.{mul-suc, add-zero}
use native.Mathlib.Omega.{arith}
use Rattle.base.specs.declared.config.Config.{Config}
use Rattle.state.specs.declared.Router.{Router}
use Rattle.state.specs.Sound.{Sound}
use Rattle.trace.specs.Bytes.{AreBytes}
use Rattle.trace.specs.declared.place.Place.{Place}
use Rattle.trace.specs.Blocks.{cycle_length, cycle_start, part_at}
use Rattle.listing.specs.Lines.{cycle_lines, flit_lines}
use Rattle.base.specs.declared.refusal.Refusal.{Refusal}
use Rattle.base.specs.Refusal.{Verdict}
use Rattle.rules.specs.declared.Stepped.{Stepped}
use Rattle.rules.specs.Step.{step_of}
use Rattle.rules.proofs.ChosenStep.{config_stays, cycle_steps}
use Rattle.rules.proofs.StepSound.{accepted_after}
use Rattle.history.proofs.Printable.{flits_at_most_ports}
use Rattle.runs.specs.declared.Run.{Run}
use Rattle.router.specs.Running.{Writing, wrote, finished, ended_by, by_verdict, cycled, cycles_from}
use Rattle.router.proofs.Cycling.{cycles_over}
use Rattle.router.proofs.Going.{piece_bytes}

-- a run after the configuration block, at a place with so many cycles
pub record Stands (q : Place) (c : ℕ) (n : Run) : Type 0 where
  pub place : n.place ≡ q
  pub sound : Sound n.router
  pub few : n.flits ≤ n.router.config.ports * n.router.cycle
  pub cycle : n.router.cycle ≡ c

-- one accepted cycle
module _ (q : Place) (c : ℕ) (n : Run) (part : List ℕ) (bytes : AreBytes part) (at : Stands q c n)
    (e : (step_of n.router part).verdict ≡ Ok tt) where
  abbrev s : Router
  s = n.router

  abbrev x : Stepped
  x = step_of s part

  abbrev next : Run
  next = record { router = x.router; place = n.place; flits = n.flits + flit_lines (cycle_lines s.cycle x.reply); over = n.over }

  -- one flit more for each output at most
  accepted_few : next.flits ≤ x.router.config.ports * x.router.cycle
  accepted_few =
      let grown : x.router.config.ports * x.router.cycle ≡ s.config.ports * suc s.cycle =
      ap₂ ◌*◌ (ap (λ (k : Config). k.ports) (config_stays s part bytes e)) (cycle_steps s part bytes e) in
      omega (arith, grown, mul-suc s.config.ports s.cycle, at.few, flits_at_most_ports s part bytes e)

  accepted_stands : Stands q (c + 1) next
  accepted_stands =
      record {
        place = at.place;
        sound = accepted_after s part bytes e;
        few = accepted_few;
        cycle = let f = cycle_steps s part bytes e in let g = at.cycle in omega (arith, f, g);
      }

-- the run after a cycle
module _ (part : List ℕ) (w : Writing) where
  cycled_on : (e : (step_of w.run.router part).verdict ≡ Ok tt) (q : Place) (c : ℕ) (bytes : AreBytes part)
      (at : Stands q c w.run)
      → (cycled part w).run ≡ next q c w.run part bytes at e
  unfolding cycled wrote
  cycled_on e q c bytes at = ap (λ (v : Verdict). (by_verdict v (step_of w.run.router part) w).run) e

  cycled_off : (r : Refusal) → (step_of w.run.router part).verdict ≡ Err r → (cycled part w).run ≡ finished w.run
  unfolding cycled wrote ended_by
  cycled_off r e = ap (λ (v : Verdict). (by_verdict v (step_of w.run.router part) w).run) e

-- after m cycles of a block that was taken with c: all were accepted, or the run stopped at one
pub data Ran (q : Place) (c m : ℕ) (n : Run) : Type 0 where
  through : n.over ≡ false → Stands q (c + m) n → Ran q c m n
  stopped : (j : ℕ) → j ≤ 6 → n.over ≡ true → Stands q (c + j) n → Ran q c m n

module _ (block : List ℕ) (bytes : AreBytes block) (q : Place) (c : ℕ) where
  -- cycle k, and what then becomes of the n behind it
  module _ (n k : ℕ) (w : Writing) (l : k + suc n ≤ 7) (o : w.run.over ≡ false) (s : Stands q (c + k) w.run) where
    abbrev part : List ℕ
    part = part_at block k

    abbrev later : Writing
    later = cycled part w

    part_bytes : AreBytes part
    part_bytes = piece_bytes cycle_length (cycle_start k) block bytes

    one_ran : (v : Verdict) → (step_of w.run.router part).verdict ≡ v
        → (later.run.over ≡ false → Stands q (c + (k + 1)) later.run
        → Ran q c (k + 1 + n) (cycles_from block (k + 1) n later).run)
        → Ran q c (k + suc n) (cycles_from block (k + 1) n later).run
    one_ran (Ok _) e rest =
        let is = cycled_on part w e q (c + k) part_bytes s in
        subst (λ (m : ℕ). Ran q c m (cycles_from block (k + 1) n later).run) (omega arith)
        (rest (ap (λ (m : Run). m.over) is ∙ o)
        (subst (λ (m : Run). Stands q (c + (k + 1)) m) (sym is)
        (subst (λ (m : ℕ). Stands q m (next q (c + k) w.run part part_bytes s e)) (omega arith)
        (accepted_stands q (c + k) w.run part part_bytes s e))))
    one_ran (Err r) e rest =
        let is = cycled_off part w r e in
        subst (λ (v : Writing). Ran q c (k + suc n) v.run) (sym (cycles_over block (k + 1) n later (ap (λ (m : Run). m.over) is)))
        (subst (Ran q c (k + suc n)) (sym is) (stopped k (omega arith) refl
        (record { place = s.place; sound = s.sound; few = s.few; cycle = s.cycle })))

  pub cycles_ran : (n k : ℕ) (w : Writing) → k + n ≤ 7 → w.run.over ≡ false → Stands q (c + k) w.run
      → Ran q c (k + n) (cycles_from block k n w).run
  unfolding cycles_from
  cycles_ran zero k w l o s = through o (subst (λ (m : ℕ). Stands q (c + m) w.run) (sym (add-zero k)) s)
  cycles_ran (suc n) k w l o s =
      subst (λ (b : Bool). Ran q c (k + suc n) (cond b w (cycles_from block (k + 1) n (cycled (part_at block k) w))).run) (sym o)
      (one_ran n k w l o s (step_of w.run.router (part_at block k)).verdict refl
      (λ d t. cycles_ran n (k + 1) (cycled (part_at block k) w) (omega arith) d t))
