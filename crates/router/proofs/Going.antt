-- A cycle and a block leave a run that can go on: its router sound, its flits within what the cycles can have let out, its place in the
-- buffer.
-- Assumes nothing.
use Rattle.std.specs.Prelude.{Ok, Err}
use mathlib.Core.Path.{◌≡◌, refl, sym, ap, subst, ◌∙◌}
use mathlib.Core.Bool.{Bool, true, false, cond, true≢false}
use mathlib.Core.List.{List, [], ◌∷◌}
use Prim.Native.Nat.{ℕ, zero, suc, ◌+◌, ◌*◌, ◌≤◌, ◌<◌}
use native.Mathlib.Nat.{min-le_left}
use native.Mathlib.Omega.{arith}
use lib.Dec.{ltb}
use lib.ListN.{length, take, drop, get_or, length-take, get_or-eq_default}
use lib.Seq.{get_or-take, get_or-drop}
use borrow.Author.Tests.{ltb-true, ltb-false}
use Rattle.state.specs.declared.Router.{Router}
use Rattle.trace.specs.Bytes.{AreBytes}
use Rattle.trace.specs.declared.place.Place.{Place}
use Rattle.trace.specs.Blocks.{held_of, cycle_length, cycle_start, part_at}
use Rattle.trace.specs.declared.judging.Answer.{Answer}
use Rattle.trace.specs.Judged.{next_place, judged}
use Rattle.trace.proofs.Findings.{FoundAs, refuses, configures, holds, ends, is_over, found_as}
use Rattle.listing.specs.Lines.{Line, finish, refusal, cycle_lines, flit_lines}
use Rattle.listing.proofs.Lengths.{cycle_length-law}
use Rattle.listing.proofs.Counting.{flits_most, cycle_flit_lines}
use Rattle.base.specs.Refusal.{Verdict}
use Rattle.rules.specs.declared.Stepped.{Stepped}
use Rattle.rules.specs.Step.{step_of}
use Rattle.rules.proofs.StepSound.{accepted_after}
use Rattle.rules.proofs.ChosenStep.{cycle_steps}
use Rattle.router.specs.Running.{Writing, wrote, with_place, with_router, with_flits, on_run, finished, ended_by, by_verdict, cycled}
use Rattle.router.specs.Running.{cycles_from, by_found, block_taken}
use Rattle.router.specs.Inside.{GoesOn}
use Rattle.router.proofs.Writes.{Fitting, wrote_within, refusal_fits, finish_fits}

-- the last line does no harm
pub ended_goes_on : (line : Line) (w : Writing) → Fitting (line ∷ []) → GoesOn w → GoesOn (ended_by line w)
unfolding ended_by wrote
ended_goes_on line w fit g = record { sound = g.sound; few = g.few; room = wrote_within (on_run finished w) (line ∷ []) fit g.room }

module _ (part : List ℕ) (bytes : AreBytes part) (w : Writing) (g : GoesOn w) where
  abbrev s : Router
  s = w.run.router

  abbrev x : Stepped
  x = step_of s part

  pub cycled_goes_on : GoesOn (cycled part w)
  unfolding cycled wrote
  cycled_goes_on = go x.verdict refl
    where
      few : x.verdict ≡ Ok tt → w.run.flits + flit_lines (cycle_lines s.cycle x.reply) ≤ 8 * x.router.cycle
      few e =
          let l = g.few in
          let n = cycle_steps s part bytes e in
          let m = cycle_flit_lines s.cycle x.reply in
          let k = flits_most s.cycle x.reply 8 in
          omega (arith, l, n, m, k)

      go : (v : Verdict) → x.verdict ≡ v → GoesOn (by_verdict v x w)
      go (Ok _) e =
          record {
            sound = accepted_after s part bytes e;
            few = few e;
            room = wrote_within (on_run (λ n. with_router x.router
                (with_flits (flit_lines (cycle_lines n.router.cycle x.reply)) n)) w) (cycle_lines s.cycle x.reply)
                (cycle_length-law s.cycle x.reply) g.room;
          }
      go (Err r) e = ended_goes_on (refusal r.number s.cycle r.place) w (refusal_fits r.number s.cycle r.place) g

-- a cycle leaves the place in the file
pub cycled_place : (part : List ℕ) (w : Writing) → (cycled part w).run.place ≡ w.run.place
unfolding cycled ended_by wrote
cycled_place part w = go (step_of w.run.router part).verdict
  where
    go : (v : Verdict) → (by_verdict v (step_of w.run.router part) w).run.place ≡ w.run.place
    go (Ok _) = refl
    go (Err r) = refl

-- a piece of bytes is bytes
pub piece_bytes : (n i : ℕ) (l : List ℕ) → AreBytes l → AreBytes (take n (drop i l))
piece_bytes n i l b k = go (ltb k n) refl
  where
    short : n ≤ k → length (take n (drop i l)) ≤ k
    short h = let e = length-take n (drop i l) in let m = min-le_left n (length (drop i l)) in omega (arith, e, m, h)

    go : (x : Bool) → ltb k n ≡ x → get_or (take n (drop i l)) k 0 < 256
    go true e = subst (λ (m : ℕ). m < 256) (sym (get_or-take n (drop i l) k 0 (ltb-true k n e) ∙ get_or-drop i l k 0)) (b (i + k))
    go false e = subst (λ (m : ℕ). m < 256) (sym (get_or-eq_default (take n (drop i l)) 0 (short (ltb-false k n e)))) (omega arith)

pub cycles_go_on : (block : List ℕ) → AreBytes block → (n k : ℕ) (w : Writing) → GoesOn w → GoesOn (cycles_from block k n w)
unfolding cycles_from
cycles_go_on block b zero k w g = g
cycles_go_on block b (suc n) k w g =
    either w.run.over (cycles_go_on block b n (k + 1) (cycled (part_at block k) w)
    (cycled_goes_on (part_at block k) (piece_bytes cycle_length (cycle_start k) block b) w g))
  where
    either : (o : Bool) → GoesOn (cycles_from block (k + 1) n (cycled (part_at block k) w))
        → GoesOn (cond o w (cycles_from block (k + 1) n (cycled (part_at block k) w)))
    either true h = g
    either false h = h

-- a block after the configuration block: what it was found to be
module _ (block : List ℕ) (bytes : AreBytes block) (w : Writing) (configured : w.run.place.configured ≡ true) (g : GoesOn w) where
  abbrev p : Place
  p = w.run.place

  abbrev moved : Place → Writing
  moved q = on_run (with_place q) w

  moved_goes_on : (q : Place) → GoesOn (moved q)
  moved_goes_on q = record { sound = g.sound; few = g.few; room = g.room }

  abbrev Kept : Writing → Type 0
  Kept v = GoesOn v × (v.run.place.configured ≡ true)

  cycles_configured : (n k : ℕ) (v : Writing) → v.run.place.configured ≡ true → (cycles_from block k n v).run.place.configured ≡ true
  unfolding cycles_from
  cycles_configured zero k v e = e
  cycles_configured (suc n) k v e = either v.run.over (cycles_configured n (k + 1) (cycled (part_at block k) v) (cycled_configured e))
    where
      cycled_configured : v.run.place.configured ≡ true → (cycled (part_at block k) v).run.place.configured ≡ true
      cycled_configured f = ap (λ (q : Place). q.configured) (cycled_place (part_at block k) v) ∙ f

      either : (o : Bool) → (cycles_from block (k + 1) n (cycled (part_at block k) v)).run.place.configured ≡ true
          → (cond o v (cycles_from block (k + 1) n (cycled (part_at block k) v))).run.place.configured ≡ true
      either true h = e
      either false h = h

  of_found : (o : Answer) → FoundAs p w.run.router.cycle block o → Kept (by_found o.found o.place block w)
  unfolding ended_by wrote
  of_found _ (refuses n k) = (
    ended_goes_on (refusal n w.run.router.cycle k) w
        (refusal_fits n w.run.router.cycle k) g,
    configured,
  )
  of_found _ (configures a b _) = absurd (true≢false (sym configured ∙ a))
  of_found _ (holds a l h _) = (
    cycles_go_on block bytes (held_of block) 0 (moved (next_place p block))
        (moved_goes_on (next_place p block)),
    cycles_configured (held_of block) 0 (moved (next_place p block)) refl,
  )
  of_found _ (ends a _) = (moved_goes_on (next_place p block), refl)
  of_found _ (is_over a) = (
    ended_goes_on (finish w.run.router.cycle w.run.flits) (moved p)
        (finish_fits w.run.router.cycle w.run.flits) (moved_goes_on p),
    configured,
  )

  pub block_goes_on : Kept (block_taken block w)
  unfolding block_taken
  block_goes_on = of_found (judged p w.run.router.cycle block) (found_as p w.run.router.cycle block)
