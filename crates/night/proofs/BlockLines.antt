-- A block of a run prints what the list has for it, and leaves a run that can take another.
-- Assumes nothing.
use Rattle.base.specs.Refusal.{number_of, place_of}
use Rattle.std.specs.Prelude.{is_err}
use mathlib.Core.Path.{◌≡◌, refl, sym, ap, subst, ◌∙◌}
use mathlib.Core.Bool.{Bool, true, false, cond, true≢false}
use mathlib.Core.List.{List, [], ◌∷◌}
use Prim.Native.Nat.{ℕ, ◌+◌, ◌*◌, ◌≤◌}
use native.Mathlib.Nat.{add-zero}
use native.Mathlib.Omega.{arith}
use lib.ListN.{length}
use Rattle.state.specs.declared.Router.{Router}
use Rattle.state.specs.Fresh.{fresh_router}
use Rattle.state.specs.Sound.{Sound}
use Rattle.trace.specs.declared.place.Place.{Place}
use Rattle.trace.specs.Bytes.{AreBytes}
use Rattle.trace.specs.Blocks.{held_of, config_of}
use Rattle.trace.specs.declared.judging.Answer.{Answer}
use Rattle.trace.specs.Judged.{next_place, judged}
use Rattle.trace.proofs.Findings.{FoundAs, refuses, configures, holds, ends, is_over, found_as}
use Rattle.listing.specs.Lines.{finish, refusal, flit_lines}
use Rattle.runs.specs.declared.Run.{Run}
use Rattle.router.specs.Running.{Writing, wrote, with_place, on_run, ended_by, cycles_from, by_found, block_taken, room_of_block}
use Rattle.state.proofs.Legal.{sound_cycle}
use Rattle.router.proofs.Going.{block_goes_on}
use Rattle.router.proofs.RunLaws.{begun_ongoing}
use Rattle.router.proofs.Writes.{refusal_fits, finish_fits}
use Rattle.night.specs.File.{Printed, cycles_then, block_then}
use Rattle.night.proofs.Added.{Prints, prints_none, prints_as, prints_from}
use Rattle.night.proofs.Anywhere.{anywhere, nowhere, block_run, Goes, goes_anywhere}
use Rattle.night.proofs.InRange.{Named, refusal_prints, finish_prints, outcome_named}
use Rattle.night.proofs.Left.{left_of, left_from, left_in}
use Rattle.night.proofs.CycleLines.{ended_prints, cycles_print, cycles_place}

-- a run that can take a block, before its configuration block or after it
pub record Ready (n : Run) : Type 0 where
  pub early : n.router.cycle ≤ 1000000000
  pub few : n.flits ≤ 8 * n.router.cycle
  pub sound : n.place.configured ≡ true → Sound n.router
  pub unbegun : n.place.configured ≡ false → n.flits ≡ 0

-- one that goes on is ready
pub goes_ready : (n : Run) → Goes n → n.place.configured ≡ true → Ready n
goes_ready n g e = record {
  early = sound_cycle g.sound;
  few = g.few;
  sound = λ f. g.sound;
  unbegun = λ f. absurd (true≢false (sym e ∙ f));
}

ready_goes : (n : Run) → Ready n → n.place.configured ≡ true → Goes n
ready_goes n r e = record { sound = r.sound e; few = r.few; room = nowhere }

module _ (block : List ℕ) (bytes : AreBytes block) (w : Writing) (ready : Ready w.run) where
  -- after a block a run is over or ready for the next
  ready_anywhere : (block_taken block (anywhere w.run)).run.over ≡ false → Ready (block_taken block (anywhere w.run)).run
  ready_anywhere o = go w.run.place.configured refl
    where
      after : Writing
      after = block_taken block (anywhere w.run)

      go : (b : Bool) → w.run.place.configured ≡ b → Ready (block_taken block (anywhere w.run)).run
      go true e =
          let k = block_goes_on block bytes (anywhere w.run) e (ready_goes w.run ready e) in
          goes_ready after.run (goes_anywhere after k.0) k.1
      go false e =
          let k = begun_ongoing block (anywhere w.run) e (ready.unbegun e) nowhere o in
          goes_ready after.run (goes_anywhere after k.0) k.1

  pub block_ready : (block_taken block w).run.over ≡ false → Ready (block_taken block w).run
  block_ready = subst (λ (n : Run). n.over ≡ false → Ready n) (sym (block_run block w)) ready_anywhere

  module _ (going : w.run.over ≡ false) (there : w.at + room_of_block ≤ length w.buffer) (rest : Place → Router → Printed) where
    abbrev p : Place
    p = w.run.place

    abbrev s : Router
    s = w.run.router

    abbrev moved : Place → Writing
    moved q = on_run (with_place q) w

    abbrev Block : Answer → Type 0
    Block o =
        Prints w (by_found o.found o.place block w) (left_of w.run.flits (block_then o.found o.place block s rest))
        (left_in (by_found o.found o.place block w).run rest)

    -- what is left of a run that is not over
    going_left : (x : Printed) → left_of w.run.flits x ≡ cond w.run.over [] (left_of w.run.flits x)
    going_left x = ap (λ (b : Bool). cond b [] (left_of w.run.flits x)) (sym going)

    of_cycles : p.configured ≡ true → (n : ℕ) → n ≤ 7 → (q : Place)
        → Prints w (cycles_from block 0 n (moved q)) (left_of w.run.flits (cycles_then (rest q) block 0 n s))
        (left_in (cycles_from block 0 n (moved q)).run rest)
    of_cycles e n h q =
        let g = ready_goes w.run ready e in
        let v = cycles_from block 0 n (moved q) in
        prints_as
        (prints_from w (with_place q) (cycles_print block bytes (rest q) n 0 (moved q)
        (record { sound = g.sound; few = g.few; room = nowhere }) (omega (arith, there, h))))
        (going_left (cycles_then (rest q) block 0 n s)) (ap (λ (x : Place). left_from v.run (rest x))
        (sym (cycles_place block n 0 (moved q))))

    of_found : (o : Answer) → FoundAs p s.cycle block o → (is_err o.found ≡ true → Named (number_of o.found) (place_of o.found)) → Block o
    unfolding ended_by wrote flit_lines
    of_found _ (refuses n k) named =
        (ended_prints (refusal n s.cycle k) w (rest p) (refusal_prints n s.cycle k (named refl) ready.early)
        (refusal_fits n s.cycle k) (omega (arith, there))).prints
    of_found _ (configures a b _) named = prints_none w _ _ _ refl refl (omega (arith, there))
        (going_left (rest (next_place p block) (fresh_router (config_of block))))
    of_found _ (holds a l h _) named = of_cycles a (held_of block) h (next_place p block)
    of_found _ (ends a _) named = prints_none w _ _ _ refl refl (omega (arith, there)) (going_left (rest (next_place p block) s))
    of_found _ (is_over a) named =
        let f = w.run.flits in
        let c = ready.early in
        let few : f ≤ 8000000000 = omega (arith, c, ready.few) in
        prints_as
        (prints_from w (with_place p) (ended_prints (finish s.cycle f) (moved p) (rest p) (finish_prints s.cycle f c few)
        (finish_fits s.cycle f) (omega (arith, there))).prints)
        (ap (λ (n : ℕ). finish s.cycle n ∷ []) (add-zero f)) refl

    pub block_prints : Prints w (block_taken block w)
        (left_of w.run.flits (block_then (judged p s.cycle block).found (judged p s.cycle block).place block s rest))
        (left_in (block_taken block w).run rest)
    unfolding block_taken
    block_prints = of_found (judged p s.cycle block) (found_as p s.cycle block) (outcome_named p s.cycle block)
