-- A cycle of a run, and the cycles of a block, print what the list has for them.
-- Assumes nothing.
use Rattle.std.specs.Prelude.{Ok, Err}
use mathlib.Core.Path.{◌≡◌, refl, sym, ap, ◌∙◌}
use mathlib.Core.Bool.{Bool, true, false, cond}
use mathlib.Core.List.{List, [], ◌∷◌, ◌++◌}
use Prim.Native.Nat.{ℕ, zero, suc, ◌+◌, ◌*◌, ◌≤◌}
use native.Mathlib.Omega.{arith}
use lib.ListN.{length}
use Rattle.base.specs.Numbers.{room}
use Rattle.state.specs.declared.Router.{Router}
use Rattle.trace.specs.Bytes.{AreBytes}
use Rattle.trace.specs.Blocks.{cycle_length, cycle_start, part_at}
use Rattle.listing.specs.Lines.{Line, refusal, printable, text, cycle_lines, flit_lines}
use Rattle.base.specs.Refusal.{Verdict}
use Rattle.rules.specs.declared.Stepped.{Stepped}
use Rattle.rules.specs.Step.{step_of}
use Rattle.router.specs.Running.{Writing, wrote, with_router, with_flits, finished, ended_by, by_verdict, cycled, cycles_from}
use Rattle.state.proofs.Legal.{sound_cycle}
use Rattle.router.proofs.Going.{cycled_place, piece_bytes}
use Rattle.router.proofs.Writes.{Fitting, refusal_fits}
use Rattle.history.proofs.Printable.{reply_printable, reply_fits}
use Rattle.night.specs.File.{Printed, cycle_then, cycles_then}
use Rattle.night.proofs.Added.{Adds, wrote_adds, Prints, prints_none, prints_both, prints_length}
use Rattle.night.proofs.Anywhere.{Goes, cycled_goes}
use Rattle.night.proofs.InRange.{refusal_prints, refusal_named}
use Rattle.night.proofs.Left.{left_of, left_from, left_after}

-- a step that prints, and goes on at most 376 bytes
pub record Printing (w v : Writing) (before after : List Line) : Type 0 where
  pub prints : Prints w v before after
  pub short : v.at ≤ w.at + room

short_enough : {w v : Writing} {lines : List Line} → Adds w v lines → length (text lines) ≤ room → v.at ≤ w.at + room
short_enough a s = omega (arith, a.ahead, s)

-- the last line of a run: then nothing is left
pub ended_prints : (line : Line) (w : Writing) (rest : Router → Printed) → printable (line ∷ []) ≡ true → Fitting (line ∷ [])
    → w.at + room ≤ length w.buffer → Printing w (ended_by line w) (line ∷ []) (left_from (ended_by line w).run rest)
unfolding ended_by wrote
ended_prints line w rest fine fit there =
    let a = wrote_adds w finished (line ∷ []) fine (fit fine) there in
    record { prints = record { lines = line ∷ []; adds = a; fine = fine; same = refl }; short = short_enough a (fit fine) }

module _ (part : List ℕ) (bytes : AreBytes part) (w : Writing) (g : Goes w.run) (going : w.run.over ≡ false)
    (there : w.at + room ≤ length w.buffer) (rest : Router → Printed) where
  abbrev s : Router
  s = w.run.router

  abbrev x : Stepped
  x = step_of s part

  abbrev lines : List Line
  lines = cycle_lines s.cycle x.reply

  abbrev Step : Verdict → Type 0
  Step v = Printing w (by_verdict v x w) (left_of w.run.flits (cycle_then v x s rest)) (left_from (by_verdict v x w).run rest)

  step : (v : Verdict) → x.verdict ≡ v → Step v
  unfolding wrote ended_by
  step (Ok _) e =
      let fits = reply_fits s part bytes e in
      let a = wrote_adds w (λ n. with_router x.router (with_flits (flit_lines (cycle_lines n.router.cycle x.reply)) n)) lines
      (reply_printable s part bytes e) fits there in
      record {
        prints = record {
          lines = lines;
          adds = a;
          fine = reply_printable s part bytes e;
          same =
              left_after w.run.flits lines (rest x.router)
              ∙ ap (λ (b : Bool). lines ++ cond b [] (left_of (w.run.flits + flit_lines lines) (rest x.router))) (sym going);
        };
        short = short_enough a fits;
      }
  step (Err r) e =
      let line = refusal r.number s.cycle r.place in
      let fine = refusal_prints r.number s.cycle r.place (refusal_named s part g.sound r e) (sound_cycle g.sound) in
      ended_prints line w rest fine (refusal_fits r.number s.cycle r.place) there

  pub cycle_prints : Printing w (cycled part w) (left_of w.run.flits (cycle_then x.verdict x s rest))
      (left_from (cycled part w).run rest)
  unfolding cycled
  cycle_prints = step x.verdict refl

-- the cycles of a block, one after another
pub cycles_print : (block : List ℕ) → AreBytes block → (rest : Router → Printed) (n k : ℕ) (w : Writing) → Goes w.run
    → w.at + room * n ≤ length w.buffer
    → Prints w (cycles_from block k n w) (left_from w.run (cycles_then rest block k n)) (left_from (cycles_from block k n w).run rest)
unfolding cycles_from cycles_then
cycles_print block bytes rest zero k w g there = prints_none w w _ _ refl refl (omega arith) refl
cycles_print block bytes rest (suc n) k w g there = go w.run.over refl (λ v h r. cycles_print block bytes rest n (k + 1) v h r)
  where
    piece : AreBytes (part_at block k)
    piece = piece_bytes cycle_length (cycle_start k) block bytes

    go : (o : Bool) → w.run.over ≡ o
        → ((u : Writing) → Goes u.run → u.at + room * n ≤ length u.buffer
        → Prints u (cycles_from block (k + 1) n u) (left_from u.run (cycles_then rest block (k + 1) n))
        (left_from (cycles_from block (k + 1) n u).run rest))
        → Prints w (cond o w (cycles_from block (k + 1) n (cycled (part_at block k) w)))
        (cond o [] (left_of w.run.flits (cycles_then rest block k (suc n) w.run.router)))
        (left_from (cond o w (cycles_from block (k + 1) n (cycled (part_at block k) w))).run rest)
    go true e more =
        prints_none w w [] (left_from w.run rest) refl refl (omega arith)
        (ap (λ (b : Bool). cond b [] (left_of w.run.flits (rest w.run.router))) (sym e))
    go false e more =
        let c = cycle_prints (part_at block k) piece w g e (omega (arith, there)) (cycles_then rest block (k + 1) n) in
        let l = prints_length c.prints in
        prints_both c.prints (more (cycled (part_at block k) w) (cycled_goes (part_at block k) piece w g)
        (omega (arith, there, l, c.short)))

-- the cycles of a block leave the place in the file
pub cycles_place : (block : List ℕ) (n k : ℕ) (w : Writing) → (cycles_from block k n w).run.place ≡ w.run.place
unfolding cycles_from
cycles_place block zero k w = refl
cycles_place block (suc n) k w = go w.run.over (cycles_place block n (k + 1) (cycled (part_at block k) w)
    ∙ cycled_place (part_at block k) w)
  where
    go : (o : Bool) → (cycles_from block (k + 1) n (cycled (part_at block k) w)).run.place ≡ w.run.place
        → (cond o w (cycles_from block (k + 1) n (cycled (part_at block k) w))).run.place ≡ w.run.place
    go true e = refl
    go false e = e
