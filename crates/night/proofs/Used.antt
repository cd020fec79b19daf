-- What a call uses of its part: some whole blocks, or all of it where the last block is shorter, and that ends the run. Each block that
-- does not end the run is one more in its file.
-- Assumes nothing.
use mathlib.Core.Path.{◌≡◌, refl, sym, ap, subst, ◌∙◌}
use mathlib.Core.Logic.{◌⊎◌, inl, inr}
use mathlib.Core.Bool.{Bool, true, false, cond, true≢false}
use mathlib.Core.List.{List}
use Prim.Native.Nat.{ℕ, zero, suc, ◌+◌, ◌-◌, ◌*◌, ◌≤◌, ◌<◌, min}
use native.Mathlib.Nat.{le_refl}
use native.Mathlib.Omega.{arith}
use lib.Dec.{ltb}
use lib.ListN.{length, drop, length-take, length-drop}
use borrow.Author.Tests.{lt-ltb, ltb-true, ltb-false}
use Rattle.trace.specs.declared.place.Place.{Place}
use Rattle.trace.specs.Bytes.{AreBytes}
use Rattle.trace.specs.Blocks.{held_of}
use Rattle.trace.specs.Place.{good_place}
use Rattle.trace.specs.Rules.{place_unsound, block_short, check_wrong, bytes_follow, block_wrong, field_wrong}
use Rattle.trace.specs.declared.judging.Answer.{Answer}
use Rattle.trace.specs.Judged.{next_place, taken, judged_by_field, judged}
use Rattle.trace.proofs.Findings.{FoundAs, refuses, configures, holds, ends, is_over, found_as}
use Rattle.runs.proofs.Places.{between_is, right_between}
use Rattle.router.specs.Running.{Writing, wrote, on_run, with_place, ended_by, by_found, block_taken, block_at, lacks_block_room, Call}
use Rattle.router.specs.Running.{takes, stops, going_on}
use Rattle.router.proofs.Going.{piece_bytes}
use Rattle.router.proofs.Onward.{goes_over}
use Rattle.night.proofs.CycleLines.{cycles_place}
use Rattle.night.proofs.Kept.{Led, block_led}

-- A block of fewer than 512 bytes ends the run: 9 before the end block; after it 8, or the E line where no byte follows.
module _ (block : List ℕ) (w : Writing) where
  abbrev p : Place
  p = w.run.place

  abbrev c : ℕ
  c = w.run.router.cycle

  pub short_over : good_place p c ≡ true → length block < 512 → (block_taken block w).run.over ≡ true
  unfolding block_taken ended_by wrote judged place_unsound block_short check_wrong bytes_follow block_wrong field_wrong judged_by_field taken
  short_over g l = go p.ended refl (ltb 0 (length block)) refl
    where
      go : (b : Bool) → p.ended ≡ b → (f : Bool) → ltb 0 (length block) ≡ f → (block_taken block w).run.over ≡ true
      go true e true h = rw (g, e, h)
      go true e false h = rw (g, e, h)
      go false e f h = rw (g, e, lt-ltb (length block) 512 l)

  -- a block that does not end the run is one more
  pub block_counts : (block_taken block w).run.over ≡ false → w.run.over ≡ false → (block_taken block w).run.place.number ≡ p.number + 1
  unfolding block_taken ended_by wrote
  block_counts o going = go (judged p c block) (found_as p c block) o
    where
      go : (r : Answer) → FoundAs p c block r → (by_found r.found r.place block w).run.over ≡ false
          → (by_found r.found r.place block w).run.place.number ≡ p.number + 1
      go _ (refuses n k) e = absurd (true≢false e)
      go _ (configures a b _) e = refl
      go _ (holds a l h _) e =
          ap (λ (q : Place). q.number) (cycles_place block (held_of block) 0 (on_run (with_place (next_place p block)) w))
      go _ (ends a _) e = refl
      go _ (is_over a) e = absurd (true≢false e)

-- what a call has used: whole blocks, or all of the part, and then the run is over
abbrev pub Cut : List ℕ → Call → Type 0
Cut part d = ((j : ℕ) × (d.used ≡ 512 * j)) ⊎ ((d.used ≡ length part) × (d.writing.run.over ≡ true))

module _ (part : List ℕ) (bytes : AreBytes part) where
  -- the next block
  takes_cut : (c : Call) → Led c.writing.run → c.writing.run.over ≡ false → c.used ≤ length part → Cut part c
      → Cut part (takes part c)
  takes_cut c led o inside (inr (e, f)) = absurd (true≢false (sym f ∙ o))
  takes_cut c led o inside (inl (j, e)) = go (ltb (length (block_at part c.used)) 512) refl
    where
      long : length (block_at part c.used) ≡ min 512 (length part - c.used)
      long = length-take 512 (drop c.used part) ∙ ap (min 512) (length-drop c.used part)

      go : (b : Bool) → ltb (length (block_at part c.used)) 512 ≡ b → Cut part (takes part c)
      go true f = inr (
        omega (arith, long, ltb-true (length (block_at part c.used)) 512 f, inside),
        short_over (block_at part c.used) c.writing
            (between_is c.writing.run.place c.writing.run.router.cycle
            (right_between c.writing.run.place c.writing.run.router.cycle c.writing.run.over o led.right)).0
            (ltb-true (length (block_at part c.used)) 512 f),
      )
      go false f = inl (suc j, omega (arith, long, e, ltb-false (length (block_at part c.used)) 512 f))

  -- block after block
  pub goes_cut : (n : ℕ) (c : Call) → Led c.writing.run → c.used ≤ length part → Cut part c → Cut part (going_on part n c)
  unfolding going_on
  goes_cut zero c led inside cut = cut
  goes_cut (suc n) c led inside cut = go c.writing.run.over refl (lacks_block_room c.writing.buffer c.writing.at)
      (λ o. goes_cut n (takes part c) (block_led (block_at part c.used) (piece_bytes 512 c.used part bytes) c.writing o led) more
      (takes_cut c led o inside cut))
    where
      more : c.used + length (block_at part c.used) ≤ length part
      more = omega (arith, inside, length-take 512 (drop c.used part), length-drop c.used part)

      go : (b : Bool) → c.writing.run.over ≡ b → (f : Bool)
          → (c.writing.run.over ≡ false → Cut part (going_on part n (takes part c)))
          → Cut part (cond b c (cond f (stops c) (going_on part n (takes part c))))
      go true o f rest = cut
      go false o true rest = cut
      go false o false rest = rest o

  -- a run that is not over in the end was never over
  not_over : (n : ℕ) (c : Call) → (going_on part n c).writing.run.over ≡ false → c.writing.run.over ≡ false
  not_over n c e = go c.writing.run.over refl
    where
      go : (b : Bool) → c.writing.run.over ≡ b → b ≡ false
      go true o = absurd (true≢false (sym o ∙ ap (λ (d : Call). d.writing.run.over) (sym (goes_over part n c o)) ∙ e))
      go false o = refl

  abbrev number : Call → ℕ
  number c = c.writing.run.place.number

  -- and its place in the file is as many blocks on as were taken
  goes_counts : (n : ℕ) (c : Call) → (going_on part n c).writing.run.over ≡ false → number c ≤ number (going_on part n c)
  unfolding going_on
  goes_counts zero c e = le_refl (number c)
  goes_counts (suc n) c e =
      go c.writing.run.over refl (lacks_block_room c.writing.buffer c.writing.at) e
      (λ o f. block_counts (block_at part c.used) c.writing (not_over n (takes part c) f) o)
      (λ f. goes_counts n (takes part c) f)
    where
      go : (b : Bool) → c.writing.run.over ≡ b → (f : Bool)
          → (cond b c (cond f (stops c) (going_on part n (takes part c)))).writing.run.over ≡ false
          → (c.writing.run.over ≡ false → (going_on part n (takes part c)).writing.run.over ≡ false
          → number (takes part c) ≡ number c + 1)
          → ((going_on part n (takes part c)).writing.run.over ≡ false → number (takes part c) ≤ number (going_on part n (takes part c)))
          → number c ≤ number (cond b c (cond f (stops c) (going_on part n (takes part c))))
      go true o f e one rest = le_refl (number c)
      go false o true e one rest = le_refl (number c)
      go false o false e one rest = omega (arith, one o e, rest e)

  -- with room for a block's lines it is one more at least
  pub goes_further : (n : ℕ) (c : Call) → c.writing.run.over ≡ false → lacks_block_room c.writing.buffer c.writing.at ≡ false
      → (going_on part (suc n) c).writing.run.over ≡ false → number c + 1 ≤ number (going_on part (suc n) c)
  unfolding going_on
  goes_further n c o f e =
      let is : going_on part (suc n) c ≡ going_on part n (takes part c) = rw (o, f) in
      let g = ap (λ (d : Call). d.writing.run.over) (sym is) ∙ e in
      let one = block_counts (block_at part c.used) c.writing (not_over n (takes part c) g) o in
      let rest = goes_counts n (takes part c) g in
      subst (λ (d : Call). number c + 1 ≤ number d) (sym is) (omega (arith, one, rest))
