-- Block after block of a part: when a call stops, when it goes on, and that its place only moves on.
-- Assumes nothing.
use Rattle.trace.specs.declared.place.Place.{Place}
use Rattle.std.specs.Prelude.{Result, Ok, Err}
use mathlib.Core.Path.{◌≡◌, refl, ap, ◌∙◌}
use mathlib.Core.Bool.{Bool, true, false, cond}
use mathlib.Core.List.{List, [], ◌∷◌}
use Prim.Native.Nat.{ℕ, zero, suc, ◌+◌, ◌-◌, ◌≤◌, ◌<◌}
use native.Mathlib.Nat.{le_refl, le_trans}
use native.Mathlib.Omega.{arith}
use lib.ListN.{length, take, drop, length-take, length-drop}
use Rattle.trace.specs.declared.judging.Answer.{Answer}
use Rattle.trace.specs.declared.judging.Found.{Found}
use Rattle.base.specs.declared.refusal.Refusal.{Refusal}
use Rattle.trace.specs.declared.judging.Found.TheVariants as found
use Rattle.trace.specs.Judged.{judged}
use Rattle.trace.specs.Blocks.{part_at}
use Rattle.listing.specs.Lines.{Line}
use Rattle.base.specs.Refusal.{Verdict}
use Rattle.rules.specs.Step.{step_of}
use Rattle.router.specs.Running.{Writing, wrote, ended_by, by_verdict, cycled, cycles_from, by_found, block_taken, block_at}
use Rattle.router.specs.Running.{lacks_block_room, Call, takes, stops, going_on}

module _ (part : List ℕ) (n : ℕ) (c : Call) where
  pub goes_none : n ≡ 0 → going_on part n c ≡ c
  unfolding going_on
  goes_none e = rw e

  pub goes_over : c.writing.run.over ≡ true → going_on part n c ≡ c
  unfolding going_on
  goes_over e = go n
    where
      go : (m : ℕ) → going_on part m c ≡ c
      go zero = refl
      go (suc m) = rw e

pub goes_full : (part : List ℕ) (n : ℕ) (c : Call) → 0 < n → c.writing.run.over ≡ false
    → lacks_block_room c.writing.buffer c.writing.at ≡ true → going_on part n c ≡ stops c
unfolding going_on
goes_full part zero c l e f = elim l [ ]
goes_full part (suc n) c l e f = rw (e, f)

pub goes_more : (part : List ℕ) (n left : ℕ) (c : Call) → left + 1 ≡ n → c.writing.run.over ≡ false
    → lacks_block_room c.writing.buffer c.writing.at ≡ false
    → going_on part left (takes part c) ≡ going_on part n c
unfolding going_on
goes_more part zero left c l e f = absurd (omega (arith, l))
goes_more part (suc n) left c l e f = let g : left ≡ n = omega (arith, l) in rw (g, e, f)

-- as many bytes as a piece has are that piece
same_take : (n : ℕ) (l : List ℕ) → take (length (take n l)) l ≡ take n l
same_take zero l = refl
same_take (suc n) [] = refl
same_take (suc n) (x ∷ l) = ap (λ (m : List ℕ). x ∷ m) (same_take n l)

pub piece_is : (part : List ℕ) (from end : ℕ) → end ≡ from + length (block_at part from) → take (end - from) (drop from part)
    ≡ block_at part from
piece_is part from end e =
    let f : end - from ≡ length (block_at part from) = omega (arith, e) in
    ap (λ (n : ℕ). take n (drop from part)) f ∙ same_take 512 (drop from part)

-- the place only moves on
wrote_on : (lines : List Line) (w : Writing) → w.at ≤ (wrote lines w).at
unfolding wrote
wrote_on lines w = omega arith

ended_on : (line : Line) (w : Writing) → w.at ≤ (ended_by line w).at
unfolding ended_by
ended_on line w = wrote_on (line ∷ []) _

cycled_on : (part : List ℕ) (w : Writing) → w.at ≤ (cycled part w).at
unfolding cycled
cycled_on part w = go (step_of w.run.router part).verdict
  where
    go : (v : Verdict) → w.at ≤ (by_verdict v (step_of w.run.router part) w).at
    go (Ok _) = wrote_on _ _
    go (Err r) = ended_on _ w

cycles_on : (block : List ℕ) (n k : ℕ) (w : Writing) → w.at ≤ (cycles_from block k n w).at
unfolding cycles_from
cycles_on block zero k w = le_refl _
cycles_on block (suc n) k w =
    either w.run.over (le_trans (cycled_on (part_at block k) w) (cycles_on block n (k + 1) (cycled (part_at block k) w)))
  where
    either : (o : Bool) → w.at ≤ (cycles_from block (k + 1) n (cycled (part_at block k) w)).at
        → w.at ≤ (cond o w (cycles_from block (k + 1) n (cycled (part_at block k) w))).at
    either true h = le_refl _
    either false h = h

pub block_on : (block : List ℕ) (w : Writing) → w.at ≤ (block_taken block w).at
unfolding block_taken
block_on block w = go (judged w.run.place w.run.router.cycle block)
  where
    go : (o : Answer) → w.at ≤ (by_found o.found o.place block w).at
    go o = which o.found o.place
      where
        which : (r : Result Found Refusal) (q : Place) → w.at ≤ (by_found r q block w).at
        which (Err r) q = ended_on _ w
        which (Ok (found.Configuration c)) q = le_refl _
        which (Ok (found.Cycles n)) q = cycles_on block n 0 _
        which (Ok found.End) q = le_refl _
        which (Ok found.Done) q = ended_on _ _

pub goes_on : (part : List ℕ) (n : ℕ) (c : Call) → c.writing.at ≤ (going_on part n c).writing.at
unfolding going_on
goes_on part zero c = le_refl _
goes_on part (suc n) c =
    either c.writing.run.over (lacks_block_room c.writing.buffer c.writing.at)
    (le_trans (block_on (block_at part c.used) c.writing) (goes_on part n (takes part c)))
  where
    either : (o f : Bool) → c.writing.at ≤ (going_on part n (takes part c)).writing.at
        → c.writing.at ≤ (cond o c (cond f (stops c) (going_on part n (takes part c)))).writing.at
    either true f h = le_refl _
    either false true h = le_refl _
    either false false h = h

-- what is used only grows
pub used_on : (part : List ℕ) (n : ℕ) (c : Call) → c.used ≤ (going_on part n c).used
unfolding going_on
used_on part zero c = le_refl c.used
used_on part (suc n) c =
    either c.writing.run.over (lacks_block_room c.writing.buffer c.writing.at) (used_on part n (takes part c))
  where
    either : (o f : Bool) → (takes part c).used ≤ (going_on part n (takes part c)).used
        → c.used ≤ (cond o c (cond f (stops c) (going_on part n (takes part c)))).used
    either true f h = le_refl c.used
    either false true h = le_refl c.used
    either false false h = omega (arith, h)

-- no more is used than there is
pub used_inside : (part : List ℕ) (n : ℕ) (c : Call) → c.used ≤ length part → (going_on part n c).used ≤ length part
unfolding going_on
used_inside part zero c h = h
used_inside part (suc n) c h = either c.writing.run.over (lacks_block_room c.writing.buffer c.writing.at)
    (used_inside part n (takes part c) more)
  where
    more : c.used + length (block_at part c.used) ≤ length part
    more = omega (arith, h, length-take 512 (drop c.used part), length-drop c.used part)

    either : (o f : Bool) → (going_on part n (takes part c)).used ≤ length part
        → (cond o c (cond f (stops c) (going_on part n (takes part c)))).used ≤ length part
    either true f g = h
    either false true g = h
    either false false g = g
