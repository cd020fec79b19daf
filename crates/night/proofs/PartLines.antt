-- The blocks of a part handed over print what the list has for them, block after block.
-- Assumes nothing.
use mathlib.Core.Path.{◌≡◌, refl, sym, ap, ap₂, subst, ◌∙◌}
use mathlib.Core.Bool.{Bool, true, false, cond, not}
use mathlib.Core.List.{List, []}
use Prim.Native.Nat.{ℕ, zero, suc, ◌+◌, ◌-◌, ◌*◌, ◌≤◌, ◌<◌, min}
use native.Mathlib.Nat.{le_refl}
use native.Mathlib.Omega.{arith}
use lib.ListN.{length, take, drop, length-take, length-drop}
use lib.Seq.{drop-drop}
use Rattle.base.specs.Numbers as numbers
use Rattle.state.specs.declared.Router.{Router}
use Rattle.trace.specs.declared.place.Place.{Place}
use Rattle.trace.specs.Bytes.{AreBytes}
use Rattle.trace.specs.Place.{good_place}
use Rattle.trace.specs.Rules.{place_unsound, block_short, check_wrong, bytes_follow, block_wrong, field_wrong}
use Rattle.trace.specs.declared.judging.Found.TheVariants as found
use Rattle.trace.specs.Judged.{accepted, refused, taken, judged_by_field, judged}
use Rattle.listing.proofs.Outcomes.{room_there}
use Rattle.router.specs.Running.{Writing, block_taken, block_at, room_of_block, lacks_block_room, Call, takes, stops, going_on}
use Rattle.router.proofs.Onward.{used_on}
use Rattle.router.proofs.Going.{piece_bytes}
use Rattle.night.specs.File.{finishes, refuses, Printed, ends_at, block_then, file_from, blocks_of}
use Rattle.night.proofs.Added.{Prints, adds_within, prints_none, prints_both, prints_as}
use Rattle.night.proofs.Left.{left_of, left_in}
use Rattle.night.proofs.Cuts.{first_block}
use Rattle.night.proofs.BlockLines.{Ready, block_ready, block_prints}

-- where the test finds it, a block's room is there
pub block_room : (b : List ℕ) (at : ℕ) → lacks_block_room b at ≡ false → at + room_of_block ≤ length b
unfolding lacks_block_room
block_room b at e = room_there room_of_block b at (ap not e)

-- the end of the input is judged as an empty block: 9 before the end block, the E line after it
pub end_judged : (p : Place) (c : ℕ) → good_place p c ≡ true → judged p c []
    ≡ cond p.ended (accepted found.Done p) (refused numbers.block_short 0 p)
unfolding judged place_unsound block_short check_wrong bytes_follow block_wrong field_wrong judged_by_field taken
end_judged p c g = go p.ended refl
  where
    go : (b : Bool) → p.ended ≡ b → judged p c [] ≡ cond b (accepted found.Done p) (refused numbers.block_short 0 p)
    go true e = rw (g, e)
    go false e = rw (g, e)

pub file_end : (p : Place) (s : Router) → good_place p s.cycle ≡ true
    → file_from [] p s ≡ block_then (judged p s.cycle []).found (judged p s.cycle []).place [] s (file_from [])
unfolding file_from
file_end p s g = rw (end_judged p s.cycle g) (go p.ended)
  where
    go : (b : Bool) → ends_at s (cond b finishes (refuses 9 0))
        ≡ block_then (cond b (accepted found.Done p) (refused 9 0 p)).found (cond b (accepted found.Done p) (refused 9 0 p)).place [] s (file_from [])
    go true = refl
    go false = refl

module _ (left : List ℕ) (bytes : AreBytes left) where
  -- what is printed from byte u of these on
  abbrev pub from : ℕ → Place → Router → Printed
  from u = file_from (blocks_of (drop u left))

  -- one block
  piece_prints : (w : Writing) → Ready w.run → w.run.over ≡ false → w.at + room_of_block ≤ length w.buffer → (u : ℕ)
      → 1 ≤ length (drop u left)
      → Prints w (block_taken (take 512 (drop u left)) w) (left_in w.run (from u))
      (left_in (block_taken (take 512 (drop u left)) w).run (from (u + length (take 512 (drop u left)))))
  unfolding file_from
  piece_prints w ready going there u h =
      let rest = drop u left in
      let piece = take 512 rest in
      let later = blocks_of (drop (length piece) rest) in
      prints_as (block_prints piece (piece_bytes 512 u left bytes) w ready going there (file_from later))
      (ap₂ (λ (b : Bool) (bs : List (List ℕ)). cond b [] (left_of w.run.flits (file_from bs w.run.place w.run.router)))
      going (first_block rest h))
      (ap (λ (l : List ℕ). left_in (block_taken piece w).run (file_from (blocks_of l))) (drop-drop (length piece) u left))

  pub one_prints : (w : Writing) → Ready w.run → w.run.over ≡ false → w.at + room_of_block ≤ length w.buffer
      → (u : ℕ) → 1 ≤ length (drop u left) → (b : List ℕ) → b ≡ take 512 (drop u left)
      → Prints w (block_taken b w) (left_in w.run (from u)) (left_in (block_taken b w).run (from (u + length b)))
  one_prints w ready going there u h b e =
      subst (λ (b : List ℕ). Prints w (block_taken b w) (left_in w.run (from u))
      (left_in (block_taken b w).run (from (u + length b)))) (sym e)
      (piece_prints w ready going there u h)

  -- the blocks of a part, as long as they are the blocks of these bytes
  module _ (part : List ℕ) (are : AreBytes part) where
    abbrev block : Call → List ℕ
    block c = block_at part c.used

    abbrev On : Call → Call → Type 0
    On c d = Prints c.writing d.writing (left_in c.writing.run (from c.used)) (left_in d.writing.run (from d.used))

    -- each block of the part that starts at block i or later, and before byte u, is the block there of these bytes
    abbrev Agree : ℕ → ℕ → Type 0
    Agree i u = (j : ℕ) → i ≤ j → 512 * j < u → block_at part (512 * j) ≡ take 512 (drop (512 * j) left)

    -- at most n blocks from block i on, none of them empty
    pub goes_print : (n i : ℕ) (c : Call) → (0 < n → c.used ≡ 512 * i) → c.used + n * 512 < length part + 512
        → (c.writing.run.over ≡ false → Ready c.writing.run) → c.writing.at ≤ length c.writing.buffer
        → Agree i (going_on part n c).used → On c (going_on part n c)
    unfolding going_on
    goes_print zero i c at fits ready inside agree = prints_none c.writing c.writing _ _ refl refl inside refl
    goes_print (suc n) i c at fits ready inside agree =
        go c.writing.run.over refl (lacks_block_room c.writing.buffer c.writing.at) refl agree
        (λ a f r j g. goes_print n (suc i) (takes part c) a f r j g)
      where
        here : c.used ≡ 512 * i
        here = at (omega arith)

        long : length (block c) ≡ min 512 (length part - c.used)
        long = length-take 512 (drop c.used part) ∙ ap (min 512) (length-drop c.used part)

        go : (o : Bool) → c.writing.run.over ≡ o → (f : Bool) → lacks_block_room c.writing.buffer c.writing.at ≡ f
            → Agree i (cond o c (cond f (stops c) (going_on part n (takes part c)))).used
            → ((0 < n → (takes part c).used ≡ 512 * suc i) → (takes part c).used + n * 512 < length part + 512
            → ((takes part c).writing.run.over ≡ false → Ready (takes part c).writing.run)
            → (takes part c).writing.at ≤ length (takes part c).writing.buffer
            → Agree (suc i) (going_on part n (takes part c)).used → On (takes part c) (going_on part n (takes part c)))
            → On c (cond o c (cond f (stops c) (going_on part n (takes part c))))
        go true e f g a more = prints_none c.writing c.writing _ _ refl refl inside refl
        go false e true g a more = prints_none c.writing c.writing _ _ refl refl inside refl
        go false e false g a more =
            let r = ready e in
            let on = used_on part n (takes part c) in
            let same : block c ≡ take 512 (drop c.used left) =
            subst (λ (u : ℕ). block_at part u ≡ take 512 (drop u left)) (sym here) (a i (le_refl i) (omega (arith, on, long, fits, here))) in
            let some : 1 ≤ length (drop c.used left) =
            let t = ap length same ∙ length-take 512 (drop c.used left) in omega (arith, t, long, fits, here) in
            let p = one_prints c.writing r e (block_room c.writing.buffer c.writing.at g) c.used some (block c) same in
            prints_both p
            (more (λ h. omega (arith, long, fits, here, h)) (omega (arith, long, fits))
            (block_ready (block c) (piece_bytes 512 c.used part are) c.writing r) (adds_within p.adds)
            (λ j h l. a j (omega (arith, h)) l))
