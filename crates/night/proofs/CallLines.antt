-- One call of a run prints what the list has for the blocks that it used.
-- Assumes nothing.
use mathlib.Core.Path.{◌≡◌, refl, sym, ap, ap₂, subst, ◌∙◌}
use mathlib.Core.Logic.{inl, inr}
use mathlib.Core.Bool.{Bool, true, false, cond, not, true≢false}
use mathlib.Core.List.{List, [], ◌∷◌, ◌++◌, append-nil}
use Prim.Native.Nat.{ℕ, ◌+◌, ◌-◌, ◌*◌, ◌≤◌, ◌<◌}
use native.Mathlib.Omega.{arith}
use lib.ListN.{length, take, drop, length-drop}
use lib.Seq.{length-take-le, take-nil, take-length, take-append-le, drop-append-le, drop-append_seam}
use Rattle.base.specs.Numbers as numbers
use Rattle.base.proofs.Lists.{take_inside}
use Rattle.trace.specs.Bytes.{AreBytes}
use Rattle.trace.specs.Place.{good_place}
use Rattle.listing.specs.Lines.{Line, text, printable}
use Rattle.listing.specs.Writing.{lacks_room}
use Rattle.listing.proofs.Outcomes.{room_there}
use Rattle.listing.proofs.Ports.{text_append}
use Rattle.runs.specs.declared.Run.{Run}
use Rattle.runs.specs.Run.{run_sound}
use Rattle.runs.proofs.Places.{going_good}
use Rattle.router.specs.Running.{Writing, blocks_in, block_at, lacks_block_room, Call, begins, takes, going_on}
use Rattle.router.specs.Running.{CallOutcome, answered, ran_of}
use Rattle.router.proofs.Going.{piece_bytes}
use Rattle.router.proofs.Onward.{goes_full, used_inside}
use Rattle.router.proofs.RunLaws.{run_goes, configured_ongoing, unconfigured_none}
use Rattle.night.specs.File.{Printed, file_from, cut_into, blocks_of}
use Rattle.night.specs.Calls.{MayHand, whole, all, used_in, wrote_in}
use Rattle.night.proofs.Added.{Adds, adds_length, adds_there, adds_around, Prints, prints_none, prints_as, prints_fine}
use Rattle.night.proofs.Left.{left_of, left_in}
use Rattle.night.proofs.Cuts.{append_bytes}
use Rattle.night.proofs.Anywhere.{nowhere}
use Rattle.night.proofs.BlockLines.{Ready, goes_ready, block_prints}
use Rattle.night.proofs.PartLines.{block_room, file_end, goes_print}
use Rattle.night.proofs.Kept.{led_is}
use Rattle.night.proofs.Used.{Cut, goes_cut, short_over}

module _ (n : Run) (sound : run_sound n ≡ true) (going : n.over ≡ false) where
  -- a run that is not over stands at a place that some file leads to
  pub good_place-law : good_place n.place n.router.cycle ≡ true
  good_place-law = going_good n sound going

  -- and can take a block
  run_ready : Ready n
  run_ready = go n.place.configured refl
    where
      go : (b : Bool) → n.place.configured ≡ b → Ready n
      go true e = let g = configured_ongoing n [] [] 0 sound e nowhere going in goes_ready n g.0 g.1
      go false e =
          let z = unconfigured_none n [] [] 0 sound e going in
          record {
            early = omega (arith, z.0);
            few = omega (arith, z.1);
            sound = λ f. absurd (true≢false (sym f ∙ e));
            unbegun = λ f. z.1;
          }

-- A call that is done, and that leaves the buffer before its place and behind what it wrote.
pub record Keeps (buffer : List ℕ) (at : ℕ) (o : CallOutcome) : Type 0 where
  pub number : o.ran.number ≡ numbers.done
  pub before : take at o.buffer ≡ take at buffer
  pub behind : drop (at + o.ran.written) o.buffer ≡ drop (at + o.ran.written) buffer
  pub long : length o.buffer ≡ length buffer

-- one call
module _ (n : Run) (buffer : List ℕ) (at : ℕ) (sound : run_sound n ≡ true) (going : n.over ≡ false)
    (room : lacks_room buffer at ≡ false) where
  abbrev pub handed : Writing
  handed = record { run = n; at = at; buffer = buffer }

  abbrev pub begin : Call
  begin = begins handed

  abbrev pub ends : List ℕ → Call
  ends part = going_on part (blocks_in part) begin

  inside : at ≤ length buffer
  unfolding lacks_room
  inside = let there = room_there numbers.room buffer at (ap not room) in omega (arith, there)

  ready : Ready n
  ready = run_ready n sound going

  -- what a call with this part prints where these bytes are left, and are left without those that it used
  abbrev pub Prints-on : List ℕ → Call → Type 0
  Prints-on left d = Prints handed d.writing (left_in n (file_from (blocks_of left)))
      (left_in d.writing.run (file_from (blocks_of (drop d.used left))))

  -- no room for a block's lines: nothing
  full_prints : lacks_block_room buffer at ≡ true → (left part : List ℕ) → Prints-on left (ends part)
  full_prints e left part =
      subst (Prints-on left) (sym (goes_full part (blocks_in part) begin (omega arith) going e))
      (prints_none handed handed _ _ refl refl inside refl)

  -- the end of the input is one empty block
  end_prints : lacks_block_room buffer at ≡ false → Prints-on [] (ends [])
  unfolding going_on cut_into
  end_prints e =
      let one : blocks_in [] ≡ 1 = omega arith in
      let taken : going_on [] 1 begin ≡ takes [] begin = rw (going, e) in
      subst (λ (k : ℕ). Prints-on [] (going_on [] k begin)) (sym one)
      (subst (Prints-on []) (sym taken)
      (prints_as (block_prints [] (λ i. omega arith) handed ready going (block_room buffer at e) (file_from []))
      (ap₂ (λ (b : Bool) (p : Printed). cond b [] (left_of n.flits p)) going
      (file_end n.place n.router (good_place-law n sound going))) refl))

  -- some bytes, whose blocks are the first of those that are left
  some_prints : (left part : List ℕ) → AreBytes left → AreBytes part → 1 ≤ length part
      → ((j : ℕ) → 512 * j < (ends part).used → block_at part (512 * j) ≡ take 512 (drop (512 * j) left)) → Prints-on left (ends part)
  some_prints left part bytes are some agree =
      goes_print left bytes part are (blocks_in part) 0 begin (λ h. refl) (omega arith) (λ e. ready) inside (λ j h l. agree j l)

  -- a file
  file_prints : (left part : List ℕ) → AreBytes left → MayHand left part → Prints-on left (ends part)
  file_prints left part bytes hand = go (lacks_block_room buffer at) refl left bytes part hand
    where
      go : (f : Bool) → lacks_block_room buffer at ≡ f → (left : List ℕ) → AreBytes left → (part : List ℕ) → MayHand left part
          → Prints-on left (ends part)
      go true e left bytes part hand = full_prints e left part
      go false e left bytes _ (whole k a b) =
          let part = take (k * 512) left in
          let long : length part ≡ k * 512 = length-take-le (k * 512) left b in
          some_prints left part bytes (piece_bytes (k * 512) 0 left bytes) (omega (arith, long, a))
          (λ j l. take_inside 512 (512 * j) (k * 512) left
          (omega (arith, l, long, used_inside part (blocks_in part) begin (omega arith))))
      go false e [] bytes _ all = end_prints e
      go false e (b ∷ l) bytes _ all = some_prints (b ∷ l) (b ∷ l) bytes bytes (omega arith) (λ j l. refl)

  -- any part, which stands for the bytes that were used of it
  module _ (part rest : List ℕ) (are : AreBytes part) (more : AreBytes rest) (last : (ends part).writing.run.over ≡ true → rest ≡ [])
    where
      abbrev front : List ℕ
      front = take (ends part).used part

      front_long : length front ≡ (ends part).used
      front_long = length-take-le (ends part).used part (used_inside part (blocks_in part) begin (omega arith))

      -- all of it, where it ends inside a block
      front_all : (ends part).used ≡ length part → (ends part).writing.run.over ≡ true → front ++ rest ≡ part
      front_all e o =
          ap₂ (λ (u : ℕ) (r : List ℕ). take u part ++ r) e (last o) ∙ append-nil (take (length part) part) ∙ take-length part

      agrees : Cut part (ends part) → (j : ℕ) → 512 * j < (ends part).used
          → block_at part (512 * j) ≡ take 512 (drop (512 * j) (front ++ rest))
      agrees (inl (k, e)) j l =
          sym (ap (take 512) (drop-append-le (512 * j) front rest (omega (arith, l, front_long)))
          ∙ take-append-le 512 (drop (512 * j) front) rest (let d = length-drop (512 * j) front in omega (arith, l, e, d, front_long))
          ∙ take_inside 512 (512 * j) (ends part).used part (omega (arith, l, e)))
      agrees (inr (e, o)) j l = ap (λ (x : List ℕ). take 512 (drop (512 * j) x)) (sym (front_all e o))

      used_rest : drop (ends part).used (front ++ rest) ≡ rest
      used_rest = ap (λ (u : ℕ). drop u (front ++ rest)) (sym front_long) ∙ drop-append_seam front rest

      some_used : 1 ≤ length part → Prints-on (front ++ rest) (ends part)
      some_used some =
          some_prints (front ++ rest) part (append_bytes front rest (piece_bytes (ends part).used 0 part are) more) are some
          (agrees (goes_cut part are (blocks_in part) begin (led_is n sound) (omega arith) (inl (0, refl))))

  -- at the end of the input the run is over
  pub none_over : lacks_block_room buffer at ≡ false → (ends []).writing.run.over ≡ true
  unfolding going_on
  none_over e =
      let one : blocks_in [] ≡ 1 = omega arith in
      let taken : going_on [] 1 begin ≡ takes [] begin = rw (going, e) in
      ap (λ (k : ℕ). (going_on [] k begin).writing.run.over) one ∙ ap (λ (d : Call). d.writing.run.over) taken
      ∙ short_over [] handed (good_place-law n sound going) (omega arith)

  used_prints : (part rest : List ℕ) → AreBytes part → AreBytes rest → ((ends part).writing.run.over ≡ true → rest ≡ [])
      → Prints-on (take (ends part).used part ++ rest) (ends part)
  used_prints part rest are more last = go (lacks_block_room buffer at) refl part are last
    where
      go : (f : Bool) → lacks_block_room buffer at ≡ f → (part : List ℕ) → AreBytes part → ((ends part).writing.run.over ≡ true → rest ≡ [])
          → Prints-on (take (ends part).used part ++ rest) (ends part)
      go true e part are last = full_prints e (take (ends part).used part ++ rest) part
      go false e [] are last =
          subst (λ (l : List ℕ). Prints-on l (ends []))
          (sym (ap₂ ◌++◌ (take-nil (ends []).used) (last (none_over e)))) (end_prints e)
      go false e (b ∷ l) are last = some_used (b ∷ l) rest are more last (omega arith)

  -- what a call writes, and what is left after it, is what was left before it
  blocks_write : (left part more : List ℕ) → Prints-on left (ends part)
      → more ≡ text (left_in (ends part).writing.run (file_from (blocks_of (drop (ends part).used left))))
      → wrote_in at (answered at (ends part)) ++ more ≡ text (left_in n (file_from (blocks_of left)))
  blocks_write left part more p e = ap₂ ◌++◌ (adds_there p.adds) e ∙ sym (text_append p.lines _) ∙ ap text (sym p.same)

  -- of a file
  pub call_writes : (left part more : List ℕ) → AreBytes left → MayHand left part
      → more ≡ text (left_in (ran_of n part buffer at).ran.run (file_from (blocks_of (drop (ran_of n part buffer at).ran.used left))))
      → wrote_in at (ran_of n part buffer at) ++ more ≡ text (left_in n (file_from (blocks_of left)))
  call_writes left part more bytes may =
      subst (λ (o : CallOutcome). more ≡ text (left_in o.ran.run (file_from (blocks_of (drop o.ran.used left))))
      → wrote_in at o ++ more ≡ text (left_in n (file_from (blocks_of left)))) (run_goes n part buffer at sound room (blocks_in part) refl)
      (blocks_write left part more (file_prints left part bytes may))

  -- of any part
  pub call_uses : (part rest more : List ℕ) → AreBytes part → AreBytes rest
      → ((ran_of n part buffer at).ran.run.over ≡ true → rest ≡ [])
      → more ≡ text (left_in (ran_of n part buffer at).ran.run (file_from (blocks_of rest)))
      → wrote_in at (ran_of n part buffer at) ++ more
      ≡ text (left_in n (file_from (blocks_of (used_in part (ran_of n part buffer at) ++ rest))))
  call_uses part rest more are bytes =
      subst (λ (o : CallOutcome). (o.ran.run.over ≡ true → rest ≡ []) → more ≡ text (left_in o.ran.run (file_from (blocks_of rest)))
      → wrote_in at o ++ more ≡ text (left_in n (file_from (blocks_of (used_in part o ++ rest)))))
      (run_goes n part buffer at sound room (blocks_in part) refl)
      (λ last e. blocks_write (take (ends part).used part ++ rest) part more (used_prints part rest are bytes last)
      (e ∙ ap (λ (l : List ℕ). text (left_in (ends part).writing.run (file_from (blocks_of l))))
      (sym (used_rest part rest are bytes last))))

  -- and in range, where what is left after it is
  pub call_fine : (left part : List ℕ) → AreBytes left → MayHand left part
      → printable (left_in (ran_of n part buffer at).ran.run (file_from (blocks_of (drop (ran_of n part buffer at).ran.used left)))) ≡ true
      → printable (left_in n (file_from (blocks_of left))) ≡ true
  call_fine left part bytes may =
      subst (λ (o : CallOutcome). printable (left_in o.ran.run (file_from (blocks_of (drop o.ran.used left)))) ≡ true
      → printable (left_in n (file_from (blocks_of left))) ≡ true) (run_goes n part buffer at sound room (blocks_in part) refl)
      (prints_fine (file_prints left part bytes may))

  keeps : (d : Call) (lines : List Line) → Adds handed d.writing lines → Keeps buffer at (answered at d)
  keeps d lines a =
      let around = adds_around a in
      let e : at + (d.writing.at - at) ≡ d.writing.at = omega (arith, a.ahead) in
      record {
        number = refl;
        before = around.0;
        behind = subst (λ (m : ℕ). drop m d.writing.buffer ≡ drop m buffer) (sym e) around.1;
        long = adds_length a;
      }

  -- no call of a night is refused, and nothing but what it wrote changes
  pub call_keeps : (part : List ℕ) → AreBytes part → Keeps buffer at (ran_of n part buffer at)
  call_keeps part bytes =
      let p = file_prints part part bytes all in
      subst (Keeps buffer at) (run_goes n part buffer at sound room (blocks_in part) refl) (keeps (ends part) p.lines p.adds)
