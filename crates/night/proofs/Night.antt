-- The theorem of the night: whatever parts are handed over, and with whatever buffers that are not refused, once the run is over all that
-- the calls wrote, one after another, is the list of the bytes that they used.
-- Assumes nothing.
use mathlib.Core.Path.{◌≡◌, refl, sym, ap, subst, ◌∙◌}
use mathlib.Core.Bool.{Bool, true, false, true≢false}
use mathlib.Core.List.{List, [], ◌++◌}
use Prim.Native.Nat.{ℕ, zero, suc, ◌+◌, ◌*◌, ◌≤◌}
use native.Mathlib.Omega.{arith}
use lib.ListN.{length, drop, replicate, length-replicate}
use Rattle.base.specs.Sizes.{cycle_limit}
use Rattle.trace.specs.Bytes.{AreBytes}
use Rattle.listing.specs.Lines.{text, printable}
use Rattle.runs.specs.declared.Run.{Run}
use Rattle.runs.specs.Run.{started, run_sound}
use Rattle.router.specs.Running.{room_of_block, lacks_block_room, ran_of}
use Rattle.router.proofs.Going.{piece_bytes}
use Rattle.night.specs.File.{file_from, blocks_of, lines_of, printed_of, list_of}
use Rattle.night.specs.Calls.{used_in, wrote_in, Calls, is_over, call, Ends, over, calls, MayHand, whole, all, Hands, done, hand}
use Rattle.night.proofs.Left.{left_in, left_all}
use Rattle.night.proofs.Cuts.{drop_bytes, append_bytes}
use Rattle.night.proofs.CallLines.{call_writes, call_uses, call_fine, call_keeps}
use Rattle.night.proofs.Moves.{block_line, call_moves}
use Rattle.night.proofs.Answers.{done_room}
use Rattle.night.proofs.Kept.{started_sound, run_kept, place_early}

-- ---- any parts

-- the bytes used are bytes
used_bytes : (n : Run) (used out : List ℕ) → Calls n used out → AreBytes used
used_bytes n _ _ (is_over _ _) = λ i. omega arith
used_bytes n _ _ (call _ part buffer at used wrote _ bytes _ later) =
    append_bytes (used_in part (ran_of n part buffer at)) used (piece_bytes (ran_of n part buffer at).ran.used 0 part bytes)
    (used_bytes (ran_of n part buffer at).ran.run used wrote later)

-- a run that is over uses nothing more
over_none : (n : Run) (used out : List ℕ) → Calls n used out → n.over ≡ true → used ≡ []
over_none n _ _ (is_over _ _) o = refl
over_none n _ _ (call _ part buffer at used wrote going _ _ _) o = absurd (true≢false (sym o ∙ going))

-- what the calls of a run write is the list of what they use
calls_print : (n : Run) (used out : List ℕ) → Calls n used out → run_sound n ≡ true → out ≡ text (left_in n (file_from (blocks_of used)))
unfolding text
calls_print n _ _ (is_over _ e) sound = rw e
calls_print n _ _ (call _ part buffer at used wrote going bytes fine later) sound =
    let next = (ran_of n part buffer at).ran.run in
    call_uses n buffer at sound going (done_room n part buffer at fine).1 part used wrote bytes (used_bytes next used wrote later)
    (over_none next used wrote later) (calls_print next used wrote later (run_kept n part buffer at bytes sound))

pub night : (used out : List ℕ) → Calls started used out → out ≡ list_of used
unfolding started list_of printed_of
night used out made = calls_print started used out made started_sound ∙ ap text (left_all (printed_of used))

-- ---- it comes to its end

-- each call ends the run or leaves it further on in its file, and no file has more than 1,000,000,003 blocks
ends : (k : ℕ) (n : Run) → cycle_limit + 3 ≤ n.place.number + k → run_sound n ≡ true → Ends n
ends zero n h sound = go n.over refl
  where
    go : (o : Bool) → n.over ≡ o → Ends n
    go true e = over n e
    go false e = absurd (omega (arith, h, place_early n sound e))
ends (suc k) n h sound = go n.over refl (λ m l s. ends k m l s)
  where
    after : (m : Run) → (m.over ≡ false → Ends m) → Ends m
    after m more = which m.over refl
      where
        which : (o : Bool) → m.over ≡ o → Ends m
        which true e = over m e
        which false e = more e

    go : (o : Bool) → n.over ≡ o → ((m : Run) → cycle_limit + 3 ≤ m.place.number + k → run_sound m ≡ true → Ends m) → Ends n
    go true e more = over n e
    go false e more =
        calls n e (λ part buffer at bytes room. after (ran_of n part buffer at).ran.run (λ o.
        more (ran_of n part buffer at).ran.run (omega (arith, h, (call_moves n buffer at sound e room part bytes).further o))
        (run_kept n part buffer at bytes sound)))

pub night_ends : Ends started
unfolding started
night_ends = ends (cycle_limit + 3) started (omega arith) started_sound

-- ---- a file

-- a part of a file is bytes
part_bytes : (left part : List ℕ) → MayHand left part → AreBytes left → AreBytes part
part_bytes left _ (whole k a b) bytes = piece_bytes (k * 512) 0 left bytes
part_bytes left _ all bytes = bytes

hands_print : (n : Run) (left out : List ℕ) → Hands n left out → run_sound n ≡ true → AreBytes left
    → out ≡ text (left_in n (file_from (blocks_of left)))
unfolding text
hands_print n left _ (done _ _ e) sound bytes = rw e
hands_print n left _ (hand _ _ part buffer at wrote going may fine later) sound bytes =
    call_writes n buffer at sound going (done_room n part buffer at fine).1 left part wrote bytes may
    (hands_print (ran_of n part buffer at).ran.run (drop (ran_of n part buffer at).ran.used left) wrote later
    (run_kept n part buffer at (part_bytes left part may bytes) sound) (drop_bytes (ran_of n part buffer at).ran.used left bytes))

-- Whatever parts a file's bytes are cut into, what is written is the list of the file.
pub file_listed : (bytes : List ℕ) → AreBytes bytes → (out : List ℕ) → Hands started bytes out → out ≡ list_of bytes
unfolding started list_of printed_of
file_listed bytes are out made = hands_print started bytes out made started_sound are ∙ ap text (left_all (printed_of bytes))

-- a caller can go on to the end
some_room : (b : List ℕ) → length b ≡ room_of_block → lacks_block_room b 0 ≡ false
unfolding lacks_block_room
some_room b e = rw e

hands_made : (n : Run) (left : List ℕ) → Ends n → run_sound n ≡ true → AreBytes left → (out : List ℕ) × Hands n left out
hands_made n left (over _ e) sound bytes = ([], done n left e)
hands_made n left (calls _ e f) sound bytes =
    let buffer : List ℕ = replicate room_of_block 0 in
    let room = some_room buffer (length-replicate {A = ℕ} room_of_block 0) in
    let rest = hands_made (ran_of n left buffer 0).ran.run (drop (ran_of n left buffer 0).ran.used left)
    (f left buffer 0 bytes room) (run_kept n left buffer 0 bytes sound) (drop_bytes (ran_of n left buffer 0).ran.used left bytes) in (
      wrote_in 0 (ran_of n left buffer 0) ++ rest.0,
      hand n left left buffer 0 rest.0 e all
          (call_keeps n buffer 0 sound e (block_line buffer 0 room) left bytes).number rest.1,
    )

-- so the list of every file is written by some calls, and by the theorem above nothing else is
pub list_written : (bytes : List ℕ) → AreBytes bytes → Hands started bytes (list_of bytes)
list_written bytes are =
    let c = hands_made started bytes night_ends started_sound are in
    subst (Hands started bytes) (file_listed bytes are c.0 c.1) c.1

-- all that the calls of a run print is in range
hands_fine : (n : Run) (left out : List ℕ) → Hands n left out → run_sound n ≡ true → AreBytes left
    → printable (left_in n (file_from (blocks_of left))) ≡ true
unfolding printable
hands_fine n left _ (done _ _ e) sound bytes = rw e
hands_fine n left _ (hand _ _ part buffer at wrote going may fine later) sound bytes =
    call_fine n buffer at sound going (done_room n part buffer at fine).1 left part bytes may
    (hands_fine (ran_of n part buffer at).ran.run (drop (ran_of n part buffer at).ran.used left) wrote later
    (run_kept n part buffer at (part_bytes left part may bytes) sound) (drop_bytes (ran_of n part buffer at).ran.used left bytes))

-- "Range: ..": every value of every line of a file's list
pub list_in_range : (bytes : List ℕ) → AreBytes bytes → printable (lines_of (printed_of bytes)) ≡ true
unfolding started printed_of
list_in_range bytes are = ap printable (sym (left_all (printed_of bytes)))
    ∙ hands_fine started bytes (list_of bytes) (list_written bytes are) started_sound are
