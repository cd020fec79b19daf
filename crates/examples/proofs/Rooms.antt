-- Room for a cycle's lines: the longest cycle, and what is asked for on either side.
-- Assumes nothing.
use Rattle.std.specs.Prelude.{Some}
use mathlib.Core.Path.{◌≡◌, refl, sym}
use mathlib.Core.List.{List, []}
use Prim.Native.Nat.{ℕ}
use lib.ListN.{length, replicate}
use Rattle.base.specs.declared.reply.Reply.{Reply}
use Rattle.base.specs.Flit.{head, letter_of}
use Rattle.base.specs.Numbers.{done, no_room, room}
use Rattle.base.specs.Reply.{empty_reply}
use Rattle.listing.specs.Digits.{glyph, decimal_within, decimal, last_digits, hex}
use Rattle.listing.specs.Lines.{spaced, print, text, printable, by_port, credit_line, flit_line, cycle_lines}
use Rattle.listing.specs.Writing.{lacks_room, written}
use Rattle.runs.specs.Run.{started}
use Rattle.router.specs.Running.{lacks_block_room, CallOutcome, refused_with, ran_of}
use Rattle.router.proofs.RunLaws.{run_full, run_asks}
use Rattle.night.proofs.Kept.{started_sound}

-- C 999999999 i 3 and F 999999999 o 3 7 3 H ffffffff for every port
abbrev full : Reply
full =
    record {
      senders = replicate 8 (Some 3);
      outputs = replicate 8 (Some (record { out_vc = 3; input = 7; vc = 3; kind = head; payload = 0xffffffff }));
    }

-- "Longest cycle: 8·31 + 8·16 = 376 bytes."
pub room_reached : length (text (cycle_lines 999999999 full)) ≡ room
unfolding letter_of glyph decimal_within decimal last_digits hex spaced print text by_port credit_line flit_line cycle_lines
room_reached = refl

-- an empty reply prints nothing, so that any cycle number passes
pub nothing_printed : (cycle : ℕ) → cycle_lines cycle empty_reply ≡ []
unfolding by_port credit_line flit_line cycle_lines
nothing_printed cycle = refl

-- "Room 376 serves, 375 gives 11.", also when nothing is written
pub room_serves : (written (replicate 376 0) 0 []).number ≡ done
unfolding printable lacks_room written
room_serves = refl

pub room_short : (written (replicate 375 0) 0 []).number ≡ no_room
unfolding printable lacks_room written
room_short = refl

-- The run entry asks for 376 bytes, too, and 375 give 11; from there up to 3,007 it uses nothing, writes nothing and says that the next
-- block asks for 3,008.
pub run_room_short : (part : List ℕ) → ran_of started part (replicate 375 0) 0 ≡ refused_with no_room started (replicate 375 0)
unfolding lacks_room
run_room_short part = sym (run_full started part (replicate 375 0) 0 started_sound refl)

abbrev asking : List ℕ → CallOutcome
asking buffer = record { ran = record { number = done; run = started; used = 0; written = 0; asks = 3008 }; buffer = buffer }

pub run_room_376 : (part : List ℕ) → ran_of started part (replicate 376 0) 0 ≡ asking (replicate 376 0)
unfolding lacks_room lacks_block_room started
run_room_376 part = sym (run_asks started part (replicate 376 0) 0 started_sound refl refl refl)

pub run_room_3007 : (part : List ℕ) → ran_of started part (replicate 3007 0) 0 ≡ asking (replicate 3007 0)
unfolding lacks_room lacks_block_room started
run_room_3007 part = sym (run_asks started part (replicate 3007 0) 0 started_sound refl refl refl)
