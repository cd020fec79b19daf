-- The run entry: block after block of a file is judged, its cycles are stepped, and each cycle's lines, the E or the R line, are written
-- (01, blocks, numbers and the list).
-- Assumes nothing.
use Rattle.std.specs.Prelude.{Result, Ok, Err}
use Rattle.std.specs.Prelude.{Bool, true, cond, not, List, [], ◌∷◌, ℕ, zero, suc, ◌+◌, ◌-◌, ◌*◌, ◌/◌, length, take, drop}
use Rattle.base.specs.Numbers.{done, not_sound, no_room, room}
use Rattle.state.specs.declared.Router.{Router}
use Rattle.state.specs.Fresh.{fresh_router}
use Rattle.trace.specs.declared.place.Place.{Place}
use Rattle.trace.specs.Blocks.{block_length, part_at}
use Rattle.base.specs.declared.refusal.Refusal.{Refusal}
use Rattle.trace.specs.declared.judging.Answer.{Answer}
use Rattle.trace.specs.declared.judging.Found.{Found}
use Rattle.trace.specs.declared.judging.Found.TheVariants as found
use Rattle.trace.specs.Judged.{judged}
use Rattle.listing.specs.Lines.{Line, finish, refusal, cycle_lines, flit_lines}
use Rattle.listing.specs.Writing.{lacks, lacks_room, written}
use Rattle.base.specs.Refusal.{Verdict}
use Rattle.rules.specs.declared.Stepped.{Stepped}
use Rattle.rules.specs.Step.{step_of}
use Rattle.runs.specs.declared.Run.{Run}
use Rattle.router.specs.declared.entry.Ran.{Ran}
use Rattle.runs.specs.Run.{run_sound}

-- a run, the caller's buffer, and the place in it where the next line comes
pub record Writing : Type 0 where
  pub run : Run
  pub at : ℕ
  pub buffer : List ℕ

-- each write is listing's; the next line comes behind its bytes
unfoldable pub wrote : List Line → Writing → Writing
wrote lines w =
    record {
      run = w.run;
      at = w.at + (written w.buffer w.at lines).bytes;
      buffer = (written w.buffer w.at lines).buffer;
    }

abbrev pub with_place : Place → Run → Run
with_place p n = record { router = n.router; place = p; flits = n.flits; over = n.over }

abbrev pub with_router : Router → Run → Run
with_router s n = record { router = s; place = n.place; flits = n.flits; over = n.over }

abbrev pub with_flits : ℕ → Run → Run
with_flits m n = record { router = n.router; place = n.place; flits = n.flits + m; over = n.over }

abbrev pub finished : Run → Run
finished n = record { router = n.router; place = n.place; flits = n.flits; over = true }

abbrev pub on_run : (Run → Run) → Writing → Writing
on_run f w = record { run = f w.run; at = w.at; buffer = w.buffer }

-- "Last comes `E ..`, or at the first refusal `R ..`": nothing comes after it
unfoldable pub ended_by : Line → Writing → Writing
ended_by line w = wrote (line ∷ []) (on_run finished w)

-- "per accepted cycle" its lines; a refused one ends the list
abbrev pub by_verdict : Verdict → Stepped → Writing → Writing
by_verdict (Ok _) x w =
    wrote (cycle_lines w.run.router.cycle x.reply)
    (on_run (λ n. with_router x.router (with_flits (flit_lines (cycle_lines n.router.cycle x.reply)) n)) w)
by_verdict (Err r) x w = ended_by (refusal r.number w.run.router.cycle r.place) w

abbrev pub by_step : Stepped → Writing → Writing
by_step x w = by_verdict x.verdict x w

unfoldable pub cycled : List ℕ → Writing → Writing
cycled part w = by_step (step_of w.run.router part) w

-- the n cycles of a block from cycle k on, up to the first refusal
unfoldable pub cycles_from : List ℕ → ℕ → ℕ → Writing → Writing
cycles_from block k zero w = w
cycles_from block k (suc n) w = cond w.run.over w (cycles_from block (k + 1) n (cycled (part_at block k) w))

-- what a block was found to be, at the place after it
abbrev pub by_read : Found → List ℕ → Writing → Writing
by_read (found.Configuration c) block w = on_run (with_router (fresh_router c)) w
by_read (found.Cycles n) block w = cycles_from block 0 n w
by_read found.End block w = w
by_read found.Done block w = ended_by (finish w.run.router.cycle w.run.flits) w

abbrev pub by_found : Result Found Refusal → Place → List ℕ → Writing → Writing
by_found (Err r) p block w = ended_by (refusal r.number w.run.router.cycle r.place) w
by_found (Ok f) p block w = by_read f block (on_run (with_place p) w)

abbrev pub by_judgement : Answer → List ℕ → Writing → Writing
by_judgement a block w = by_found a.found a.place block w

unfoldable pub block_taken : List ℕ → Writing → Writing
block_taken block w = by_judgement (judged w.run.place w.run.router.cycle block) block w

-- The blocks of a part handed over: 512 bytes each, the last perhaps shorter; an empty part is one empty block, the end of the input.
abbrev pub blocks_in : List ℕ → ℕ
blocks_in part = 1 + (length part - 1) / block_length

abbrev pub block_at : List ℕ → ℕ → List ℕ
block_at part used = take block_length (drop used part)

-- a block holds at most 7 cycles, each with its lines, and a cycle that is refused has one more: "asks for 376 bytes" each
abbrev pub room_of_block : ℕ
room_of_block = 8 * room

unfoldable pub lacks_block_room : List ℕ → ℕ → Bool
lacks_block_room = lacks room_of_block

-- how far a call has come: the bytes used, and the room that the next block asks for where it stopped for want of it, else 0
pub record Call : Type 0 where
  pub used : ℕ
  pub asks : ℕ
  pub writing : Writing

abbrev pub begins : Writing → Call
begins w = record { used = 0; asks = 0; writing = w }

-- the next block of the part is taken
abbrev pub takes : List ℕ → Call → Call
takes part c =
    record {
      used = c.used + length (block_at part c.used);
      asks = 0;
      writing = block_taken (block_at part c.used) c.writing;
    }

abbrev pub stops : Call → Call
stops c = record { used = c.used; asks = room_of_block; writing = c.writing }

-- at most n blocks more: until the run is over or the room is too little for a block
unfoldable pub going_on : List ℕ → ℕ → Call → Call
going_on part zero c = c
going_on part (suc n) c =
    cond c.writing.run.over c
    (cond (lacks_block_room c.writing.buffer c.writing.at) (stops c) (going_on part n (takes part c)))

-- what a call answers, and the buffer after it
pub record CallOutcome : Type 0 where
  pub ran : Ran
  pub buffer : List ℕ

-- a call that is refused leaves run and buffer
abbrev pub refused_with : ℕ → Run → List ℕ → CallOutcome
refused_with number n buffer = record { ran = record { number = number; run = n; used = 0; written = 0; asks = 0 }; buffer = buffer }

abbrev pub answered : ℕ → Call → CallOutcome
answered at c =
    record {
      ran = record { number = done; run = c.writing.run; used = c.used; written = c.writing.at - at; asks = c.asks };
      buffer = c.writing.buffer;
    }

-- 2, then 11 ("fewer than 376 bytes from the named place, or place past the end"), then the blocks of the part
unfoldable pub ran_of : Run → List ℕ → List ℕ → ℕ → CallOutcome
ran_of n part buffer at =
    cond (not (run_sound n)) (refused_with not_sound n buffer)
    (cond (lacks_room buffer at) (refused_with no_room n buffer)
    (answered at (going_on part (blocks_in part) (begins (record { run = n; at = at; buffer = buffer })))))
