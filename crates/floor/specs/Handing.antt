-- What handing bytes over to the run entry comes to, call by call. What the system does with a call's lines is not said here: it takes
-- them, or it does not (`NotWritten`).
-- Assumes nothing.
use Rattle.std.specs.Prelude.{◌≡◌, Bool, true, false, cond, ◌&&◌, List, [], ◌∷◌, ◌++◌, ℕ, zero, suc, ◌+◌, ◌%◌, ◌≤◌, ◌<◌, eqb, ltb, length}
use Rattle.std.specs.Prelude.{take, drop}
use Rattle.std.specs.Prelude.{Option, Some, None, Result, Ok, Err, is_ok}
use Rattle.base.specs.Numbers as numbers
use Rattle.trace.specs.Blocks.{block_length}
use Rattle.trace.specs.Bytes.{AreBytes}
use Rattle.runs.specs.declared.Run.{Run}
use Rattle.router.specs.declared.entry.Ran.{Ran}
use Rattle.router.specs.Running.{CallOutcome, ran_of}
use Rattle.night.specs.Calls.{wrote_in}
use Rattle.floor.specs.declared.passing.Stop.{Stop}
use Rattle.floor.specs.declared.passing.Stop.TheVariants.{Beyond, Uneven, Refused, NoRoom, NotWritten}
use Rattle.floor.specs.declared.whole.Unlisted.{Unlisted}
use Rattle.floor.specs.declared.whole.Unlisted.TheVariants.{Unread, Stopped}

-- bytes beyond the buffer are not written, and none are; else the system says it
pub record Puts (buf : List ℕ) (bytes : ℕ) (written : Bool) : Type 0 where
  pub beyond : length buf < bytes → written ≡ false
  pub none : bytes ≡ 0 → written ≡ true

-- a run, and the buffer that its lines are written into
pub record Handed : Type 0 where
  pub run : Run
  pub buffer : List ℕ

-- a call with a part, its lines from the buffer's start on
abbrev pub called : List ℕ → Handed → CallOutcome
called part h = ran_of h.run part h.buffer 0

abbrev pub handed_by : CallOutcome → Handed
handed_by o = record { run = o.ran.run; buffer = o.buffer }

-- all was handed over, or why not
abbrev pub Outcome : Type 0
Outcome = Result Unit Stop

-- what is answered where no call follows one that answered so, if none does: it was refused, all of the part is used or the run is over, or
-- it used nothing for want of room
abbrev pub stop_of : Ran → Option Outcome
stop_of r =
    cond (eqb r.number numbers.done)
    (cond (eqb r.asks 0) (Some (Ok tt)) (cond (eqb r.used 0) (Some (Err (NoRoom r.asks))) None))
    (Some (Err (Refused r.number)))

-- A part handed over in so many calls, each with what those before it did not use: why there was no other, and what came of them.
pub data Passes : List ℕ → Handed → ℕ → Outcome → Handed → Type 0 where
  stops : (part : List ℕ) (h : Handed) (s : Outcome) → stop_of (called part h).ran ≡ Some s → Passes part h 1 s (handed_by (called part h))
  fails : (part : List ℕ) (h : Handed) → (called part h).ran.number ≡ numbers.done → 0 < (called part h).ran.written
      → Passes part h 1 (Err NotWritten) (handed_by (called part h))
  goes : (part : List ℕ) (h : Handed) (k : ℕ) (s : Outcome) (g : Handed) → stop_of (called part h).ran ≡ None
      → Passes (drop (called part h).ran.used part) (handed_by (called part h)) k s g → Passes part h (suc k) s g

-- the run and the buffer after so many calls
unfoldable pub calls : ℕ → List ℕ → Handed → Handed
calls zero part h = h
calls (suc k) part h = calls k (drop (called part h).ran.used part) (handed_by (called part h))

-- whether a buffer of so many bytes holds some whole blocks, and nothing else
abbrev pub is_whole_blocks : ℕ → Bool
is_whole_blocks bytes = ltb 0 bytes && eqb (bytes % block_length) 0

-- The end of the input: an empty part, where all before it was handed over and the run is not over.
pub data Finishes (g : Handed) (k : ℕ) (s : Outcome) : ℕ → Outcome → Handed → Type 0 where
  stopped : is_ok s ≡ false → Finishes g k s k s g
  over : is_ok s ≡ true → g.run.over ≡ true → Finishes g k s k s g
  ends : (l : ℕ) (t : Outcome) (e : Handed) → is_ok s ≡ true → g.run.over ≡ false → Passes [] g l t e → Finishes g k s (k + l) t e

-- A piece that was read into a buffer of so many bytes, handed over: where it does not fill the buffer the input has ended.
pub data HandsOver (full : ℕ) (piece : List ℕ) (h : Handed) : ℕ → Outcome → Handed → Type 0 where
  uneven : is_whole_blocks full ≡ false → HandsOver full piece h 0 (Err Uneven) h
  fills : (k : ℕ) (s : Outcome) (g : Handed) → is_whole_blocks full ≡ true → AreBytes piece → length piece ≡ full → Passes piece h k s g
      → HandsOver full piece h k s g
  last : (k : ℕ) (s : Outcome) (g : Handed) (l : ℕ) (t : Outcome) (e : Handed) → is_whole_blocks full ≡ true → AreBytes piece
      → length piece < full
      → Passes piece h k s g → Finishes g k s l t e → HandsOver full piece h l t e

-- the first bytes of a buffer
pub data Handing (buf : List ℕ) (bytes : ℕ) (h : Handed) : ℕ → Outcome → Handed → Type 0 where
  beyond : length buf < bytes → Handing buf bytes h 0 (Err Beyond) h
  hands : (k : ℕ) (s : Outcome) (g : Handed) → bytes ≤ length buf → HandsOver (length buf) (take bytes buf) h k s g
      → Handing buf bytes h k s g

-- A night: pieces of the input, read into a buffer of so many bytes and handed over one after another, until the run is over.
pub data Lists (full : ℕ) : Handed → List (List ℕ) → Result Unit Unlisted → Handed → Type 0 where
  unread : (h : Handed) → Lists full h [] (Err Unread) h
  stopped : (h : Handed) (piece : List ℕ) (k : ℕ) (t : Stop) (g : Handed) → HandsOver full piece h k (Err t) g
      → Lists full h (piece ∷ []) (Err (Stopped t)) g
  over : (h : Handed) (piece : List ℕ) (k : ℕ) (s : Outcome) (g : Handed) → is_ok s ≡ true → g.run.over ≡ true
      → HandsOver full piece h k s g → Lists full h (piece ∷ []) (Ok tt) g
  goes : (h : Handed) (piece : List ℕ) (k : ℕ) (s : Outcome) (g : Handed) (pieces : List (List ℕ)) (r : Result Unit Unlisted) (e : Handed)
      → is_ok s ≡ true → g.run.over ≡ false → HandsOver full piece h k s g → Lists full g pieces r e
      → Lists full h (piece ∷ pieces) r e

-- ---- the lines of the calls, one call's after another's

unfoldable pub lines_of : {part : List ℕ} {h : Handed} {k : ℕ} {s : Outcome} {g : Handed} → Passes part h k s g → List ℕ
lines_of (stops part h s e) = wrote_in 0 (called part h)
lines_of (fails part h e l) = wrote_in 0 (called part h)
lines_of (goes part h k s g e more) = wrote_in 0 (called part h) ++ lines_of more

unfoldable pub last_lines : {g : Handed} {k : ℕ} {s : Outcome} {l : ℕ} {t : Outcome} {e : Handed} → Finishes g k s l t e → List ℕ
last_lines (stopped w) = []
last_lines (over w o) = []
last_lines (ends l t e w o p) = lines_of p

unfoldable pub piece_lines : {full : ℕ} {piece : List ℕ} {h : Handed} {k : ℕ} {s : Outcome} {g : Handed} → HandsOver full piece h k s g
    → List ℕ
piece_lines (uneven f) = []
piece_lines (fills k s g f b e p) = lines_of p
piece_lines (last k s g l t e v b f p q) = lines_of p ++ last_lines q

unfoldable pub night_lines : {full : ℕ} {h : Handed} {pieces : List (List ℕ)} {r : Result Unit Unlisted} {g : Handed}
    → Lists full h pieces r g → List ℕ
night_lines (unread h) = []
night_lines (stopped h piece k t g p) = piece_lines p
night_lines (over h piece k s g w o p) = piece_lines p
night_lines (goes h piece k s g pieces r e w o p more) = piece_lines p ++ night_lines more

-- the pieces, joined
unfoldable pub joined : List (List ℕ) → List ℕ
joined [] = []
joined (piece ∷ pieces) = piece ++ joined pieces

-- all pieces but the last fill a buffer of so many bytes
abbrev pub AllButLastFill : ℕ → List (List ℕ) → Type 0
AllButLastFill full [] = Unit {0}
AllButLastFill full (piece ∷ []) = length piece ≤ full
AllButLastFill full (piece ∷ next ∷ pieces) = (length piece ≡ full) × AllButLastFill full (next ∷ pieces)
