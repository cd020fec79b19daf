-- A write: its lines laid over the caller's buffer from a place on, or a refusal that leaves the buffer (01, numbers and the list).
-- Assumes nothing.
use Rattle.std.specs.Prelude.{Bool, cond, ◌||◌, ◌⊎◌, ℕ, ◌+◌, ◌-◌, ◌<◌, ltb, length, take, drop}
use Rattle.std.specs.Prelude.{Result, Ok, Err}
use mathlib.Core.List.{List, ◌++◌, Memᴰ}
use Rattle.base.specs.Sizes.{Field}
use Rattle.base.specs.Numbers.{done, no_room, out_of_range, room}
use Rattle.listing.specs.declared.Unwritten.{Unwritten}
use Rattle.listing.specs.declared.Unwritten.TheVariants.{NoRoom, OutOfRange}
use Rattle.listing.specs.Lines.{Line, values_of, text, printable}

-- the number given back, the bytes written, and the buffer afterwards
pub record WriteOutcome : Type 0 where
  pub number : ℕ
  pub bytes : ℕ
  pub buffer : List ℕ

-- "written into the caller's buffer from the named place onward; nothing outside them changes"
unfoldable pub put : List ℕ → ℕ → List ℕ → List ℕ
put buffer place bytes = take place buffer ++ bytes ++ drop (place + length bytes) buffer

-- fewer than n bytes from the named place, or place past the end
abbrev pub lacks : ℕ → List ℕ → ℕ → Bool
lacks n buffer place = ltb (length buffer) place || ltb (length buffer - place) n

-- "fewer than 376 bytes from the named place, or place past the end"
unfoldable pub lacks_room : List ℕ → ℕ → Bool
lacks_room = lacks room

-- "a refused write leaves the buffer and reports 0 bytes written"
abbrev pub refused_with : ℕ → List ℕ → WriteOutcome
refused_with number buffer = record { number = number; bytes = 0; buffer = buffer }

-- "Writer: 12, 11."; "Each write, of one cycle's lines (perhaps none) or of an E or R line, asks for 376 bytes."
unfoldable pub written : List ℕ → ℕ → List Line → WriteOutcome
written buffer place lines =
    cond (printable lines)
    (cond (lacks_room buffer place) (refused_with no_room buffer)
    (record { number = done; bytes = length (text lines); buffer = put buffer place (text lines) }))
    (refused_with out_of_range buffer)

-- the document's number and values for each answer, beside the buffer
abbrev pub write_outcome : Result ℕ Unwritten → List ℕ → WriteOutcome
write_outcome (Ok bytes) buffer = record { number = done; bytes = bytes; buffer = buffer }
write_outcome (Err NoRoom) buffer = refused_with no_room buffer
write_outcome (Err OutOfRange) buffer = refused_with out_of_range buffer

-- "reply or line value outside its range": some value of some of the lines that would be written
pub record Outside (lines : List Line) : Type 0 where
  pub line : Line
  pub among : Memᴰ line lines
  pub value : Field
  pub held : Memᴰ value (values_of line)
  pub out : (value.value < value.least) ⊎ (value.most < value.value)
