-- The list of a file (01, "Blocks", "Numbers given back" and "The list"): from a file's bytes to the list's bytes.
-- Assumes nothing.
use Rattle.std.specs.Prelude.{Result, Ok, Err}
use Rattle.std.specs.Prelude.{cond, List, [], ◌∷◌, ◌++◌, ℕ, zero, suc, ◌+◌, length, take, drop}
use Rattle.base.specs.Numbers.{block_short}
use Rattle.base.specs.Sizes.{no_config}
use Rattle.state.specs.declared.Router.{Router}
use Rattle.state.specs.Fresh.{fresh_router}
use Rattle.trace.specs.declared.place.Place.{Place}
use Rattle.trace.specs.Blocks.{block_length, part_at}
use Rattle.trace.specs.Place.{start}
use Rattle.trace.specs.declared.judging.Found.{Found}
use Rattle.base.specs.declared.refusal.Refusal.{Refusal}
use Rattle.trace.specs.declared.judging.Found.TheVariants as found
use Rattle.trace.specs.Judged.{judged}
use Rattle.listing.specs.Lines.{Line, finish, refusal, text, cycle_lines, flit_lines}
use Rattle.base.specs.Refusal.{Verdict}
use Rattle.rules.specs.declared.Stepped.{Stepped}
use Rattle.rules.specs.Step.{step_of}

-- How a list ends: "Last comes `E cycles flits` .., or at the first refusal `R number cycle place`".
pub data Ending : Type 0 where
  finishes : Ending
  refuses : ℕ → ℕ → Ending

-- What is printed from some place in a file on: the lines of the accepted cycles, the accepted cycles at the end, and how it ends.
pub record Printed : Type 0 where
  pub lines : List Line
  pub cycles : ℕ
  pub ending : Ending

abbrev pub ends_at : Router → Ending → Printed
ends_at s e = record { lines = []; cycles = s.cycle; ending = e }

-- these lines come before
abbrev pub after : List Line → Printed → Printed
after lines p = record { lines = lines ++ p.lines; cycles = p.cycles; ending = p.ending }

-- "per accepted cycle, first `C ..`; then `F ..`"; a refused cycle ends the list
abbrev pub cycle_then : Verdict → Stepped → Router → (Router → Printed) → Printed
cycle_then (Ok _) x s rest = after (cycle_lines s.cycle x.reply) (rest x.router)
cycle_then (Err r) x s rest = ends_at s (refuses r.number r.place)

-- n cycles of a block, from cycle k on, and then the rest
unfoldable pub cycles_then : (Router → Printed) → List ℕ → ℕ → ℕ → Router → Printed
cycles_then rest block k zero s = rest s
cycles_then rest block k (suc n) s =
    cycle_then (step_of s (part_at block k)).verdict (step_of s (part_at block k)) s (cycles_then rest block (k + 1) n)

-- a block, by what it was judged to be, and then the rest of the file
abbrev pub block_then : Result Found Refusal → Place → List ℕ → Router → (Place → Router → Printed) → Printed
block_then (Err r) q block s rest = ends_at s (refuses r.number r.place)
block_then (Ok (found.Configuration c)) q block s rest = rest q (fresh_router c)
block_then (Ok (found.Cycles n)) q block s rest = cycles_then (rest q) block 0 n s
block_then (Ok found.End) q block s rest = rest q s
block_then (Ok found.Done) q block s rest = ends_at s finishes

-- the blocks of a file from a place on; where they are at an end: "input ends before the end block" is 9
unfoldable pub file_from : List (List ℕ) → Place → Router → Printed
file_from [] p s = ends_at s (cond p.ended finishes (refuses block_short 0))
file_from (block ∷ blocks) p s = block_then (judged p s.cycle block).found (judged p s.cycle block).place block s (file_from blocks)

-- "512 bytes": at most n blocks of some bytes, the last perhaps shorter
unfoldable pub cut_into : ℕ → List ℕ → List (List ℕ)
cut_into zero bytes = []
cut_into (suc n) [] = []
cut_into (suc n) (b ∷ bytes) = take block_length (b ∷ bytes) ∷ cut_into n (drop block_length (b ∷ bytes))

abbrev pub blocks_of : List ℕ → List (List ℕ)
blocks_of bytes = cut_into (length bytes) bytes

-- "`E cycles flits` (accepted cycles, F lines)", "`R number cycle place`, with accepted cycles so far"
abbrev pub last_line : Printed → Ending → Line
last_line p finishes = finish p.cycles (flit_lines p.lines)
last_line p (refuses n k) = refusal n p.cycles k

abbrev pub lines_of : Printed → List Line
lines_of p = p.lines ++ last_line p p.ending ∷ []

-- what the program prints of a file
unfoldable pub printed_of : List ℕ → Printed
printed_of bytes = file_from (blocks_of bytes) start (fresh_router no_config)

unfoldable pub list_of : List ℕ → List ℕ
list_of bytes = text (lines_of (printed_of bytes))
