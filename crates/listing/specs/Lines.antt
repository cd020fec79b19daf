-- The lines of the list, how each is printed, and the ranges of its values (01, the list).
-- Assumes nothing.
use Rattle.std.specs.Prelude.{Bool, true, ◌&&◌, List, [], ◌∷◌, ◌++◌, ℕ, zero, suc, ◌-◌, get_or}
use Rattle.std.specs.Prelude.{Option, Some, None}
use Rattle.base.specs.declared.reply.Departure.{Departure}
use Rattle.base.specs.declared.reply.Reply.{Reply}
use Rattle.base.specs.Flit.{head, single, letter_of}
use Rattle.base.specs.Numbers.{largest_number, largest_place}
use Rattle.base.specs.Sizes.{Field, field, in_range, most_ports, most_vcs, cycle_limit, flit_limit}
use Rattle.listing.specs.Digits.{decimal, hex}

-- `C cycle input vc`, `F cycle output outvc input invc kind payload`, `E cycles flits`, `R number cycle place`
pub data Line : Type 0 where
  credit : ℕ → ℕ → ℕ → Line
  flit : ℕ → ℕ → Departure → Line
  finish : ℕ → ℕ → Line
  refusal : ℕ → ℕ → ℕ → Line

-- C, F, E and R, by their ASCII codes as all text here
abbrev pub letter_of_line : Line → ℕ
letter_of_line (credit cycle input vc) = 67
letter_of_line (flit cycle output d) = 70
letter_of_line (finish cycles flits) = 69
letter_of_line (refusal number cycle place) = 82

-- the words after it: "Kind is its letter, payload eight lower-case hex digits; the rest are decimal"
abbrev pub words_of : Line → List (List ℕ)
words_of (credit cycle input vc) = decimal cycle ∷ decimal input ∷ decimal vc ∷ []
words_of (flit cycle output d) =
    decimal cycle ∷ decimal output ∷ decimal d.out_vc ∷ decimal d.input ∷ decimal d.vc ∷ (letter_of d.kind ∷ [])
    ∷ hex d.payload ∷ []
words_of (finish cycles flits) = decimal cycles ∷ decimal flits ∷ []
words_of (refusal number cycle place) = decimal number ∷ decimal cycle ∷ decimal place ∷ []

abbrev pub space : ℕ
space = 32

abbrev pub newline : ℕ
newline = 10

-- "one space between, a newline after"
unfoldable pub spaced : List (List ℕ) → List ℕ
spaced [] = newline ∷ []
spaced (word ∷ words) = space ∷ (word ++ spaced words)

unfoldable pub print : Line → List ℕ
print l = letter_of_line l ∷ spaced (words_of l)

-- the bytes of some lines, one after another
unfoldable pub text : List Line → List ℕ
text [] = []
text (l ∷ ls) = print l ++ text ls

-- "ports 0..7, VCs 0..3"
abbrev pub port_field : ℕ → Field
port_field p = field p 0 (most_ports - 1)

abbrev pub vc_field : ℕ → Field
vc_field v = field v 0 (most_vcs - 1)

-- "Range: kind 1..4; cycle below 10^9 in C and F lines, at most 10^9 in E and R; flits at most 8·10^9; ports 0..7, VCs 0..3;
-- number 1..10, place 0..7."
unfoldable pub values_of : Line → List Field
values_of (credit cycle input vc) = field cycle 0 (cycle_limit - 1) ∷ port_field input ∷ vc_field vc ∷ []
values_of (flit cycle output d) =
    field cycle 0 (cycle_limit - 1) ∷ port_field output ∷ vc_field d.out_vc ∷ port_field d.input ∷ vc_field d.vc
    ∷ field d.kind head single ∷ []
values_of (finish cycles flits) = field cycles 0 cycle_limit ∷ field flits 0 flit_limit ∷ []
values_of (refusal number cycle place) =
    field number 1 largest_number ∷ field cycle 0 cycle_limit ∷ field place 0 largest_place ∷ []

-- all of some values are in their ranges
unfoldable pub all_in_range : List Field → Bool
all_in_range [] = true
all_in_range (f ∷ fs) = in_range f && all_in_range fs

-- all values of some lines are
unfoldable pub printable : List Line → Bool
printable [] = true
printable (l ∷ ls) = all_in_range (values_of l) && printable ls

-- "by input", "by output": what ports 0 to n - 1 have, in this order
unfoldable pub by_port : (ℕ → List Line) → ℕ → List Line
by_port lines zero = []
by_port lines (suc n) = by_port lines n ++ lines n

-- "`C cycle input vc` for each credit reaching a sender"
unfoldable pub credit_line : ℕ → Reply → ℕ → List Line
credit_line cycle reply i = line_of (get_or reply.senders i None)
  where
    line_of : Option ℕ → List Line
    line_of None = []
    line_of (Some vc) = credit cycle i vc ∷ []

-- "`F cycle output outvc input invc kind payload` for each flit out"
unfoldable pub flit_line : ℕ → Reply → ℕ → List Line
flit_line cycle reply o = line_of (get_or reply.outputs o None)
  where
    line_of : Option Departure → List Line
    line_of None = []
    line_of (Some d) = flit cycle o d ∷ []

-- "per accepted cycle, first `C ..` for each credit .., by input; then `F ..` for each flit out, by output"
unfoldable pub cycle_lines : ℕ → Reply → List Line
cycle_lines cycle reply = by_port (credit_line cycle reply) most_ports ++ by_port (flit_line cycle reply) most_ports

-- "(accepted cycles, F lines)": how many of some lines are F lines
unfoldable pub flit_lines : List Line → ℕ
flit_lines [] = 0
flit_lines (credit cycle input vc ∷ ls) = flit_lines ls
flit_lines (flit cycle output d ∷ ls) = suc (flit_lines ls)
flit_lines (finish cycles flits ∷ ls) = flit_lines ls
flit_lines (refusal number cycle place ∷ ls) = flit_lines ls
