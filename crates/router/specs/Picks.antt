-- What the ports picked, and the table of the switch requests.
-- Assumes nothing.
use Rattle.std.specs.Prelude.{Bool, false, not, List, [], ℕ, eqb, get_or}
use Rattle.std.specs.Prelude.{Option, Some, None}
use Rattle.state.specs.declared.OutputVc.{OutputVc}
use Rattle.state.specs.Fresh.{fresh_output}

-- what port i picked
abbrev pub pick_in : List (Option ℕ) → ℕ → Option ℕ
pick_in picks i = get_or picks i None

-- the table: whether input i asks for output o
abbrev pub asks_in : List (List Bool) → ℕ → ℕ → Bool
asks_in table i o = get_or (get_or table i []) o false

-- whether a port that is named, if one is, is this one
abbrev pub is_at : ℕ → Option ℕ → Bool
is_at o None = false
is_at o (Some p) = eqb p o

-- whether the output VC of a channel that is named, if one is, has credit
abbrev pub has_credit : List OutputVc → Option ℕ → Bool
has_credit outputs None = false
has_credit outputs (Some y) = not (eqb (get_or outputs y (fresh_output 0)).credit 0)
