-- What is left to print of a run: nothing where it is over, else what is printed from its place in the file on, its F lines counted on.
-- Assumes nothing.
use mathlib.Core.Path.{◌≡◌, refl, ap, ◌∙◌}
use mathlib.Core.Bool.{cond}
use mathlib.Core.List.{List, [], ◌∷◌, ◌++◌, append_assoc}
use Prim.Native.Nat.{ℕ, ◌+◌}
use native.Mathlib.Nat.{zero-add}
use native.Mathlib.Omega.{arith}
use Rattle.state.specs.declared.Router.{Router}
use Rattle.trace.specs.declared.place.Place.{Place}
use Rattle.listing.specs.Lines.{Line, finish, refusal, flit_lines}
use Rattle.listing.proofs.Counting.{flit_lines_append}
use Rattle.runs.specs.declared.Run.{Run}
use Rattle.night.specs.File.{Ending, finishes, refuses, Printed, after, last_line, lines_of}

-- the last line, with these flits
abbrev pub closing : Ending → ℕ → ℕ → Line
closing finishes c f = finish c f
closing (refuses n k) c f = refusal n c k

-- the lines of what is printed after f F lines
abbrev pub left_of : ℕ → Printed → List Line
left_of f p = p.lines ++ closing p.ending p.cycles (f + flit_lines p.lines) ∷ []

-- from a run's router on, and from its place in the file on
abbrev pub left_from : Run → (Router → Printed) → List Line
left_from n rest = cond n.over [] (left_of n.flits (rest n.router))

abbrev pub left_in : Run → (Place → Router → Printed) → List Line
left_in n rest = left_from n (rest n.place)

-- lines that come before
pub left_after : (f : ℕ) (ls : List Line) (p : Printed) → left_of f (after ls p) ≡ ls ++ left_of (f + flit_lines ls) p
left_after f ls p =
    let e : f + flit_lines (ls ++ p.lines) ≡ f + flit_lines ls + flit_lines p.lines = omega (arith, flit_lines_append ls p.lines) in
    ap (λ (n : ℕ). ls ++ p.lines ++ closing p.ending p.cycles n ∷ []) e
    ∙ append_assoc ls p.lines (closing p.ending p.cycles (f + flit_lines ls + flit_lines p.lines) ∷ [])

-- the lines of a file are what is left before it
pub left_all : (p : Printed) → left_of 0 p ≡ lines_of p
left_all p = ap (λ (l : Line). p.lines ++ l ∷ []) (go p.ending)
  where
    go : (e : Ending) → closing e p.cycles (0 + flit_lines p.lines) ≡ last_line p e
    go finishes = ap (finish p.cycles) (zero-add (flit_lines p.lines))
    go (refuses n k) = refl
