-- A run beside its list: what the list shows of the accepted cycles, and how many flits left in the history.
-- Assumes nothing.
use Rattle.std.specs.Prelude.{Ok, Err}
use Rattle.std.specs.Prelude.{List, [], ◌∷◌, ◌++◌, ℕ, length}
use Rattle.base.specs.declared.flit.Flit.{Flit}
use Rattle.listing.specs.Lines.{Line, cycle_lines}
use Rattle.model.specs.History.{Entry, History, gather}
use Rattle.state.specs.declared.Router.{Router}
use Rattle.base.specs.Refusal.{Verdict}
use Rattle.rules.specs.declared.Stepped.{Stepped}
use Rattle.rules.specs.Step.{step_of}

-- the flits that left, in all cycles of a history
abbrev pub departed : History Flit → ℕ
departed h = length (gather (λ (e : Entry Flit). e.departures) h)

-- the lines of an accepted cycle, and then those of the cycles after it; a refused one has none
abbrev pub lines_then : Verdict → Stepped → Router → (Router → List Line) → List Line
lines_then (Ok _) x s rest = cycle_lines s.cycle x.reply ++ rest x.router
lines_then (Err n) x s rest = rest s

-- the lines of the accepted cycles of a run from a router on
unfoldable pub lines_from : Router → List (List ℕ) → List Line
lines_from s [] = []
lines_from s (part ∷ parts) = lines_then (step_of s part).verdict (step_of s part) s (λ t. lines_from t parts)
