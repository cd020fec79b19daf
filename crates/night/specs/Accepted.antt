-- The accepted cycles of a file, counted one by one ("accepted cycles", 01, "The list").
-- Assumes nothing.
use Rattle.std.specs.Prelude.{Result, Ok, Err}
use Rattle.std.specs.Prelude.{List, [], ◌∷◌, ℕ, zero, suc, ◌+◌}
use Rattle.base.specs.Sizes.{no_config}
use Rattle.state.specs.declared.Router.{Router}
use Rattle.state.specs.Fresh.{fresh_router}
use Rattle.trace.specs.declared.place.Place.{Place}
use Rattle.trace.specs.Place.{start}
use Rattle.trace.specs.declared.judging.Found.{Found}
use Rattle.base.specs.declared.refusal.Refusal.{Refusal}
use Rattle.trace.specs.declared.judging.Found.TheVariants as found
use Rattle.trace.specs.Judged.{judged}
use Rattle.trace.specs.Blocks.{part_at}
use Rattle.base.specs.Refusal.{Verdict}
use Rattle.rules.specs.Step.{step_of}
use Rattle.night.specs.File.{blocks_of}

-- one for an accepted cycle, and then those after it; a refused one is the last
abbrev pub counted : Verdict → ℕ → ℕ
counted (Ok _) later = 1 + later
counted (Err r) later = 0

-- of n cycles of a block, from cycle k on, and then of the rest
unfoldable pub accepted_in : (Router → ℕ) → List ℕ → ℕ → ℕ → Router → ℕ
accepted_in rest block k zero s = rest s
accepted_in rest block k (suc n) s = counted (step_of s (part_at block k)).verdict
    (accepted_in rest block (k + 1) n (step_of s (part_at block k)).router)

-- of a block, by what it was judged to be, and then of the rest of the file
abbrev pub accepted_by : Result Found Refusal → Place → List ℕ → Router → (Place → Router → ℕ) → ℕ
accepted_by (Err r) q block s rest = 0
accepted_by (Ok (found.Configuration c)) q block s rest = rest q (fresh_router c)
accepted_by (Ok (found.Cycles n)) q block s rest = accepted_in (rest q) block 0 n s
accepted_by (Ok found.End) q block s rest = rest q s
accepted_by (Ok found.Done) q block s rest = 0

unfoldable pub accepted_from : List (List ℕ) → Place → Router → ℕ
accepted_from [] p s = 0
accepted_from (block ∷ blocks) p s =
    accepted_by (judged p s.cycle block).found (judged p s.cycle block).place block s (accepted_from blocks)

unfoldable pub accepted_of : List ℕ → ℕ
accepted_of bytes = accepted_from (blocks_of bytes) start (fresh_router no_config)
