-- A run: from a fresh router, any cycles within the limits. A refused cycle leaves no trace, so it does not occur.
-- Assumes nothing.
use Rattle.std.specs.Prelude.{[], ◌∷◌}
use Rattle.model.specs.Sizes.{Config}
use Rattle.model.specs.Flit.{Look}
use Rattle.model.specs.Router.{Router, fresh}
use Rattle.model.specs.Cycle.{Event, Choice}
use Rattle.model.specs.History.{History}
use Rattle.model.specs.Step.{step, entry}
use Rattle.model.specs.Legal.{Legal}

-- "Take a fresh router and any run of cycles, refused ones skipped." (demand 3) The state after the run, and its history.
pub data Run {Flit : Type 0} (look : Look Flit) (c : Config) : Router Flit → History Flit → Type 0 where
  start : Run look c (fresh c) []
  accept : {s : Router Flit} {h : History Flit} → Run look c s h → (e : Event Flit) (k : Choice) → Legal look c s e k →
      Run look c (step look c s e k) (entry c s e k ∷ h)
