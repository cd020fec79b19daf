-- `runs::Run::start` meets its contract.
-- Assumes nothing.
use mathlib.Core.Path.{ap, ap₂, ◌∙◌}
use mathlib.Core.Bool.{false}
use Rattle.base.specs.Sizes.{in_range, first_illegal, illegal_field}
use Rattle.base.specs.declared.config.Config.{Config}
use Rattle.state.specs.declared.building.Built.{Built}
use Rattle.state.specs.Fresh.{built_of}
use Rattle.trace.specs.declared.place.Place.{Place}
use Rattle.runs.specs.Run.{started}
use Rattle.runs.proofs.Run.start.Goals as goal

pub returns : goal.returns
unfolding started built_of illegal_field first_illegal in_range
returns c = ap₂ (λ (b : Built) (p : Place). record { router = b.router; place = p; flits = 0; over = false })
    (c.fresh-built.ensures ∙ ap (λ (k : Config). built_of (illegal_field k) k) c.none.ensures)
    c.start.ensures
