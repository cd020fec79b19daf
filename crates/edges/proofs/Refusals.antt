-- A cycle that is refused leaves the router as it was.
-- Assumes nothing.
use mathlib.Core.Path.{◌≡◌, ap, ◌∙◌}
use Rattle.std.specs.Prelude.{List, ℕ}
use Rattle.state.specs.declared.Router.{Router}
use Rattle.base.specs.Refusal.{refusing}
use Rattle.rules.specs.declared.Stepped.{Stepped}
use Rattle.rules.specs.Step.{step_of}
use Rattle.rules.proofs.Exactness.{refused_leaves}

pub router_is : (s : Router) (part : List ℕ) (number port : ℕ) → (step_of s part).verdict ≡ refusing number port → (t : Stepped)
    → t ≡ step_of s part → t.router ≡ s
router_is s part number port refused t e =
    ap (λ (x : Stepped). x.router) e ∙ (refused_leaves s part (record { number = number; place = port }) refused).0
