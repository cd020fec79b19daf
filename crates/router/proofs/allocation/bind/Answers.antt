-- `router::allocation::bind` meets its contract.
-- Assumes nothing.
use Rattle.router.specs.Grants.{grant_at}
use Rattle.router.proofs.Binding.{bindings_apart}
use Rattle.router.proofs.allocation.bind.Goals as goal

pub returns : goal.returns
returns c =
    let a = c.args in
    rw (c.bind_inputs-inputs.ensures, c.bind_outputs-outputs.ensures)
    (bindings_apart a.config (grant_at a.made) (record { inputs = a.before.inputs; outputs = a.before.outputs }))
