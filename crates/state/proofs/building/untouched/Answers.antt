-- `state::building::untouched` meets its contract: each part is as on a fresh router.
-- Assumes nothing.
use Rattle.state.proofs.Made.{router_made}
use Rattle.state.specs.Fresh.{fresh_router}
use Rattle.state.proofs.building.untouched.Goals as goal

pub returns : goal.returns
unfolding fresh_router
returns c =
    router_made c.args.config c.inputs.result c.outputs.result c.arbiters.result c.arbiters-2.result c.arbiters-3.result c.inputs.ensures
    c.outputs.ensures c.arbiters.ensures c.arbiters-2.ensures c.arbiters-3.ensures
