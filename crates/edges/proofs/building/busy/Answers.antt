-- `edges::building::busy` meets its contract.
-- Assumes nothing.
use Rattle.std.proofs.Common.{rules}
use Rattle.edges.specs.States.{busy, busy_from}
use Rattle.state.proofs.SoundStates.{with_input, with_output, with_slot, with_wire_place, with_home_place, unbound, bound, held, head, single, body, on}
use Rattle.base.specs.Flit.{flit_of}
use Rattle.edges.proofs.building.busy.Goals as goal

pub returns : goal.returns
unfolding busy busy_from with_input with_output with_slot with_wire_place with_home_place unbound bound held head single body on flit_of
returns c = search rules
