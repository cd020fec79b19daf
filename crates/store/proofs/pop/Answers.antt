-- `store::pop` meets its contract: the slots behind the first are copied over it and those after it, and the last is emptied.
-- Assumes nothing.
use mathlib.Core.Path.{ap, ap₂, ◌∙◌}
use native.Mathlib.Omega.{arith}
use lib.ListN.{set}
use Rattle.std.specs.List.{copy_within}
use Rattle.store.specs.Store.{first_slot, slot}
use Rattle.store.proofs.Slots.{pop_copied}
use Rattle.store.proofs.pop.Goals as goal

pub returns : goal.returns
returns c =
    let store = c.args.store.now in
    let x = c.args.channel in
    ap (λ l. set l (slot x 15) 0) c.copy_within.ensures.after
    ∙ ap₂ (λ from to. set (copy_within store from to (first_slot x)) (slot x 15) 0) (omega arith) (omega arith)
    ∙ pop_copied store x c.if-channel-ge-CHANNEL_PLACES.false c.told-store
