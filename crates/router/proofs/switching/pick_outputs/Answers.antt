-- `router::switching::pick_outputs` meets its contract.
-- Assumes nothing.
use Rattle.std.proofs.Common.{◌∙◌, arith}
use lib.ListN.{length-set}
use Rattle.router.proofs.Choosing.{picks_again}
use Rattle.router.proofs.Columns.{output_choice, column_choice}
use Rattle.router.proofs.switching.pick_outputs.Goals as goal

pub loop-o-preserved : goal.loop-o-preserved
loop-o-preserved c =
    let a = c.args in
    let l = c.loop-o in (
      length-set l.picks l.o c.pick.result ∙ l.invariant.0,
      picks_again (output_choice a.config a.table.now a.arbiters) l.picks l.o c.pick.result (omega arith) l.invariant.1
          (c.pick.ensures ∙ column_choice a.config a.table.now a.arbiters l.o c.column.result c.requires c.column.ensures),
    )
