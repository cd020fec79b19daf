-- `router::running::finish` meets its contract: the E line, and nothing after it.
-- Assumes nothing.
use mathlib.Core.List.{[], ◌∷◌}
use native.Mathlib.Omega.{arith}
use Rattle.listing.specs.Lines.{finish as line_finish}
use Rattle.router.specs.Running.{on_run, finished, ended_by}
use Rattle.router.specs.Inside.{writing_of}
use Rattle.router.proofs.Writes.{wrote_is, place_fits, finish_fits}
use Rattle.router.proofs.running.finish.Goals as goal

pub overflow_add-run : goal.overflow_add-run
overflow_add-run c =
    let l = place_fits c.args.out.now c.args.before.at
    (line_finish c.args.before.cycle c.args.before.flits ∷ [])
    c.write_end.result _ c.size-bytes.result
    c.write_end.ensures c.size-bytes.ensures (finish_fits _ _) c.requires in
    record { fits = omega arith }

pub returns : goal.returns
unfolding ended_by
returns c =
    λ config store wire home. wrote_is (on_run finished (writing_of config c.args.before store wire home c.args.out.now))
    (line_finish c.args.before.cycle c.args.before.flits ∷ [])
    c.write_end.result _ c.size-bytes.result
    c.write_end.ensures c.size-bytes.ensures
