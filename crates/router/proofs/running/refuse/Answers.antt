-- `router::running::refuse` meets its contract: the R line, and nothing after it.
-- Assumes nothing.
use mathlib.Core.List.{[], ◌∷◌}
use native.Mathlib.Omega.{arith}
use Rattle.listing.specs.Lines.{refusal}
use Rattle.router.specs.Running.{on_run, finished, ended_by}
use Rattle.router.specs.Inside.{writing_of}
use Rattle.router.proofs.Writes.{wrote_is, place_fits, refusal_fits}
use Rattle.router.proofs.running.refuse.Goals as goal

pub overflow_add-run : goal.overflow_add-run
overflow_add-run c =
    let l = place_fits c.args.out.now c.args.before.at
    (refusal c.args.refusal.number c.args.before.cycle c.args.refusal.place ∷ [])
    c.write_refusal.result _ c.size-bytes.result
    c.write_refusal.ensures c.size-bytes.ensures (refusal_fits _ _ _) c.requires in
    record { fits = omega arith }

pub returns : goal.returns
unfolding ended_by
returns c =
    λ config store wire home. wrote_is (on_run finished (writing_of config c.args.before store wire home c.args.out.now))
    (refusal c.args.refusal.number c.args.before.cycle c.args.refusal.place ∷ [])
    c.write_refusal.result _ c.size-bytes.result
    c.write_refusal.ensures c.size-bytes.ensures
