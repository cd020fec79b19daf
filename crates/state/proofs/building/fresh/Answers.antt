-- `state::fresh` meets its contract: 1 with the field, or the fresh router.
-- Assumes nothing.
use Rattle.std.proofs.Common.{◌∙◌, ap}
use Rattle.std.specs.Prelude.{is_err}
use Rattle.base.proofs.Configurations.{judged_legal, legal_exact}
use Rattle.state.proofs.building.fresh.Goals as goal

pub untouched-requires-2 : goal.untouched-requires-2
untouched-requires-2 c =
    let l = (legal_exact c.args.config).0 (judged_legal _ (c.if-is_err.ensures.value ∙ ap is_err c.judged-judged.ensures)) in
    (l.ports.1, l.vcs.1)
