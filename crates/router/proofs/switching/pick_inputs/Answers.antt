-- `router::switching::pick_inputs` meets its contract.
-- Assumes nothing.
use Rattle.std.proofs.Common.{◌∙◌, ap, ℕ, ◌/◌, ◌^◌, arith}
use lib.ListN.{length-set}
use Rattle.router.proofs.Choosing.{input_choice, picks_again, shifted}
use Rattle.router.proofs.switching.pick_inputs.Goals as goal

pub loop-i-preserved : goal.loop-i-preserved
loop-i-preserved c =
    let a = c.args in
    let l = c.loop-i in (
      length-set l.picks l.i c.pick.result ∙ l.invariant.0,
      ap (λ (x : ℕ). x / 2 ^ a.config.vcs) l.invariant.1 ∙ shifted a.ready l.i a.config.vcs,
      picks_again (input_choice a.config a.ready a.arbiters) l.picks l.i c.pick.result (omega arith) l.invariant.2
          (c.pick.ensures ∙ rw l.invariant.1),
    )
