-- `router::cycle::inner_step` meets its contract: judged, and acted on if no rule refuses the cycle.
-- Assumes nothing.
use Rattle.std.proofs.Common.{◌∙◌, ◌<◌, sym, arith}
use Rattle.base.specs.Sizes.{cycle_limit}
use Rattle.state.proofs.Exact.{sound_passes}
use Rattle.rules.proofs.Facts.{sound_lengths, sound_legal}
use Rattle.router.proofs.SoundFits.{credits_fit, queues_fit, output_credits_fit-law}
use Rattle.router.proofs.StepLaws.{refused_steps, accepted_steps, accepted_early, accepted_long}
use Rattle.router.proofs.cycle.inner_step.Goals as goal

pub pay_senders-paid-requires : goal.pay_senders-paid-requires
pay_senders-paid-requires c = ((sound_legal _ c.requires).ports.1, credits_fit _ c.requires)

pub judge-verdict-requires : goal.judge-verdict-requires
judge-verdict-requires c = (sound_legal _ c.requires).ports.1

pub returns-then-is_err : goal.returns-then-is_err
returns-then-is_err c =
    refused_steps _ _ _ _ (sound_passes _ c.requires) c.pay_senders-paid.ensures c.judge-verdict.ensures
    (sym c.is_err.ensures.value ∙ c.if-is_err.true) _ c.empty.ensures

pub act-acted-requires : goal.act-acted-requires
act-acted-requires c =
    let l = sound_lengths _ c.requires in (
      sound_legal _ c.requires,
      accepted_long _ _ _ _ (sound_passes _ c.requires) c.pay_senders-paid.ensures c.judge-verdict.ensures
          (sym c.is_err.ensures.value ∙ c.if-is_err.false),
      rw c.pay_senders-paid.ensures (queues_fit _ c.requires),
      output_credits_fit-law _ c.requires,
      l.store,
      l.wire,
      l.home,
    )

pub overflow_add-result : goal.overflow_add-result
overflow_add-result c =
    let l : c.args.cycle < cycle_limit = accepted_early _ _ _ _ (sound_passes _ c.requires) c.pay_senders-paid.ensures
    c.judge-verdict.ensures (sym c.is_err.ensures.value ∙ c.if-is_err.false) in
    record { fits = omega arith }

pub returns : goal.returns
returns c =
    accepted_steps _ _ _ _ (sound_passes _ c.requires) c.pay_senders-paid.ensures c.judge-verdict.ensures
    (sym c.is_err.ensures.value ∙ c.if-is_err.false) _ _
    (c.act-acted.ensures.after c.args.cycle) (c.act-acted.ensures.said c.args.cycle)
