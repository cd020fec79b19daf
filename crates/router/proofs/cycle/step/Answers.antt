-- `router::cycle::step` meets its contract: tested, then stepped as a sound router.
-- Assumes nothing.
use Rattle.std.proofs.Common.{◌∙◌, sym}
use Rattle.state.proofs.Exact.{passed_sound}
use Rattle.router.proofs.StepLaws.{unsound_steps}
use Rattle.router.proofs.cycle.step.Goals as goal

pub returns-then-not-is_sound : goal.returns-then-not-is_sound
returns-then-not-is_sound c = rw c.empty.ensures (unsound_steps _ _ (sym c.is_sound.ensures ∙ c.if-not-is_sound.true))

pub inner_step-done-requires : goal.inner_step-done-requires
inner_step-done-requires c = rw c.unpack-before.ensures (passed_sound _ (sym c.is_sound.ensures ∙ c.if-not-is_sound.false))

pub returns : goal.returns
returns c = rw c.pack.ensures (rw c.unpack-before.ensures at c.inner_step-done.ensures)
