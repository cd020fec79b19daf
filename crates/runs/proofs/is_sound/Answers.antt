-- `runs::is_sound` meets its contract: clause after clause.
-- Assumes nothing.
use mathlib.Core.Path.{sym, ◌∙◌}
use borrow.Author.Tests.{not-true, not-false}
use Rattle.state.proofs.Exact.{passed_sound}
use Rattle.state.proofs.Legal.{configuration_legal-law, sound_cycle}
use Rattle.runs.proofs.Tests.{flits_fit, run_lost, run_unblank, run_unconfigured, run_unsound, run_few}
use Rattle.runs.proofs.is_sound.Goals as goal

pub returns-then-not-is_place_right : goal.returns-then-not-is_place_right
returns-then-not-is_place_right c =
    run_lost c.args.run
    (sym c.is_place_right.ensures ∙ c.if-not-is_place_right.true)

pub returns-then-not-is_blank : goal.returns-then-not-is_blank
returns-then-not-is_blank c =
    run_unblank c.args.run (sym c.is_place_right.ensures
    ∙ c.if-not-is_place_right.false) (not-true _ c.if-not-place.true)
    (sym c.is_blank.ensures ∙ c.if-not-is_blank.true)

pub returns-then-not-place : goal.returns-then-not-place
returns-then-not-place c =
    run_unconfigured c.args.run (sym c.is_place_right.ensures
    ∙ c.if-not-is_place_right.false) (not-true _ c.if-not-place.true)
    (sym c.is_blank.ensures ∙ c.if-not-is_blank.false)

pub returns-then-not-is_sound : goal.returns-then-not-is_sound
returns-then-not-is_sound c =
    run_unsound c.args.run (sym c.is_place_right.ensures
    ∙ c.if-not-is_place_right.false) (not-false _ c.if-not-place.false)
    (sym c.is_sound.ensures ∙ c.if-not-is_sound.true)

pub overflow_mul-result : goal.overflow_mul-result
overflow_mul-result c =
    let s = passed_sound c.args.run.router (sym c.is_sound.ensures
    ∙ c.if-not-is_sound.false) in
    record { fits = flits_fit (configuration_legal-law c.args.run.router.config s.sizes.configuration).ports.1 (sound_cycle s) }

pub returns : goal.returns
returns c =
    run_few c.args.run (sym c.is_place_right.ensures
    ∙ c.if-not-is_place_right.false) (not-false _ c.if-not-place.false)
    (sym c.is_sound.ensures ∙ c.if-not-is_sound.false)
