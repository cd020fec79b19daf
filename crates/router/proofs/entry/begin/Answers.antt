-- `router::entry::begin` meets its contract: the first block of a file is the configuration block, or is refused.
-- Assumes nothing.
use Rattle.std.proofs.Common.{◌≡◌, sym, ap, ◌∙◌, [], ◌∷◌, ℕ, arith}
use Rattle.std.proofs.Math.Bool.{true≢false}
use Rattle.trace.specs.declared.judging.Found.{Found}
use Rattle.trace.specs.declared.judging.Found.TheVariants as found
use Rattle.trace.specs.Judged.{judged}
use Rattle.listing.specs.Lines.{refusal}
use Rattle.router.specs.Running.{Writing}
use Rattle.router.proofs.Writes.{place_fits, refusal_fits}
use Rattle.router.proofs.Taken.{taken_as, kind, configuration_first, others_follow}
use Rattle.router.proofs.Beginning.{built_router, first_refused}
use Rattle.router.proofs.entry.begin.Goals as goal
use Rattle.router.proofs.entry.begin.Goals.{After-judge-answer}
use Rattle.std.specs.Prelude.{Ok}

-- the run that is handed in
abbrev given : After-judge-answer → Writing
given c = record { run = c.args.run; at = c.args.at; buffer = c.args.buf.now }

-- before the configuration block no cycle was accepted
was : (c : After-judge-answer) → c.judge-answer.result ≡ judged c.args.run.place c.args.run.router.cycle c.args.block.now
was c = c.judge-answer.ensures ∙ ap (λ (n : ℕ). judged c.args.run.place n c.args.block.now) (sym c.requires.2)

-- another block is never the first
never : (c : After-judge-answer) (f : Found) → (kind c.args.block.now (given c) (Ok f) ≡ 1 → ⊥) → c.judge-answer.result.found ≡ Ok f → ⊥
never c f n e = true≢false (sym (others_follow c.args.block.now (given c) c.judge-answer.result f n (was c) e) ∙ c.requires.0)

pub returns-in-Configuration : goal.returns-in-Configuration
returns-in-Configuration c =
    let a = (goal.at.returns-in-Configuration c).After-judge-answer in
    built_router (given a) c.judge-answer.result.place c.fresh-built.result _ c.fresh-built.ensures
    (configuration_first c.args.block.now (given a) c.judge-answer.result _ (was a) (c.in-Ok.is ∙ ap Ok c.in-Configuration.is)).1
    ∙ taken_as c.args.block.now (given a) c.judge-answer.result _ (was a) (c.in-Ok.is ∙ ap Ok c.in-Configuration.is)

pub returns-in-Cycles : goal.returns-in-Cycles
returns-in-Cycles c =
    absurd (never (goal.at.returns-in-Cycles c).After-judge-answer (found.Cycles _) (λ q. omega (arith, q)) (c.in-Ok.is ∙ ap Ok c.in-Cycles.is))

pub returns-in-End : goal.returns-in-End
returns-in-End c =
    absurd (never (goal.at.returns-in-End c).After-judge-answer found.End (λ q. omega (arith, q)) (c.in-Ok.is ∙ ap Ok c.in-End.is))

pub returns-in-Done : goal.returns-in-Done
returns-in-Done c =
    absurd (never (goal.at.returns-in-Done c).After-judge-answer found.Done (λ q. omega (arith, q)) (c.in-Ok.is ∙ ap Ok c.in-Done.is))

pub overflow_add-result : goal.overflow_add-result
overflow_add-result c =
    let l = place_fits c.args.buf.now c.args.at (refusal _ 0 _ ∷ []) c.write_refusal-written.result _ c.size-bytes.result
    c.write_refusal-written.ensures c.size-bytes.ensures (refusal_fits _ _ _) c.requires.3 in
    record { fits = omega (arith, l) }

pub returns-in-Err : goal.returns-in-Err
returns-in-Err c =
    let a = (goal.at.returns-in-Err c).After-judge-answer in
    first_refused (given a) _ _ c.requires.2 c.write_refusal-written.result _ c.size-bytes.result c.write_refusal-written.ensures
    c.size-bytes.ensures
    ∙ taken_as c.args.block.now (given a) c.judge-answer.result _ (was a) c.in-Err.is
