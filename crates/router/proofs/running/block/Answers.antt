-- `router::running::block` meets its contract: what the block is found to be decides.
-- Assumes nothing.
use Rattle.std.proofs.Common.{sym, ap, ◌∙◌}
use Rattle.std.proofs.Math.Bool.{true≢false}
use Rattle.std.specs.Prelude.{Ok}
use Rattle.router.specs.Running.{Writing}
use Rattle.router.specs.Inside.{writing_of}
use Rattle.router.proofs.Taken.{taken_as, cycles_held, configuration_first}
use Rattle.router.proofs.running.block.Goals as goal
use Rattle.router.proofs.running.block.Goals.{Start}

-- the run that is handed in
abbrev given : Start → Writing
given c = writing_of c.args.config c.args.before c.args.store.now c.args.wire.now c.args.home.now c.args.out.now

pub cycles-requires : goal.cycles-requires
cycles-requires c =
    let s = (goal.at.cycles-requires c).Start in
    let h = cycles_held c.args.block.now (given s) c.judge-answer.result _ c.judge-answer.ensures (c.in-Ok.is ∙ ap Ok c.in-Cycles.is) in
    (record { sound = c.requires.1.sound; few = c.requires.1.few; room = c.requires.1.room }, h.whole, h.most, h.held)

pub returns-in-Configuration : goal.returns-in-Configuration
returns-in-Configuration c =
    let s = (goal.at.returns-in-Configuration c).Start in
    absurd (true≢false (sym c.requires.0
    ∙ (configuration_first c.args.block.now (given s) c.judge-answer.result _ c.judge-answer.ensures (c.in-Ok.is ∙ ap Ok c.in-Configuration.is)).0))

pub returns-in-Cycles : goal.returns-in-Cycles
returns-in-Cycles c =
    let s = (goal.at.returns-in-Cycles c).Start in
    c.cycles.ensures ∙ taken_as c.args.block.now (given s) c.judge-answer.result _ c.judge-answer.ensures (c.in-Ok.is ∙ ap Ok c.in-Cycles.is)

pub returns-in-End : goal.returns-in-End
returns-in-End c =
    taken_as c.args.block.now (given (goal.at.returns-in-End c).Start) c.judge-answer.result _ c.judge-answer.ensures (c.in-Ok.is ∙ ap Ok c.in-End.is)

pub returns-in-Done : goal.returns-in-Done
returns-in-Done c =
    let s = (goal.at.returns-in-Done c).Start in
    c.finish.ensures c.args.config c.args.store.now c.args.wire.now c.args.home.now
    ∙ taken_as c.args.block.now (given s) c.judge-answer.result _ c.judge-answer.ensures (c.in-Ok.is ∙ ap Ok c.in-Done.is)

pub returns-in-Err : goal.returns-in-Err
returns-in-Err c =
    let s = (goal.at.returns-in-Err c).Start in
    c.refuse.ensures c.args.config c.args.store.now c.args.wire.now c.args.home.now
    ∙ taken_as c.args.block.now (given s) c.judge-answer.result _ c.judge-answer.ensures c.in-Err.is
