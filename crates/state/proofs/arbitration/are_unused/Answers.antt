-- `state::arbitration::are_unused` meets its contract: the ports passed so far have no arbiters.
-- Assumes nothing.
use mathlib.Core.Path.{sym, ◌∙◌}
use borrow.Author.Rules.{rules}
use Rattle.state.specs.Sound.{arbiters_unused}
use Rattle.state.specs.Testing.{no_arbiters}
use Rattle.state.proofs.Tests.{every_more, every_passed, every_fails}
use Rattle.state.proofs.PortArbiters.{none_from, none_below, none_is}
use Rattle.state.proofs.arbitration.are_unused.Goals as goal

pub loop-i-init : goal.loop-i-init
loop-i-init c = (
  search rules,
  c.requires.ports.1,
  none_below c.args.config.ports c.args.vcs c.args.inputs
      c.args.outputs,
)

pub returns-then-not-are_none : goal.returns-then-not-are_none
unfolding arbiters_unused no_arbiters
returns-then-not-are_none c =
    every_fails 8 c.loop-i.i (none_from
    c.args.config.ports
    c.args.vcs
    c.args.inputs
    c.args.outputs) (search rules) (none_is
    c.args.config.ports
    c.args.vcs
    c.args.inputs
    c.args.outputs
    c.loop-i.i
    c.loop-i.invariant.0
    ∙ (sym c.are_none.ensures ∙ c.if-not-are_none.true))

pub loop-i-preserved : goal.loop-i-preserved
loop-i-preserved c = (
  search rules,
  search rules,
  every_more c.loop-i.i (none_from
      c.args.config.ports
      c.args.vcs
      c.args.inputs
      c.args.outputs)
      c.loop-i.invariant.2
      (none_is c.args.config.ports
      c.args.vcs
      c.args.inputs
      c.args.outputs
      c.loop-i.i
      c.loop-i.invariant.0 ∙ (sym c.are_none.ensures ∙ c.if-not-are_none.false)),
)

pub returns : goal.returns
unfolding arbiters_unused no_arbiters
returns c =
    sym (every_passed 8 c.loop-i.i (none_from c.args.config.ports
    c.args.vcs
    c.args.inputs c.args.outputs) c.loop-i.invariant.1 (search rules)
    c.loop-i.invariant.2)
