-- `runs::is_inside` meets its contract: the search goes up, and none was found so far.
-- Assumes nothing.
use mathlib.Core.Path.{◌≡◌, sym, ◌∙◌}
use mathlib.Core.Bool.{false}
use Prim.Native.Nat.{◌-◌}
use native.Mathlib.Omega.{arith}
use borrow.Author.Tests.{not-true, not-false}
use Rattle.base.specs.Search.{any}
use Rattle.base.proofs.Search.{some_number}
use Rattle.runs.specs.Run.{stopped_inside}
use Rattle.runs.proofs.Tests.{in_last, early_inside, none_inside, ended_inside, search_all, search_found, search_few}
use Rattle.runs.proofs.Tests.{search_on, search_none}
use Rattle.runs.proofs.is_inside.Goals as goal
use Rattle.runs.proofs.is_inside.Goals.{After-struct_known-3-1}

pub returns-then-not-place : goal.returns-then-not-place
returns-then-not-place c = early_inside c.args.place c.args.cycles (not-true _ c.if-not-place.true)

pub returns-then-place-eq0 : goal.returns-then-place-eq0
returns-then-place-eq0 c = none_inside c.args.place c.args.cycles
    (not-false _ c.if-not-place.false) c.if-place-eq0.true

pub returns-then-place : goal.returns-then-place
returns-then-place c = ended_inside c.args.place
    c.args.cycles (not-false _ c.if-not-place.false)
    (some_number _ c.if-place-eq0.false) c.if-place.true

-- the whole search
whole : (c : After-struct_known-3-1)
    → any 7 (in_last (record {
      number = c.args.place.number - 1;
      configured =
          c.args.place.configured;
      ended = false;
    }) c.args.cycles)
    ≡ stopped_inside c.args.place
    c.args.cycles
whole c = search_all c.args.place
    c.args.cycles (not-false _ c.if-not-place.false)
    (some_number _ c.if-place-eq0.false) c.if-place.false

pub returns-then-cycles-inside : goal.returns-then-cycles-inside
returns-then-cycles-inside c = search_few _ _ c.loop-inside.inside c.loop-inside.invariant.1 c.if-cycles-inside.true
    ∙ whole (goal.at.returns-then-cycles-inside c).After-struct_known-3-1

pub returns-then-is_between : goal.returns-then-is_between
returns-then-is_between c =
    search_found _ _ c.loop-inside.inside c.loop-inside-test.true c.if-cycles-inside.false
    (sym c.is_between.ensures ∙ c.if-is_between.true) ∙ whole (goal.at.returns-then-is_between c).After-struct_known-3-1

pub loop-inside-preserved : goal.loop-inside-preserved
loop-inside-preserved c = (
  omega arith,
  search_on _ _ c.loop-inside.inside c.loop-inside.invariant.1 c.if-cycles-inside.false
      (sym c.is_between.ensures ∙ c.if-is_between.false),
)

pub returns : goal.returns
returns c = search_none _ _ c.loop-inside.inside c.loop-inside.invariant.1 c.loop-inside-test.false ∙ whole
    (goal.at.returns c).After-struct_known-3-1

pub overflow_sub-before : goal.overflow_sub-before
overflow_sub-before c =
    some_number _ c.if-place-eq0.false

pub loop-inside-init : goal.loop-inside-init
loop-inside-init c =
    (omega arith, λ i l. absurd (omega arith))

pub loop-inside-smaller : goal.loop-inside-smaller
loop-inside-smaller c =
    omega arith
