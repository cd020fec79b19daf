-- `runs::is_between` meets its contract.
-- Assumes nothing.
use mathlib.Core.Path.{◌≡◌, sym, ◌∙◌}
use mathlib.Core.Bool.{true}
use Prim.Native.Nat.{◌≤◌}
use native.Mathlib.Omega.{arith}
use Rattle.trace.specs.Place.{good_place}
use Rattle.trace.proofs.Places.{good_cycles}
use Rattle.runs.proofs.Tests.{nowhere_between, ended_between, going_between}
use Rattle.runs.proofs.is_between.Goals as goal
use Rattle.runs.proofs.is_between.Goals.{Else-not-is_good}

good : (c : Else-not-is_good) → good_place c.args.place c.args.cycles ≡ true
good c = sym c.is_good.ensures ∙ c.if-not-is_good.false

pub returns-then-not-is_good : goal.returns-then-not-is_good
returns-then-not-is_good c = nowhere_between c.args.place c.args.cycles
    (sym c.is_good.ensures ∙ c.if-not-is_good.true)

-- the sums fit
few : (c : Else-not-is_good) → c.args.cycles ≤ 1000000000
few c = good_cycles c.args.place c.args.cycles (good c)

pub overflow_add-result : goal.overflow_add-result
overflow_add-result c = let l = few (goal.at.overflow_add-result c).Else-not-is_good in record { fits = omega arith }

pub returns-then-place : goal.returns-then-place
returns-then-place c =
    ended_between c.args.place c.args.cycles (good (goal.at.returns-then-place c).Else-not-is_good) c.if-place.true

pub overflow_add-result-2 : goal.overflow_add-result-2
overflow_add-result-2 c = let l = few (goal.at.overflow_add-result-2 c).Else-not-is_good in record { fits = omega arith }

pub returns : goal.returns
returns c =
    going_between c.args.place c.args.cycles (good (goal.at.returns c).Else-not-is_good) c.if-place.false
