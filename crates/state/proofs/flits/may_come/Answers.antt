-- `state::flits::may_come` meets its contract.
-- Assumes nothing.
use Rattle.std.proofs.Common.{◌≡◌, refl, Bool, true, false, not}
use Rattle.std.proofs.Math.Bool.{beq, xor}
use Rattle.state.proofs.flits.may_come.Goals as goal

differ : (a b : Bool) → not (beq a b) ≡ xor a b
unfolding xor
differ true b = refl
differ false true = refl
differ false false = refl

pub returns : goal.returns
returns c = rw (← c.starts.ensures) (differ c.args.inside c.starts.result)
