-- `router::judge::judge` meets its contract.
-- Assumes nothing.
use Rattle.std.proofs.Common.{arith}
use Rattle.router.proofs.FirstPort.{port_below}
use Rattle.router.proofs.judge.judge.Goals as goal

pub refusing-requires-in-Some-first_past_room : goal.refusing-requires-in-Some-first_past_room
refusing-requires-in-Some-first_past_room c = let l = port_below _ _ _ c.in-Some-first_past_room.ensures in omega arith

pub refusing-requires-in-Some-first_out_of_turn : goal.refusing-requires-in-Some-first_out_of_turn
refusing-requires-in-Some-first_out_of_turn c = let l = port_below _ _ _ c.in-Some-first_out_of_turn.ensures in omega arith

pub refusing-requires-in-Some-first_without_credit : goal.refusing-requires-in-Some-first_without_credit
refusing-requires-in-Some-first_without_credit c = let l = port_below _ _ _ c.in-Some-first_without_credit.ensures in omega arith
