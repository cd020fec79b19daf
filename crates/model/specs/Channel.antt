-- One VC of one input: its sender's count, its wire, its queue, its credits on the way home.
-- Assumes nothing.
use Rattle.std.specs.Prelude.{List, [], ◌++◌, ℕ, ◌+◌, ◌-◌, length, drop, replicate}
use Rattle.model.specs.Lists.{flat, total}
use Rattle.model.specs.Line.{out, shift}
use Rattle.model.specs.Sizes.{Config}

pub record Channel (Flit : Type 0) : Type 0 where
  pub taken : ℕ  -- slots that the sender has taken: their flits are on the wire or queued, or their credits are on the way home
  pub wire : List (List Flit)  -- a line of F places, each with the flits accepted in one cycle
  pub queue : List Flit  -- the front first
  pub home : List ℕ  -- a line of B places, each with the number of credits that set out in one cycle

-- "There each sender credit is D, .. nothing bound or on its way." (01, Sizes)
abbrev pub fresh_channel : {Flit : Type 0} → Config → Channel Flit
fresh_channel c = record { taken = 0; wire = replicate c.forward []; queue = []; home = replicate c.back 0 }

module _ {Flit : Type 0} where
  -- "Credits that left an input B cycles ago reach its sender" (01, phase 1)
  abbrev pub reaching : Channel Flit → ℕ
  reaching ch = out 0 ch.home

  -- ".. each raises that VC's sender credit by one": one slot less is taken. The count after phase 1.
  abbrev pub taken_now : Channel Flit → ℕ
  taken_now ch = ch.taken - reaching ch

  -- "A flit accepted F cycles ago joins the end of its VC queue." (01, phase 3) The queue after phase 3.
  abbrev pub queue_now : Channel Flit → List Flit
  queue_now ch = ch.queue ++ out [] ch.wire

  -- The channel after a cycle in which the flits `offered` were taken and n flits left:
  -- "A taken flit costs one sender credit and enters the wire." (01, phase 4)
  -- "Each winner leaves its queue, .. and puts a credit on the way home." (01, phase 7)
  abbrev pub after_cycle : Channel Flit → List Flit → ℕ → Channel Flit
  after_cycle ch offered n =
      record {
        taken = taken_now ch + length offered;
        wire = shift ch.wire offered;
        queue = drop n (queue_now ch);
        home = shift ch.home n;
      }

  -- the flits on the wire, oldest first
  abbrev pub on_wire : Channel Flit → List Flit
  on_wire ch = flat ch.wire

  -- the number of credits on the way home
  abbrev pub going_home : Channel Flit → ℕ
  going_home ch = total ch.home

  -- the stored credits: D less what is taken. Demand 3 shows that this minus cuts nothing off.
  abbrev pub stored : Config → Channel Flit → ℕ
  stored c ch = c.depth - ch.taken
